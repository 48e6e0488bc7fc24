-- Which lines of a proof are right, one after another, and which text is a proof that holds.
use Rattle.std.specs.Prelude.{◌≡◌, ℕ, ◌+◌, ◌-◌, ◌^◌, ◌<◌, ◌≤◌, ◌⊎◌, List, [], ◌∷◌, ◌++◌, codes}
use Rattle.text_io.specs.Reading.{LeadsBy}
use Rattle.text_io.specs.Text.{ended}
use Rattle.grid.specs.Map.{Grid}
use Rattle.optimality.specs.declared.constraint.Ends.{Ends}
use Rattle.optimality.specs.declared.constraint.Objective.{Objective}
use Rattle.optimality.specs.declared.node.Node.{Node}
use Rattle.optimality.specs.Judging.{LeafStands, Subtree, children, root}
use Rattle.optimality.specs.Splitting.{IsNode}
use Rattle.plan_text.specs.PlanText.{SaysNumber}
use Rattle.proof_text.specs.declared.claim.ProofClaim.{ProofClaim}
use Rattle.proof_text.specs.ProofLines.{HasAgents, HasCells, SpellsNode}
use Rattle.proof_text.specs.ProofLines.{objective_line, proof_header}

-- The line that is due, by what the lines before it said: the header, the objective, the bound, or
-- the next node of the tree, where so many have come and these are due. Where none is due any more,
-- no line is.
pub data ProofDue : Type 0 where
  header_due objective_due : ProofDue
  bound_due : (objective : Objective) → ProofDue
  nodes_due : (objective : Objective) (bound count : ℕ) (due : List Subtree) → ProofDue

-- no node has more above it, and no tree has more
abbrev pub most_above : ℕ
most_above = 65535

abbrev pub most_nodes : ℕ
most_nodes = 2 ^ 32 - 1

pub record IsWithinLimits (count : ℕ) (here : Subtree) : Type 0 where
  pub above : here.above ≤ most_above
  pub nodes : count < most_nodes

-- a node that may stand here, on this map and by these agents
pub record IsFitting (m : Grid) (ends : List Ends) (node : Node) (line : List ℕ) : Type 0 where
  pub spells : SpellsNode node line
  pub is_node : IsNode node
  pub agents : HasAgents ends node
  pub cells : HasCells m node

-- The line is right where it is due, and what is due next. In place of a node that splits come its
-- children, and a leaf has to stand.
abbrev pub ProofFollows : Grid → List Ends → ProofDue → List ℕ → ProofDue → Type 0
ProofFollows m ends header_due line next = (line ≡ proof_header) × (next ≡ objective_due)
ProofFollows m ends objective_due line next =
    (objective : Objective) × (line ≡ objective_line objective) × (next ≡ bound_due objective)
ProofFollows m ends (bound_due objective) line next =
    (n : ℕ) × SaysNumber (codes "bound ") n line × (n < 2 ^ 32)
    × (next ≡ nodes_due objective n 0 (root ∷ []))
ProofFollows m ends (nodes_due objective bound count []) line next = ⊥
ProofFollows m ends (nodes_due objective bound count (here ∷ due)) line next =
    IsWithinLimits count here
    × (((line ≡ codes "leaf") × LeafStands m ends objective bound here.demands
    × (next ≡ nodes_due objective bound (count + 1) due))
    ⊎ ((node : Node) × IsFitting m ends node line
    × (next ≡ nodes_due objective bound (count + 1) (children ends node here ++ due))))

abbrev pub ProofLeads : Grid → List Ends → ProofDue → List (List ℕ) → ProofDue → Type 0
ProofLeads m ends = LeadsBy (ProofFollows m ends)

-- The text is a proof that holds: its lines, each ended by an LF, are right, and no node is due
-- behind them.
pub record ProofText (m : Grid) (ends : List Ends) (claim : ProofClaim)
    (text : List ℕ) : Type 0 where
  pub lines : List (List ℕ)
  pub bytes : text ≡ ended lines
  pub right : ProofLeads m ends header_due lines
      (nodes_due claim.objective claim.bound claim.nodes [])
