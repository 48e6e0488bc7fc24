-- What the lines of a proof so far said.
use Rattle.std.specs.Prelude.{◌≡◌, ℕ, ◌^◌, ◌-◌, ◌<◌, ◌≤◌, ◌⊎◌, List, [], ◌∷◌, ◌++◌, length}
use Rattle.grid.specs.Map.{Grid}
use Rattle.optimality.specs.declared.constraint.Demand.{Demand}
use Rattle.optimality.specs.declared.constraint.Ends.{Ends}
use Rattle.optimality.specs.declared.node.Node.{Node}
use Rattle.optimality.specs.Judging.{LeafIsLow, Subtree, children}
use Rattle.proof_text.specs.declared.proof_fault.ProofFault.{ProofFault}
use Rattle.proof_text.specs.declared.proof_fault.ProofFault.TheVariants.{LeafTooLow, NoSuchAgent}
use Rattle.proof_text.specs.declared.proof_fault.ProofFault.TheVariants.{OffMap}
use Rattle.proof_text.specs.ProofLines.{HasAgents, HasCells}
use Rattle.proof_text.specs.ProofText.{ProofDue, bound_due, header_due, nodes_due, objective_due}
use Rattle.proof_text.specs.Code.ProofReading.{IsUnjudged}
use Rattle.proof_check.specs.declared.due.DueNode.{DueNode}
use Rattle.proof_check.specs.declared.judge.Aim.{Aim}
use Rattle.proof_check.specs.declared.progress.Progress.{Progress}
use Rattle.proof_check.specs.declared.progress.Stage.{Stage}
use Rattle.proof_check.specs.declared.progress.Stage.TheVariants as stage
use Rattle.proof_check.specs.Code.Rising.{RisesTo}
use Rattle.proof_check.specs.Code.Stack.{parents_asked, subtree_of, subtrees}
use Rattle.proof_check.specs.Code.Trails.{AreTables, IsTrail}

-- the line that is due, where so many nodes came and these subtrees are due
abbrev pub due_at : Stage → ℕ → List Subtree → ProofDue
due_at stage.Header nodes due = header_due
due_at stage.Objective nodes due = objective_due
due_at (stage.Bound objective) nodes due = bound_due objective
due_at (stage.Nodes aim) nodes due = nodes_due aim.objective aim.bound nodes due

abbrev pub due_subtrees : Progress → List Subtree
due_subtrees p = subtrees p.judge.ends.items p.judge.trail.demands.items p.due.items

abbrev pub due_of : Progress → ProofDue
due_of p = due_at p.stage p.nodes (due_subtrees p)

-- the nodes that are due are those of a tree, and what was found holds
pub record IsProgress (m : Grid) (ends : List Ends) (p : Progress) : Type 0 where
  pub same_map : p.map.now ≡ m
  pub same_ends : p.judge.ends.items ≡ ends
  pub tables : AreTables m ends p.judge.tables.items
  pub trail : IsTrail m ends p.judge.trail.demands.items p.judge.trail.kept.items
  pub rising : RisesTo (parents_asked p.due.items) (length p.judge.trail.demands.items)

-- no more nodes are above it than may be, and so many may have come before
abbrev pub IsWithinTree : ℕ → ℕ → Type 0
IsWithinTree nodes above = (above ≤ 65535) × (nodes < 2 ^ 32 - 1)

-- why a node can't stand here
abbrev pub IsMisplaced : Grid → List Ends → Node → ℕ → ProofFault → Type 0
IsMisplaced m ends node number fault =
    ((fault ≡ NoSuchAgent number) × (HasAgents ends node → ⊥))
    ⊎ ((fault ≡ OffMap number) × HasAgents ends node × (HasCells m node → ⊥))

abbrev pub IsPlaced : Grid → List Ends → Node → Type 0
IsPlaced m ends node = HasAgents ends node × HasCells m node

-- the same nodes are due, and as many came
pub record StaysAt (old new : Progress) : Type 0 where
  pub stage : new.stage ≡ old.stage
  pub nodes : new.nodes ≡ old.nodes
  pub due : new.due ≡ old.due
  pub demands : new.judge.trail.demands ≡ old.judge.trail.demands

-- the next node was gone to: it isn't due any more, and what is asked is what is asked there
pub record HasGoneTo (ends : List Ends) (others : List DueNode) (next : DueNode)
    (old new : Progress) : Type 0 where
  pub stage : new.stage ≡ old.stage
  pub nodes : new.nodes ≡ old.nodes
  pub due : new.due.items ≡ others
  pub demands : new.judge.trail.demands.items
      ≡ (subtree_of ends old.judge.trail.demands.items next).demands
  pub rest : subtrees ends new.judge.trail.demands.items others
      ≡ subtrees ends old.judge.trail.demands.items others

-- the children of a node became due in its place
pub record HasSplit (ends : List Ends) (node : Node) (above : ℕ) (old new : Progress) : Type 0 where
  pub stage : new.stage ≡ old.stage
  pub nodes : new.nodes ≡ old.nodes
  pub due : subtrees ends new.judge.trail.demands.items new.due.items
      ≡ children ends node (record { demands = old.judge.trail.demands.items; above = above })
      ++ subtrees ends old.judge.trail.demands.items old.due.items

-- why a leaf is refused
abbrev pub IsLeafRefused : Grid → List Ends → Aim → List Demand → ℕ → ProofFault → Type 0
IsLeafRefused m ends aim demands number fault =
    IsUnjudged fault ⊎ ((least : ℕ) × (fault ≡ LeafTooLow number least)
    × LeafIsLow m ends aim.objective aim.bound demands least)

-- which node is due next
pub record NextDue (ends : List Ends) (aim : Aim) (p : Progress) : Type 0 where
  pub others : List DueNode
  pub next : DueNode
  pub items : p.due.items ≡ others ++ next ∷ []
  pub is_due : due_of p ≡ nodes_due aim.objective aim.bound p.nodes
      (subtree_of ends p.judge.trail.demands.items next ∷ subtrees ends
      p.judge.trail.demands.items others)
