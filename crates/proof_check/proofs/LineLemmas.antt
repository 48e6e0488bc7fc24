-- What the line of a node adds, or why it is refused.
use Rattle.std.proofs.Common.{◌≡◌, ℕ, ◌+◌, ◌≤◌, ◌⊎◌, List, ◌∷◌, ◌++◌, length, refl, sym, subst, inl, inr, codes}
use Rattle.text_io.specs.Reading.{at_line_feed}
use Rattle.grid.specs.Map.{Grid}
use Rattle.optimality.specs.declared.constraint.Ends.{Ends}
use Rattle.optimality.specs.declared.constraint.Objective.{Objective}
use Rattle.optimality.specs.declared.node.Node.{Node}
use Rattle.optimality.specs.Judging.{LeafIsLow, LeafStands, Subtree, children}
use Rattle.optimality.specs.Splitting.{IsNode}
use Rattle.proof_text.specs.declared.proof_fault.ProofFault.{ProofFault}
use Rattle.proof_text.specs.declared.proof_fault.ProofFault.TheVariants.{LeafTooLow, NoSuchAgent, OffMap, TooMany}
use Rattle.proof_text.specs.ProofFault.{HasProofFault, SpellsSome, longest_proof_line}
use Rattle.proof_text.specs.ProofLines.{SpellsNode}
use Rattle.proof_text.specs.ProofText.{ProofDue, ProofFollows, nodes_due}
use Rattle.proof_text.specs.Code.ProofReading.{IsUnjudged, ProofRefuses}
use Rattle.proof_check.specs.Code.Progressing.{IsMisplaced, IsPlaced, IsWithinTree}

module _ (m : Grid) (ends : List Ends) (objective : Objective) (bound count number : ℕ) (here : Subtree) (rest : List Subtree) (line : List ℕ)
    (due : ProofDue) (is_due : due ≡ nodes_due objective bound count (here ∷ rest)) (short : length line ≤ longest_proof_line) where
  -- a fault of the line
  refuses : (fault : ProofFault) → HasProofFault m ends fault at_line_feed (nodes_due objective bound count (here ∷ rest)) number line
      → ProofRefuses m ends due number line fault
  refuses fault h = subst (λ d. ProofRefuses m ends d number line fault) (sym is_due) (inr h)

  pub refused_by_form : (fault : ProofFault)
      → ((m : Grid) (ends : List Ends) (objective : Objective) (bound count : ℕ) (here : Subtree) (due : List Subtree)
      → HasProofFault m ends fault at_line_feed (nodes_due objective bound count (here ∷ due)) number line) → ProofRefuses m ends due number line fault
  refused_by_form fault h = refuses fault (h m ends objective bound count here rest)

  pub refused_by_limits : (fault : ProofFault) → SpellsSome line → (fault ≡ TooMany number) × (IsWithinTree count here.above → ⊥) → ProofRefuses m ends due number line fault
  refused_by_limits fault spells h =
      subst (λ f. ProofRefuses m ends due number line f) (sym h.0)
      (refuses (TooMany number)
      (refl, inr (record { ended = refl; short = short }, tt, spells, λ within. h.1 (within.above, within.nodes))))

  pub refused_by_place : (fault : ProofFault) (node : Node) → SpellsNode node line → IsNode node → IsWithinTree count here.above → IsMisplaced m ends node number fault
      → ProofRefuses m ends due number line fault
  refused_by_place fault node spells is_node within (inl none) =
      subst (λ f. ProofRefuses m ends due number line f) (sym none.0)
      (refuses (NoSuchAgent number)
      (refl, record { ended = refl; short = short }, record { above = within.0; nodes = within.1 }, node, spells, is_node, none.1))
  refused_by_place fault node spells is_node within (inr off) =
      subst (λ f. ProofRefuses m ends due number line f) (sym off.0)
      (refuses (OffMap number)
      (refl, record { ended = refl; short = short }, record { above = within.0; nodes = within.1 }, node, spells, is_node, off.1, off.2))

  pub refused_by_leaf : (fault : ProofFault) → line ≡ codes "leaf" → IsWithinTree count here.above
      → IsUnjudged fault ⊎ ((least : ℕ) × (fault ≡ LeafTooLow number least) × LeafIsLow m ends objective bound here.demands least)
      → ProofRefuses m ends due number line fault
  refused_by_leaf fault is within (inl unjudged) = inl unjudged
  refused_by_leaf fault is within (inr low) =
      subst (λ f. ProofRefuses m ends due number line f) (sym low.1)
      (refuses (LeafTooLow number low.0)
      (refl, record { ended = refl; short = short }, record { above = within.0; nodes = within.1 }, is, low.2))

  -- a leaf that stands
  pub leaf_follows : (next : ProofDue) → line ≡ codes "leaf" → IsWithinTree count here.above → LeafStands m ends objective bound here.demands
      → next ≡ nodes_due objective bound (count + 1) rest → ProofFollows m ends due line next
  leaf_follows next is within stands then =
      subst (λ d. ProofFollows m ends d line next) (sym is_due) (record { above = within.0; nodes = within.1 }, inl (is, stands, then))

  -- a node that splits
  pub node_follows : (next : ProofDue) (node : Node) → SpellsNode node line → IsNode node → IsWithinTree count here.above → IsPlaced m ends node
      → next ≡ nodes_due objective bound (count + 1) (children ends node here ++ rest) → ProofFollows m ends due line next
  node_follows next node spells is_node within placed then =
      subst (λ d. ProofFollows m ends d line next) (sym is_due) (
        record { above = within.0; nodes = within.1 },
        inr (node, record { spells = spells; is_node = is_node; agents = placed.0; cells = placed.1 }, then),
      )
