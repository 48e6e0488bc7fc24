-- A right line is short, is right in one way, and has no fault.
use Rattle.std.proofs.Common.{◌≡◌, ℕ, ◌+◌, ◌≤◌, inl, inr, List, [], ◌∷◌}
use Rattle.std.proofs.Common.{◌++◌, length, refl, sym, ap, ◌∙◌, subst, arith, codes}
use Rattle.std.specs.List.{AllByRecursion}
use Rattle.text_io.specs.Reading.{at_line_feed, at_byte, at_end}
use Rattle.text_io.specs.Text.{IsLine}
use Rattle.grid.specs.Map.{Grid}
use Rattle.optimality.specs.declared.constraint.Demand.{Demand}
use Rattle.optimality.specs.declared.constraint.Ends.{Ends}
use Rattle.optimality.specs.declared.constraint.Objective.{Objective}
use Rattle.optimality.specs.declared.constraint.Objective.TheVariants.{Cost, Makespan}
use Rattle.optimality.specs.Judging.{LeafIsLow, LeafStands, children}
use Rattle.optimality.specs.Splitting.{IsNode}
use Rattle.plan_text.specs.PlanTextFault.{IsCoordinate}
use Rattle.proof_text.specs.declared.proof_fault.ProofFault.{ProofFault}
use Rattle.proof_text.specs.declared.proof_fault.ProofFault.TheVariants.{BadHeader, BadNode}
use Rattle.proof_text.specs.declared.proof_fault.ProofFault.TheVariants.{BadNumber, TooMany}
use Rattle.proof_text.specs.declared.proof_fault.ProofFault.TheVariants.{Unfinished, TextAfter}
use Rattle.proof_text.specs.declared.proof_fault.ProofFault.TheVariants.{NoSuchAgent, OffMap}
use Rattle.proof_text.specs.declared.proof_fault.ProofFault.TheVariants.{LeafTooLow, NotTight}
use Rattle.proof_text.specs.declared.proof_fault.ProofFault.TheVariants.{ReadFailed, OutOfMemory}
use Rattle.proof_text.specs.ProofFault.{HasProofFault, IsProofLineDue, longest_proof_line}
use Rattle.proof_text.specs.ProofLines.{HasAgents, HasCells, objective_line}
use Rattle.proof_text.specs.ProofText.{ProofDue, ProofFollows, ProofLeads, bound_due}
use Rattle.proof_text.specs.ProofText.{header_due, nodes_due, objective_due}
use Rattle.proof_text.specs.Laws.NodeSpelling.{leaf_has_form, leaf_spells_none, node_has_form}
use Rattle.proof_text.specs.Laws.NodeSpelling.{node_is_line, node_short, node_spelled_once}
use Rattle.proof_text.specs.Laws.NodeSpelling.{number_is_line, number_said_once, number_short}
use Rattle.proof_text.specs.Laws.NodeSpelling.{numerals_pass, one_form}

-- no leaf both stands and is too low
abbrev pub NotBothLeaves : Type 0
NotBothLeaves =
    (m : Grid) (ends : List Ends) (objective : Objective) (bound least : ℕ) (demands : List Demand)
    → LeafStands m ends objective bound demands → LeafIsLow m ends objective bound demands least → ⊥

-- ---- right in one way

objective_said_once : (a b : Objective) → objective_line a ≡ objective_line b → a ≡ b
objective_said_once Cost Cost e = refl
objective_said_once Cost Makespan e = absurd (omega (arith, ap length e))
objective_said_once Makespan Cost e = absurd (omega (arith, ap length e))
objective_said_once Makespan Makespan e = refl

module _ (m : Grid) (ends : List Ends) where
  pub follows_once : (due : ProofDue) (line : List ℕ) (next other : ProofDue)
      → ProofFollows m ends due line next → ProofFollows m ends due line other → next ≡ other
  follows_once header_due line next other h k = h.1 ∙ sym k.1
  follows_once objective_due line next other h k =
      h.2 ∙ (ap bound_due (objective_said_once h.0 k.0 (sym h.1 ∙ k.1)) ∙ sym k.2)
  follows_once (bound_due objective) line next other h k =
      h.3 ∙ (ap (λ n. nodes_due objective n 0 _)
      (number_said_once (codes "bound ") h.0 k.0 line h.1 k.1) ∙ sym k.3)
  follows_once (nodes_due objective bound count []) line next other h k = absurd h
  follows_once (nodes_due objective bound count (here ∷ due)) line next other (hw, inl h)
      (kw, inl k) = h.2 ∙ sym k.2
  follows_once (nodes_due objective bound count (here ∷ due)) line next other (hw, inl h)
      (kw, inr k) =
      absurd (leaf_spells_none k.0 line h.0 k.1.spells)
  follows_once (nodes_due objective bound count (here ∷ due)) line next other (hw, inr h)
      (kw, inl k) =
      absurd (leaf_spells_none h.0 line k.0 h.1.spells)
  follows_once (nodes_due objective bound count (here ∷ due)) line next other (hw, inr h)
      (kw, inr k) =
      h.2 ∙ (ap (λ node. nodes_due objective bound (count + 1) (children ends node here ++ due))
      (node_spelled_once h.0 k.0 line h.1.spells k.1.spells) ∙ sym k.2)

  pub leads_once : (first : ProofDue) (lines : List (List ℕ)) (last other : ProofDue)
      → ProofLeads m ends first lines last → ProofLeads m ends first lines other
      → last ≡ other
  leads_once first [] last other h k = h ∙ sym k
  leads_once first (line ∷ lines) last other h k =
      leads_once k.0 lines last other
      (subst (λ d. ProofLeads m ends d lines last) (follows_once first line h.0 k.0 h.1 k.1) h.2)
      k.2

  -- the line between right lines is right
  pub leads_between : (first : ProofDue) (before : List (List ℕ)) (line : List ℕ)
      (rest : List (List ℕ)) (last : ProofDue)
      → ProofLeads m ends first (before ++ line ∷ rest) last → (due next : ProofDue)
      × ProofLeads m ends first before due × ProofFollows m ends due line next
  leads_between first [] line rest last h = (first, h.0, refl, h.1)
  leads_between first (b ∷ before) line rest last h =
      let later = leads_between h.0 before line rest last h.2 in
      (later.0, later.1, (h.0, h.1, later.2), later.3)

  -- one more right line
  pub leads_on : (first : ProofDue) (before : List (List ℕ)) (due : ProofDue) (line : List ℕ)
      (next : ProofDue) → ProofLeads m ends first before due
      → ProofFollows m ends due line next → ProofLeads m ends first (before ++ line ∷ []) next
  leads_on first [] due line next is h =
      (next, subst (λ d. ProofFollows m ends d line next) is h, refl)
  leads_on first (b ∷ before) due line next h k =
      (h.0, h.1, leads_on h.0 before due line next h.2 k)

  -- ---- what a right line has not

  pub follows_due : (due : ProofDue) (line : List ℕ) (next : ProofDue)
      → ProofFollows m ends due line next → IsProofLineDue due
  follows_due header_due line next h = tt
  follows_due objective_due line next h = tt
  follows_due (bound_due objective) line next h = tt
  follows_due (nodes_due objective bound count []) line next h = h
  follows_due (nodes_due objective bound count (here ∷ due)) line next h = tt

  objective_short : (objective : Objective) → length (objective_line objective) ≤ longest_proof_line
  objective_short Cost = omega arith
  objective_short Makespan = omega arith

  pub follows_short : (due : ProofDue) (line : List ℕ) (next : ProofDue)
      → ProofFollows m ends due line next → length line ≤ longest_proof_line
  follows_short header_due line next h = omega (arith, ap length h.0)
  follows_short objective_due line next h = omega (arith, ap length h.1, objective_short h.0)
  follows_short (bound_due objective) line next h =
      number_short (codes "bound ") h.0 line h.1 h.2 refl
  follows_short (nodes_due objective bound count []) line next h = absurd h
  follows_short (nodes_due objective bound count (here ∷ due)) line next (hw, inl h) =
      omega (arith, ap length h.0)
  follows_short (nodes_due objective bound count (here ∷ due)) line next (hw, inr h) =
      node_short h.0 line h.1.spells

  objective_is_line : (objective : Objective) → IsLine (objective_line objective)
  objective_is_line Cost = refl
  objective_is_line Makespan = refl

  follows_is_line : (due : ProofDue) (line : List ℕ) (next : ProofDue)
      → ProofFollows m ends due line next → IsLine line
  follows_is_line header_due line next h = subst IsLine (sym h.0) refl
  follows_is_line objective_due line next h = subst IsLine (sym h.1) (objective_is_line h.0)
  follows_is_line (bound_due objective) line next h =
      number_is_line (codes "bound ") h.0 line refl h.1
  follows_is_line (nodes_due objective bound count []) line next h = absurd h
  follows_is_line (nodes_due objective bound count (here ∷ due)) line next (hw, inl h) =
      subst IsLine (sym h.0) refl
  follows_is_line (nodes_due objective bound count (here ∷ due)) line next (hw, inr h) =
      node_is_line h.0 line h.1.spells

  pub leads_are_lines : (first : ProofDue) (lines : List (List ℕ)) (last : ProofDue)
      → ProofLeads m ends first lines last → AllByRecursion IsLine lines
  leads_are_lines first [] last h = tt
  leads_are_lines first (line ∷ lines) last h =
      (follows_is_line first line h.0 h.1, leads_are_lines h.0 lines last h.2)

  -- a right line has no fault at its LF
  pub follows_faultless : NotBothLeaves
      → (fault : ProofFault) (due : ProofDue) (number : ℕ) (line : List ℕ) (next : ProofDue)
      → ProofFollows m ends due line next
      → HasProofFault m ends fault at_line_feed due number line → ⊥
  follows_faultless leaves (BadHeader at) header_due number line next h k = k.2 h.0
  follows_faultless leaves (BadHeader at) objective_due number line next h k = k.2 h.0 h.1
  follows_faultless leaves (BadHeader at) (bound_due objective) number line next h k =
      k.2 (h.1.0, h.1.1)
  follows_faultless leaves (BadHeader at) (nodes_due objective bound count due) number line
      next h k = k.2
  follows_faultless leaves (BadNode at) header_due number line next h k = k.2
  follows_faultless leaves (BadNode at) objective_due number line next h k = k.2
  follows_faultless leaves (BadNode at) (bound_due objective) number line next h k = k.2
  follows_faultless leaves (BadNode at) (nodes_due objective bound count []) number line next h k =
      h
  follows_faultless leaves (BadNode at) (nodes_due objective bound count (here ∷ due)) number line
      next (hw, inl h) (same, whole, is, inl none) =
      none [] (leaf_has_form line h.0)
  follows_faultless leaves (BadNode at) (nodes_due objective bound count (here ∷ due)) number line
      next (hw, inl h) (same, whole, is, inr k) =
      leaf_spells_none k.0 line h.0 k.1
  follows_faultless leaves (BadNode at) (nodes_due objective bound count (here ∷ due)) number line
      next (hw, inr h) (same, whole, is, inl none) =
      none h.1.spells.parts (node_has_form h.0 line h.1.spells)
  follows_faultless leaves (BadNode at) (nodes_due objective bound count (here ∷ due)) number line
      next (hw, inr h) (same, whole, is, inr k) =
      k.2 (subst IsNode (node_spelled_once h.0 k.0 line h.1.spells k.1) h.1.is_node)
  follows_faultless leaves (BadNumber at) header_due number line next h k = k.2
  follows_faultless leaves (BadNumber at) objective_due number line next h k = k.2
  follows_faultless leaves (BadNumber at) (bound_due objective) number line next h k =
      k.2.1 h.0 h.1 h.2
  follows_faultless leaves (BadNumber at) (nodes_due objective bound count []) number
      line next h k = h
  follows_faultless leaves (BadNumber at) (nodes_due objective bound count (here ∷ due)) number line
      next (hw, inl h) k =
      k.2.2 (subst (AllByRecursion IsCoordinate)
      (one_form [] k.2.0 line (leaf_has_form line h.0) k.2.1) tt)
  follows_faultless leaves (BadNumber at) (nodes_due objective bound count (here ∷ due)) number line
      next (hw, inr h) k =
      k.2.2 (subst (AllByRecursion IsCoordinate)
      (one_form h.1.spells.parts k.2.0 line (node_has_form h.0 line h.1.spells) k.2.1)
      (numerals_pass _ h.1.spells.parts h.1.spells.numerals))
  follows_faultless leaves (TooMany at) due number line next h (same, inl k) = let bad = k.0 in cc
  follows_faultless leaves (TooMany at) header_due number line next h (same, inr k) = k.1
  follows_faultless leaves (TooMany at) objective_due number line next h (same, inr k) = k.1
  follows_faultless leaves (TooMany at) (bound_due objective) number line next h (same, inr k) = k.1
  follows_faultless leaves (TooMany at) (nodes_due objective bound count []) number line next h
      (same, inr k) = h
  follows_faultless leaves (TooMany at) (nodes_due objective bound count (here ∷ due)) number line
      next h (same, inr k) = k.3 h.0
  follows_faultless leaves (Unfinished at) due number line next h k = let bad = k.1 in cc
  follows_faultless leaves (TextAfter at) due number line next h k =
      k.1 (follows_due due line next h)
  follows_faultless leaves (NoSuchAgent at) header_due number line next h k = k.2
  follows_faultless leaves (NoSuchAgent at) objective_due number line next h k = k.2
  follows_faultless leaves (NoSuchAgent at) (bound_due objective) number line next h k = k.2
  follows_faultless leaves (NoSuchAgent at) (nodes_due objective bound count []) number
      line next h k = h
  follows_faultless leaves (NoSuchAgent at) (nodes_due objective bound count (here ∷ due)) number
      line next (hw, inl h) k = leaf_spells_none k.3 line h.0 k.4
  follows_faultless leaves (NoSuchAgent at) (nodes_due objective bound count (here ∷ due)) number
      line next (hw, inr h) k =
      k.6 (subst (HasAgents ends) (node_spelled_once h.0 k.3 line h.1.spells k.4) h.1.agents)
  follows_faultless leaves (OffMap at) header_due number line next h k = k.2
  follows_faultless leaves (OffMap at) objective_due number line next h k = k.2
  follows_faultless leaves (OffMap at) (bound_due objective) number line next h k = k.2
  follows_faultless leaves (OffMap at) (nodes_due objective bound count []) number line next h k = h
  follows_faultless leaves (OffMap at) (nodes_due objective bound count (here ∷ due)) number line
      next (hw, inl h) k = leaf_spells_none k.3 line h.0 k.4
  follows_faultless leaves (OffMap at) (nodes_due objective bound count (here ∷ due)) number line
      next (hw, inr h) k =
      k.7 (subst (HasCells m) (node_spelled_once h.0 k.3 line h.1.spells k.4) h.1.cells)
  follows_faultless leaves (LeafTooLow at least) header_due number line next h k = k.2
  follows_faultless leaves (LeafTooLow at least) objective_due number line next h k = k.2
  follows_faultless leaves (LeafTooLow at least) (bound_due objective) number line next h k = k.2
  follows_faultless leaves (LeafTooLow at least) (nodes_due objective bound count []) number
      line next h k = h
  follows_faultless leaves (LeafTooLow at least) (nodes_due objective bound count (here ∷ due))
      number line next (hw, inl h) k =
      leaves m ends objective bound least here.demands h.1 k.4
  follows_faultless leaves (LeafTooLow at least) (nodes_due objective bound count (here ∷ due))
      number line next (hw, inr h) k =
      leaf_spells_none h.0 line k.3 h.1.spells
  follows_faultless leaves NotTight due number line next h k = k
  follows_faultless leaves ReadFailed due number line next h k = k
  follows_faultless leaves OutOfMemory due number line next h k = k

  -- where a line is due, a fault at a byte within it is that of a line too long
  pub fault_within
      : (fault : ProofFault) (due : ProofDue) (number : ℕ) (line : List ℕ) → IsProofLineDue due
      → HasProofFault m ends fault at_byte due number line → length line ≡ longest_proof_line + 1
  fault_within (BadHeader at) due number line is h = absurd (let bad = h.1.ended in cc)
  fault_within (BadNode at) due number line is h = absurd (let bad = h.1.ended in cc)
  fault_within (BadNumber at) due number line is h = absurd (let bad = h.1.ended in cc)
  fault_within (TooMany at) due number line is (same, inl h) = h.2
  fault_within (TooMany at) due number line is (same, inr h) = absurd (let bad = h.0.ended in cc)
  fault_within (Unfinished at) due number line is h = absurd (let bad = h.1 in cc)
  fault_within (TextAfter at) due number line is h = absurd (h.1 is)
  fault_within (NoSuchAgent at) due number line is h = absurd (let bad = h.1.ended in cc)
  fault_within (OffMap at) due number line is h = absurd (let bad = h.1.ended in cc)
  fault_within (LeafTooLow at least) due number line is h = absurd (let bad = h.1.ended in cc)
  fault_within NotTight due number line is h = absurd h
  fault_within ReadFailed due number line is h = absurd h
  fault_within OutOfMemory due number line is h = absurd h

  -- a fault at the end of the input is that of a line that is due
  pub fault_at_end : (fault : ProofFault) (due : ProofDue) (number : ℕ) (line : List ℕ)
      → HasProofFault m ends fault at_end due number line
      → IsProofLineDue due
  fault_at_end (BadHeader at) due number line h = absurd (let bad = h.1.ended in cc)
  fault_at_end (BadNode at) due number line h = absurd (let bad = h.1.ended in cc)
  fault_at_end (BadNumber at) due number line h = absurd (let bad = h.1.ended in cc)
  fault_at_end (TooMany at) due number line (same, inl h) = absurd (let bad = h.0 in cc)
  fault_at_end (TooMany at) due number line (same, inr h) = absurd (let bad = h.0.ended in cc)
  fault_at_end (Unfinished at) due number line h = h.2
  fault_at_end (TextAfter at) due number line (same, none, inl h) = absurd (let bad = h.0 in cc)
  fault_at_end (TextAfter at) due number line (same, none, inr h) = absurd (let bad = h.0 in cc)
  fault_at_end (NoSuchAgent at) due number line h = absurd (let bad = h.1.ended in cc)
  fault_at_end (OffMap at) due number line h = absurd (let bad = h.1.ended in cc)
  fault_at_end (LeafTooLow at least) due number line h = absurd (let bad = h.1.ended in cc)
  fault_at_end NotTight due number line h = absurd h
  fault_at_end ReadFailed due number line h = absurd h
  fault_at_end OutOfMemory due number line h = absurd h
