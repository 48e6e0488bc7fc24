-- What a proof that holds covers, line by line, and that its text says one thing.
use Rattle.std.proofs.Common.{◌≡◌, ℕ, inl, inr, List, [], ◌∷◌, ◌++◌, refl, sym, ap, ◌∙◌, subst, append-nil}
use Rattle.std.specs.Prelude.{⊤}
use Rattle.text_io.specs.Text.{ended}
use Rattle.text_io.specs.Reading.{by_line_feed, IsFirstFault, StopsIn, line_number}
use Rattle.grid.specs.Map.{Grid}
use Rattle.optimality.specs.declared.constraint.Ends.{Ends}
use Rattle.optimality.specs.declared.constraint.Objective.{Objective}
use Rattle.optimality.specs.declared.node.Node.{Node}
use Rattle.optimality.specs.Judging.{BoundHolds, Covers, LeafStands, Subtree, children, root}
use Rattle.optimality.specs.Splitting.{IsNode}
use Rattle.proof_text.specs.declared.claim.ProofClaim.{ProofClaim}
use Rattle.proof_text.specs.declared.proof_fault.ProofFault.{ProofFault}
use Rattle.proof_text.specs.ProofFault.{IsProofLineDue, ProofFaultAt}
use Rattle.proof_text.specs.ProofText.{ProofDue, ProofFollows, ProofLeads, ProofText, bound_due, header_due, nodes_due, objective_due}
use Rattle.proof_text.specs.Laws.Decided.{PlacesStand, StopsLast, no_fault_decided-over}
use Rattle.proof_text.specs.Laws.RightLines.{NotBothLeaves, fault_at_end, leads_are_lines, leads_once}

-- ---- what is covered

-- what the laws of trees say
abbrev pub RootCovers : Type 0
RootCovers = (m : Grid) (ends : List Ends) (objective : Objective) (bound : ℕ) → Covers m ends objective bound (root ∷ [])

abbrev pub SplitCovers : Type 0
SplitCovers = (m : Grid) (ends : List Ends) (objective : Objective) (bound : ℕ) (here : Subtree) (due : List Subtree) (n : Node) → IsNode n
    → Covers m ends objective bound (here ∷ due) → Covers m ends objective bound (children ends n here ++ due)

abbrev pub LeafCovers : Type 0
LeafCovers = (m : Grid) (ends : List Ends) (objective : Objective) (bound : ℕ) (here : Subtree) (due : List Subtree)
    → LeafStands m ends objective bound here.demands → Covers m ends objective bound (here ∷ due) → Covers m ends objective bound due

abbrev pub WholeCovers : Type 0
WholeCovers = (m : Grid) (ends : List Ends) (objective : Objective) (bound : ℕ) → Covers m ends objective bound [] → BoundHolds m ends objective bound

-- what right lines have covered, by what is due behind them
abbrev HasCovered : Grid → List Ends → ProofDue → Type 0
HasCovered m ends header_due = ⊤
HasCovered m ends objective_due = ⊤
HasCovered m ends (bound_due objective) = ⊤
HasCovered m ends (nodes_due objective bound count due) = Covers m ends objective bound due

module _ (at_root : RootCovers) (split : SplitCovers) (leaf : LeafCovers) (m : Grid) (ends : List Ends) where
  line_covers : (due : ProofDue) (line : List ℕ) (next : ProofDue) → ProofFollows m ends due line next → HasCovered m ends due → HasCovered m ends next
  line_covers header_due line next h covers = subst (HasCovered m ends) (sym h.1) tt
  line_covers objective_due line next h covers = subst (HasCovered m ends) (sym h.2) tt
  line_covers (bound_due objective) line next h covers = subst (HasCovered m ends) (sym h.3) (at_root m ends objective h.0)
  line_covers (nodes_due objective bound count []) line next h covers = absurd h
  line_covers (nodes_due objective bound count (here ∷ due)) line next (within, inl h) covers =
      subst (HasCovered m ends) (sym h.2) (leaf m ends objective bound here due h.1 covers)
  line_covers (nodes_due objective bound count (here ∷ due)) line next (within, inr h) covers =
      subst (HasCovered m ends) (sym h.2) (split m ends objective bound here due h.0 h.1.is_node covers)

  lines_cover : (first : ProofDue) (lines : List (List ℕ)) (last : ProofDue) → ProofLeads m ends first lines last → HasCovered m ends first → HasCovered m ends last
  lines_cover first [] last h covers = subst (HasCovered m ends) (sym h) covers
  lines_cover first (line ∷ lines) last h covers = lines_cover h.0 lines last h.2 (line_covers first line h.0 h.1 covers)

  pub bound_holds : WholeCovers → (claim : ProofClaim) (text : List ℕ) → ProofText m ends claim text → BoundHolds m ends claim.objective claim.bound
  bound_holds whole claim text h = whole m ends claim.objective claim.bound (lines_cover header_due h.lines _ h.right tt)

-- ---- what a text says

-- a text is cut in one way
abbrev pub CutOnce : Type 0
CutOnce = (text : List ℕ) (before others : List (List ℕ)) (line other : List ℕ) → StopsIn by_line_feed before line text
    → StopsIn by_line_feed others other text → (before ≡ others) × (line ≡ other)

module _ (m : Grid) (ends : List Ends) where
  proof_text-stops : (claim : ProofClaim) (text : List ℕ) (h : ProofText m ends claim text) → StopsIn by_line_feed h.lines [] text
  proof_text-stops claim text h =
      (h.bytes ∙ sym (append-nil (ended h.lines)), leads_are_lines m ends header_due h.lines _ h.right, refl)

  pub says_once : CutOnce → (claim other : ProofClaim) (text : List ℕ) → ProofText m ends claim text → ProofText m ends other text → claim ≡ other
  says_once cut claim other text h k =
      let same = (cut text h.lines k.lines [] [] (proof_text-stops claim text h) (proof_text-stops other text k)).0 in
      let last = leads_once m ends header_due k.lines (nodes_due claim.objective claim.bound claim.nodes [])
      (nodes_due other.objective other.bound other.nodes []) (subst (λ ls. ProofLeads m ends header_due ls _) same h.right) k.right in
      let objective : claim.objective ≡ other.objective = cc in
      let bound : claim.bound ≡ other.bound = cc in
      let nodes : claim.nodes ≡ other.nodes = cc in
      ap (λ o. record claim { objective = o }) objective
      ∙ (ap (λ n. record { objective = other.objective; bound = n; nodes = claim.nodes }) bound
      ∙ ap (λ n. record { objective = other.objective; bound = other.bound; nodes = n }) nodes)

  pub says_no_fault : PlacesStand → StopsLast → CutOnce → NotBothLeaves → (claim : ProofClaim) (fault : ProofFault) (text : List ℕ) → ProofText m ends claim text
      → IsFirstFault (ProofFaultAt m ends) fault text → ⊥
  says_no_fault stand last cut leaves claim fault text h (inl decided) =
      no_fault_decided-over leaves m ends stand last h.lines [] text _ (proof_text-stops claim text h) refl h.right fault decided
  says_no_fault stand last cut leaves claim fault text h (inr at) =
      let same = (cut text at.before h.lines at.line [] at.judged (proof_text-stops claim text h)).0 in
      let due = leads_once m ends header_due h.lines at.due (nodes_due claim.objective claim.bound claim.nodes [])
      (subst (λ ls. ProofLeads m ends header_due ls at.due) same at.right) h.right in
      subst IsProofLineDue due (fault_at_end m ends fault at.due (line_number at.before) at.line at.faulty)
