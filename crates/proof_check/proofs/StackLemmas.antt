-- The nodes that are due.
use Rattle.std.proofs.Common.{◌≡◌, ◌∙◌, ℕ, ◌+◌, ◌<◌, ◌≤◌, List, [], ◌∷◌, ◌++◌, length, take, arith, refl, sym, ap, subst, zero, suc, length-append, length-take, inl, inr}
use Rattle.std.proofs.Math.Seq.{take-length}
use Rattle.optimality.specs.declared.constraint.Demand.{Demand}
use Rattle.optimality.specs.declared.constraint.Ends.{Ends}
use Rattle.optimality.specs.declared.node.Node.{Node}
use Rattle.optimality.specs.declared.constraint.Objective.{Objective}
use Rattle.optimality.specs.Judging.{Subtree, children}
use Rattle.proof_text.specs.ProofFault.{IsProofLineDue}
use Rattle.proof_text.specs.ProofText.{nodes_due}
use Rattle.proof_check.specs.declared.judge.Aim.{Aim}
use Rattle.proof_check.specs.declared.progress.Stage.{Stage}
use Rattle.proof_check.specs.declared.progress.Stage.TheVariants as stage
use Rattle.proof_check.specs.declared.progress.Progress.{Progress}
use Rattle.proof_check.specs.Code.Progressing.{IsProgress, NextDue, due_at, due_of}
use Rattle.grid.specs.Map.{Grid}
use Rattle.std.specs.Prelude.{Bool, true, ◌==◌, not}
use Rattle.std.proofs.lemmas.Bool.{eq-eqb, eqb-true, cases_Bool, not-true, false≢true}
use Rattle.proof_check.specs.declared.due.DueNode.{DueNode}
use Rattle.proof_check.specs.declared.trail.Child.TheVariants.{First, Second}
use Rattle.proof_check.specs.Code.Rising.{RisesTo}
use Rattle.proof_check.specs.Code.Stack.{parents_asked, subtree_of, subtrees}
use Rattle.proof_check.specs.Code.Trails.{child_demands}
use Rattle.proof_check.proofs.RisingLemmas.{rising-front, rising-last, rising-more, rising-push}
use Rattle.proof_check.proofs.TrailLemmas.{AreSameBelow, same_front}

-- the last is due next
pub subtrees-push : (ends : List Ends) (demands : List Demand) (nodes : List DueNode) (node : DueNode)
    → subtrees ends demands (nodes ++ node ∷ []) ≡ subtree_of ends demands node ∷ subtrees ends demands nodes
subtrees-push ends demands [] node = refl
subtrees-push ends demands (one ∷ nodes) node = ap (λ (l : List Subtree). l ++ subtree_of ends demands one ∷ []) (subtrees-push ends demands nodes node)

pub asked-push : (nodes : List DueNode) (node : DueNode) → parents_asked (nodes ++ node ∷ []) ≡ parents_asked nodes ++ node.asked ∷ []
asked-push [] node = refl
asked-push (one ∷ nodes) node = ap (λ l. one.asked ∷ l) (asked-push nodes node)

-- the others stay where what is asked changes behind their parents
pub subtrees_stay : (ends : List Ends) (demands others : List Demand) (count : ℕ) (nodes : List DueNode) → AreSameBelow count demands others
    → RisesTo (parents_asked nodes) count → subtrees ends others nodes ≡ subtrees ends demands nodes
subtrees_stay ends demands others count [] same rising = refl
subtrees_stay ends demands others count (node ∷ nodes) same rising =
    ap (λ (l : List Subtree). l ++ subtree_of ends others node ∷ []) (subtrees_stay ends demands others count nodes same rising.2)
    ∙ ap (λ (d : List Demand). subtrees ends demands nodes ++ record { demands = d ++ child_demands ends node.child; above = node.above } ∷ [])
    (sym (same node.asked rising.0))

-- without the last
pub due_front : (nodes : List DueNode) (node : DueNode) (n : ℕ) → RisesTo (parents_asked (nodes ++ node ∷ [])) n → RisesTo (parents_asked nodes) node.asked
due_front nodes node n is = rising-front (parents_asked nodes) node.asked n (subst (λ l. RisesTo l n) (asked-push nodes node) is)

pub due_last : (nodes : List DueNode) (node : DueNode) (n : ℕ) → RisesTo (parents_asked (nodes ++ node ∷ [])) n → node.asked ≤ n
due_last nodes node n is = rising-last (parents_asked nodes) node.asked n (subst (λ l. RisesTo l n) (asked-push nodes node) is)

pub due_push : (nodes : List DueNode) (node : DueNode) (n : ℕ) → RisesTo (parents_asked nodes) n → node.asked ≡ n → RisesTo (parents_asked (nodes ++ node ∷ [])) n
due_push nodes node n is same =
    subst (λ l. RisesTo l n) (sym (asked-push nodes node))
    (rising-push (parents_asked nodes) node.asked n (subst (RisesTo (parents_asked nodes)) (sym same) is) (omega (arith, same)))

-- both children of a node
pub children-push : (ends : List Ends) (demands : List Demand) (nodes : List DueNode) (node : Node) (asked above : ℕ) → asked ≡ length demands
    → subtrees ends demands ((nodes ++ record { asked = asked; child = Second node; above = above + 1 } ∷ []) ++ record { asked = asked; child = First node; above = above + 1 } ∷ [])
    ≡ children ends node (record { demands = demands; above = above }) ++ subtrees ends demands nodes
children-push ends demands nodes node asked above all =
    let second : DueNode = record { asked = asked; child = Second node; above = above + 1 } in
    let first : DueNode = record { asked = asked; child = First node; above = above + 1 } in
    let whole : take asked demands ≡ demands = ap (λ n. take n demands) all ∙ take-length demands in
    subtrees-push ends demands (nodes ++ second ∷ []) first
    ∙ ap (λ (l : List Subtree). subtree_of ends demands first ∷ l) (subtrees-push ends demands nodes second)
    ∙ ap (λ (d : List Demand). record { demands = d ++ child_demands ends (First node); above = above + 1 }
    ∷ record { demands = d ++ child_demands ends (Second node); above = above + 1 } ∷ subtrees ends demands nodes) whole

-- ---- which line is due

-- where a node is due, there is a last one
last_due : (nodes : List DueNode) (node : DueNode) → (others : List DueNode) × (next : DueNode) × (node ∷ nodes ≡ others ++ next ∷ [])
last_due [] node = ([], node, refl)
last_due (one ∷ nodes) node = let rest = last_due nodes one in (node ∷ rest.0, rest.1, ap (λ (l : List DueNode). node ∷ l) rest.2)

pub next_due : (ends : List Ends) (demands : List Demand) (s : Stage) (aim : Aim) (n : ℕ) (nodes : List DueNode) → s ≡ stage.Nodes aim
    → IsProofLineDue (due_at s n (subtrees ends demands nodes)) → (others : List DueNode) × (next : DueNode) × (nodes ≡ others ++ next ∷ [])
next_due ends demands s aim n [] is due = absurd (subst (λ (t : Stage). IsProofLineDue (due_at t n [])) is due)
next_due ends demands s aim n (node ∷ nodes) is due = last_due nodes node

pub due_is : (ends own : List Ends) (demands : List Demand) (nodes : List DueNode) (s : Stage) (aim : Aim) (n k : ℕ) (l : List Subtree) → s ≡ stage.Nodes aim
    → own ≡ ends → n ≡ k → subtrees ends demands nodes ≡ l → due_at s n (subtrees own demands nodes) ≡ nodes_due aim.objective aim.bound k l
due_is ends own demands nodes s aim n k l is same count all =
    ap (λ (t : Stage). due_at t n (subtrees own demands nodes)) is
    ∙ ap (λ (e : List Ends). nodes_due aim.objective aim.bound n (subtrees e demands nodes)) same
    ∙ ap (λ (c : ℕ). nodes_due aim.objective aim.bound c (subtrees ends demands nodes)) count
    ∙ ap (λ (d : List Subtree). nodes_due aim.objective aim.bound k d) all

-- a line is due where a node is
due_by : (objective : Objective) (bound n : ℕ) (front : List Subtree) (last : Subtree) → IsProofLineDue (nodes_due objective bound n (front ++ last ∷ []))
due_by objective bound n [] last = tt
due_by objective bound n (one ∷ front) last = tt

pub nodes_or_none : (ends : List Ends) (demands : List Demand) (s : Stage) (aim : Aim) (n : ℕ) (nodes : List DueNode) → s ≡ stage.Nodes aim
    → (0 < length nodes → IsProofLineDue (due_at s n (subtrees ends demands nodes)))
    × (length nodes ≡ 0 → IsProofLineDue (due_at s n (subtrees ends demands nodes)) → ⊥)
nodes_or_none ends demands s aim n [] is = (λ some. absurd (omega (arith, some)), λ none due. subst (λ (t : Stage). IsProofLineDue (due_at t n [])) is due)
nodes_or_none ends demands s aim n (node ∷ nodes) is = (
  λ some. subst (λ (t : Stage). IsProofLineDue (due_at t n (subtrees ends demands (node ∷ nodes)))) (sym is)
      (due_by aim.objective aim.bound n (subtrees ends demands nodes) (subtree_of ends demands node)),
  λ none. absurd (omega (arith, none)),
)

-- no node is due any more
pub none_due : (ends : List Ends) (demands : List Demand) (s : Stage) (aim : Aim) (n : ℕ) (nodes : List DueNode) → s ≡ stage.Nodes aim
    → (IsProofLineDue (due_at s n (subtrees ends demands nodes)) → ⊥) → due_at s n (subtrees ends demands nodes) ≡ nodes_due aim.objective aim.bound n []
none_due ends demands s aim n [] is none = ap (λ (t : Stage). due_at t n []) is
none_due ends demands s aim n (node ∷ nodes) is none = absurd (none ((nodes_or_none ends demands s aim n (node ∷ nodes) is).0 (omega arith)))

-- the last of a list is one
pub same_last : (front others : List DueNode) (a b : DueNode) → front ++ a ∷ [] ≡ others ++ b ∷ [] → (others ≡ front) × (b ≡ a)
same_last [] [] a b is = (refl, cc)
same_last [] (y ∷ others) a b is = absurd (none others (cc))
  where
    none : (l : List DueNode) → [] ≡ l ++ b ∷ [] → ⊥
    none [] e = cc
    none (z ∷ l) e = cc
same_last (x ∷ front) [] a b is = absurd (none front (cc))
  where
    none : (l : List DueNode) → l ++ a ∷ [] ≡ [] → ⊥
    none [] e = cc
    none (z ∷ l) e = cc
same_last (x ∷ front) (y ∷ others) a b is =
    let rest = same_last front others a b (cc) in
    let first : y ≡ x = cc in
    (ap (λ (l : List DueNode). y ∷ l) rest.0 ∙ ap (λ (z : DueNode). z ∷ front) first, rest.1)

-- whether a node is due, by whether the list of those is empty
pub due_decided : (P : Type 0) (empty : Bool) (k n : ℕ) → empty ≡ (k == 0) → k ≡ n → (0 < n → P) × (n ≡ 0 → P → ⊥) → ((not empty ≡ true → P) × (P → not empty ≡ true))
due_decided P empty k zero is same cases =
    let none : empty ≡ true = is ∙ eq-eqb k 0 same in
    (λ some. absurd (false≢true (sym (not-true empty some) ∙ none)), λ p. absurd (cases.1 refl p))
due_decided P empty k (suc n) is same cases = (
  λ some. cases.0 (omega arith),
  λ p. elim (cases_Bool empty) [
    | inl none ↦ absurd (let zero' = eqb-true k 0 (sym is ∙ none) in omega (arith, zero', same))
    | inr some ↦ ap not some
  ],
)

-- what a progress has due next
pub next_of : (m : Grid) (ends : List Ends) (aim : Aim) (p : Progress) → IsProgress m ends p → p.stage ≡ stage.Nodes aim → IsProofLineDue (due_of p) → NextDue ends aim p
next_of m ends aim p is at due =
    let parts = next_due p.judge.ends.items p.judge.trail.demands.items p.stage aim p.nodes p.due.items at due in
    record {
      others = parts.0;
      next = parts.1;
      items = parts.2;
      is_due = due_is ends p.judge.ends.items p.judge.trail.demands.items p.due.items p.stage aim p.nodes p.nodes _ at is.same_ends refl
          (ap (subtrees ends p.judge.trail.demands.items) parts.2 ∙ subtrees-push ends p.judge.trail.demands.items parts.0 parts.1);
    }

-- what was asked before, and what is asked at the next node
pub gone : (ends : List Ends) (demands new : List Demand) (due others : List DueNode) (next : DueNode) → due ≡ others ++ next ∷ []
    → RisesTo (parents_asked due) (length demands) → new ≡ take next.asked demands ++ child_demands ends next.child
    → RisesTo (parents_asked others) (length new) × (new ≡ (subtree_of ends demands next).demands) × (subtrees ends new others ≡ subtrees ends demands others)
gone ends demands new due others next is rises asked =
    let rising = subst (λ (l : List DueNode). RisesTo (parents_asked l) (length demands)) is rises in
    let most = due_last others next (length demands) rising in
    let front = due_front others next (length demands) rising in
    let few : next.asked ≤ length new =
    omega (arith, most, ap length asked, length-append (take next.asked demands) (child_demands ends next.child), length-take next.asked demands) in (
      rising-more (parents_asked others) next.asked (length new) front few,
      asked,
      subtrees_stay ends demands new next.asked others (same_front demands (child_demands ends next.child) new next.asked most asked) front,
    )
