-- A fault of a plan is one of each plan that goes on from it.
use Rattle.std.proofs.Common.{◌≡◌, ℕ, zero, suc, ◌+◌, ◌≤◌, List, [], ◌∷◌, length, Some, None, inl, inr, arith, refl, sym, ap, subst, ◌∙◌}
use Rattle.std.specs.Prelude.{Option, MatchOption, slice_get, ◌≢◌}
use Rattle.std.proofs.lemmas.Bool.{cases_lt}
use Rattle.std.proofs.lemmas.Option.{none-some, same_Some, slice_get_within}
use Rattle.grid.specs.declared.cell.Cell.{Cell}
use Rattle.grid.specs.Map.{Grid}
use Rattle.model.specs.declared.act.Act.{Act}
use Rattle.model.specs.declared.act.Act.TheVariants.{Wait}
use Rattle.model.specs.declared.plan_fault.PlanFault.{PlanFault}
use Rattle.model.specs.declared.plan_fault.PlanFault.TheVariants.{BadStart, BadMove, Vertex, Swap, OutOfMemory}
use Rattle.model.specs.Plan.{Position, position_of, moved, Course, Plan, position_after, position_at, course_of, IsAt, IsPassable, IsLegal, IsBadMove, HasPlanFault, longest_of}
use Rattle.model.specs.Laws.Options.{some-found}
use Rattle.model.specs.Laws.Places.{same_place, position_after-end}
use Rattle.continuing.specs.Continuing.{Continues}
use Rattle.continuing.proofs.CourseLemmas.{longest-most, position_at-start, same-act}
use Rattle.continuing.proofs.laws.valid_before.Goals as goal

-- ---- a step and its act

-- an act that is no wait leads to another place
leads-away : (act : Act) (p : Position) → act ≢ Wait → moved act p ≡ p → ⊥
leads-away act p moves stays = moves (same-act act Wait p stays)

step-leads : (p : Position) (acts : List Act) (t : ℕ) (act : Act) → slice_get acts t ≡ Some act → position_after p acts (suc t) ≡ moved act (position_after p acts t)
step-leads p [] t act there = absurd (none-some act there)
step-leads p (a ∷ acts) zero act there = position_at-start (moved a p) acts ∙ ap (λ b. moved b p) (same_Some a act there)
step-leads p (a ∷ acts) (suc t) act there = step-leads (moved a p) acts t act there

-- a step that leads to another place has an act, and that is no wait
step-moves : (p : Position) (acts : List Act) (t : ℕ) → position_after p acts t ≢ position_after p acts (suc t)
    → (act : Act) × (slice_get acts t ≡ Some act) × (act ≢ Wait)
step-moves p [] t leaves = absurd (leaves refl)
step-moves p (a ∷ acts) zero leaves = (a, refl, λ e. leaves (sym (position_at-start (moved a p) acts ∙ ap (λ b. moved b p) e)))
step-moves p (a ∷ acts) (suc t) leaves = step-moves (moved a p) acts t leaves

-- a course that leads to the same places moves badly where the other does
module _ (m : Grid) (course next : Course) (step end : ℕ) (most : length course.acts ≤ end)
    (same : (t : ℕ) → t ≤ end → position_at next t ≡ position_at course t) where
  acts-badly : (act : Act) → slice_get course.acts step ≡ Some act → act ≢ Wait → (IsLegal m (position_at course step) (position_at course (step + 1)) → ⊥)
      → IsBadMove m next step
  acts-badly act there moves illegal =
      let within = slice_get_within course.acts step act there in
      let one : step + 1 ≡ suc step = omega arith in
      let from = same step (omega (arith, within, most)) in
      let to = same (step + 1) (omega (arith, within, most)) in
      let leads = step-leads (position_of course.start) course.acts step act there in
      let leaves : position_at next step ≢ position_at next (suc step)
      = λ e. leads-away act (position_at course step) moves
      (sym leads ∙ sym (ap (position_at course) one) ∙ sym to ∙ ap (position_at next) one ∙ sym e ∙ from) in
      let next_act = step-moves (position_of next.start) next.acts step leaves in
      let next_illegal : IsLegal m (position_at next step) (position_at next (step + 1)) → ⊥
      = λ legal. illegal
      (subst (λ q. IsLegal m q (position_at course (step + 1))) from (subst (IsLegal m (position_at next step)) to legal)) in
      subst (λ o. MatchOption o ⊥ (λ a. (a ≢ Wait) × (IsLegal m (position_at next step) (position_at next (step + 1)) → ⊥))) (sym next_act.1)
      (next_act.2, next_illegal)

  moves-badly : IsBadMove m course step → IsBadMove m next step
  moves-badly bad =
      let move
      = some-found (slice_get course.acts step) (λ act. (act ≢ Wait) × (IsLegal m (position_at course step) (position_at course (step + 1)) → ⊥)) bad in
      acts-badly move.0 move.1 move.2.0 move.2.1

-- ---- what the one plan has the other has

module _ (m : Grid) (old new : Plan) (goes_on : Continues old new) where
  abbrev end : ℕ
  end = longest_of old.courses

  -- an agent of the old plan, and the same agent by the new one
  record Both (i : ℕ) (course : Course) : Type 0 where
    next : Course
    there : course_of new i ≡ Some next
    same : (t : ℕ) → t ≤ end → position_at next t ≡ position_at course t

  at_from : (p : Plan) (i t : ℕ) (place : Position) (course : Course) → course_of p i ≡ Some course → position_at course t ≡ place → IsAt p i t place
  at_from p i t place course there at = subst (λ o. MatchOption o ⊥ (λ k. position_at k t ≡ place)) (sym there) at

  both : (i : ℕ) (course : Course) → course_of old i ≡ Some course → Both i course
  both i course there = record {
    next = first.0;
    there = first.1;
    same = λ t most.
        (let now = by_new t most in
        ap (λ k. position_at k t) (same_Some first.0 now.0 (sym first.1 ∙ now.1)) ∙ now.2);
  } where
    by_new : (t : ℕ) → t ≤ end → (next : Course) × (course_of new i ≡ Some next) × (position_at next t ≡ position_at course t)
    by_new t most =
        some-found (course_of new i) (λ k. position_at k t ≡ position_at course t)
        (goes_on.same i t (position_at course t) most (at_from old i t (position_at course t) course there refl))

    first : (next : Course) × (course_of new i ≡ Some next) × (position_at next 0 ≡ position_at course 0)
    first = by_new 0 (omega arith)

  -- past the end everybody stays
  stays : (i t : ℕ) (place : Position) → end ≤ t → IsAt old i t place → IsAt old i end place
  stays i t place past at =
      let found = some-found (course_of old i) (λ k. position_at k t ≡ place) at in
      let course = found.0 in
      let most = longest-most old.courses i course found.1 in
      let rests = position_after-end (position_of course.start) course.acts in
      at_from old i end place course found.1 (rests end (omega (arith, most)) ∙ sym (rests t (omega (arith, most, past))) ∙ found.2)

  bad_start : (i : ℕ) → HasPlanFault m old (BadStart i) → HasPlanFault m new (BadStart i)
  bad_start i bad =
      let found = some-found (course_of old i) (λ k. IsPassable m k.start → ⊥) bad in
      let course = found.0 in
      let now = both i course found.1 in
      let next = now.next in
      let start : next.start ≡ course.start
      = same_place next.start course.start
      (sym (position_at-start (position_of next.start) next.acts) ∙ now.same 0 (omega arith) ∙ position_at-start (position_of course.start) course.acts) in
      subst (λ o. MatchOption o ⊥ (λ k. IsPassable m k.start → ⊥)) (sym now.there) (λ passable. found.2 (subst (IsPassable m) start passable))

  bad_move : (i step : ℕ) → HasPlanFault m old (BadMove i step) → HasPlanFault m new (BadMove i step)
  bad_move i step bad =
      let found = some-found (course_of old i) (λ k. IsBadMove m k step) bad in
      let now = both i found.0 found.1 in
      let moves = moves-badly m found.0 now.next step end (longest-most old.courses i found.0 found.1) now.same found.2 in
      subst (λ o. MatchOption o ⊥ (λ k. IsBadMove m k step)) (sym now.there) moves

  vertex : (i j t : ℕ) (c : Cell) → HasPlanFault m old (Vertex i j t c) → (other : PlanFault) × HasPlanFault m new other
  vertex i j t c has =
      let p = position_of c in
      elim (cases_lt t end) [
        | inl less ↦ (Vertex i j t c, (has.0, goes_on.same i t p (omega (arith, less)) has.1, goes_on.same j t p (omega (arith, less)) has.2))
        | inr past ↦ (
          Vertex i j end c,
          (has.0, goes_on.same i end p (omega arith) (stays i t p past has.1), goes_on.same j end p (omega arith) (stays j t p past has.2)),
        )
      ]

  one_place : (o : Option Course) (t : ℕ) (u v : Position) → MatchOption o ⊥ (λ k. position_at k t ≡ u) → MatchOption o ⊥ (λ k. position_at k t ≡ v) → u ≡ v
  one_place None t u v h k = absurd h
  one_place (Some course) t u v h k = sym h ∙ k

  swap : (i j step : ℕ) → HasPlanFault m old (Swap i j step) → HasPlanFault m new (Swap i j step)
  swap i j step (less, u, v, apart, i_from, i_to, j_from, j_to) = elim (cases_lt step end) [
    | inl early ↦
        let here : step ≤ end = omega (arith, early) in
        let there : step + 1 ≤ end = omega (arith, early) in (
          less,
          u,
          v,
          apart,
          goes_on.same i step u here i_from,
          goes_on.same i (step + 1) v there i_to,
          goes_on.same j step v here j_from,
          goes_on.same j (step + 1) u there j_to,
        )
    | inr past ↦ absurd (apart (one_place (course_of old i) end u v (stays i step u past i_from) (stays i (step + 1) v (omega (arith, past)) i_to)))
  ]

  carried : (fault : PlanFault) → HasPlanFault m old fault → (other : PlanFault) × HasPlanFault m new other
  carried (BadStart i) has = (BadStart i, bad_start i has)
  carried (BadMove i step) has = (BadMove i step, bad_move i step has)
  carried (Vertex i j t c) has = vertex i j t c has
  carried (Swap i j step) has = (Swap i j step, swap i j step has)
  carried OutOfMemory has = absurd has

pub returns : goal.returns
returns c m old new goes_on valid fault has =
    let other = carried m old new goes_on fault has in
    valid other.0 other.1
