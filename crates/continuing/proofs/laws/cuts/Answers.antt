-- A plan and its beginning.
use Rattle.std.proofs.Common.{◌≡◌, ℕ, zero, suc, ◌≤◌, List, [], ◌∷◌, length, arith, refl, sym, ◌∙◌}
use Rattle.std.specs.Prelude.{MatchOption, map, take, slice_get}
use Rattle.model.specs.declared.act.Act.{Act}
use Rattle.model.specs.Plan.{Position, position_of, moved, Course, position_after, position_at, longest_of}
use Rattle.continuing.specs.Continuing.{cut_course, cut_at}
use Rattle.continuing.proofs.TrackedLemmas.{agrees-by}
use Rattle.continuing.proofs.laws.cuts.Goals as goal

place-same : (time : ℕ) (p : Position) (acts : List Act) (t : ℕ) → t ≤ time → position_after p (take time acts) t ≡ position_after p acts t
place-same zero p [] zero most = refl
place-same zero p (a ∷ acts) zero most = refl
place-same zero p acts (suc t) most = absurd (omega (arith, most))
place-same (suc time) p [] t most = refl
place-same (suc time) p (a ∷ acts) zero most = refl
place-same (suc time) p (a ∷ acts) (suc t) most = place-same time (moved a p) acts t (omega (arith, most))

no-later : (time : ℕ) (acts : List Act) → length (take time acts) ≤ time
no-later zero acts = omega arith
no-later (suc time) [] = omega arith
no-later (suc time) (a ∷ acts) = let rest = no-later time acts in omega (arith, rest)

ends : (time : ℕ) (courses : List Course) → longest_of (map (cut_course time) courses) ≤ time
ends time [] = omega arith
ends time (course ∷ courses) =
    let first = no-later time course.acts in
    let rest = ends time courses in
    omega (arith, first, rest)

count-same : (time : ℕ) (courses : List Course) → length (map (cut_course time) courses) ≡ length courses
count-same time [] = refl
count-same time (course ∷ courses) = let rest = count-same time courses in omega (arith, rest)

at-same : (time : ℕ) (courses : List Course) (i t : ℕ) (place : Position) → t ≤ time
    → MatchOption (slice_get (map (cut_course time) courses) i) ⊥ (λ course. position_at course t ≡ place)
    → MatchOption (slice_get courses i) ⊥ (λ course. position_at course t ≡ place)
at-same time [] i t place most at = at
at-same time (course ∷ courses) zero t place most at = sym (place-same time (position_of course.start) course.acts t most) ∙ at
at-same time (course ∷ courses) (suc i) t place most at = at-same time courses i t place most at

pub returns-clause-continues : goal.returns-clause-continues
returns-clause-continues c = λ plan time. record {
  number = refl;
  agents = sym (count-same time plan.courses);
  same = λ i t place most at. (let end = ends time plan.courses in at-same time plan.courses i t place (omega (arith, most, end)) at);
}

pub returns-clause-ends : goal.returns-clause-ends
returns-clause-ends c = λ plan time. ends time plan.courses

pub returns-clause-agrees : goal.returns-clause-agrees
returns-clause-agrees c = λ plan time before after is whole.
    agrees-by time (cut_at time plan) plan before after refl (sym (count-same time plan.courses)) (λ i t place most at. at-same time plan.courses i t place most at) is whole
