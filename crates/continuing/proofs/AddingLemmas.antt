-- A plan that goes on from another has as many moves at least.
use Rattle.std.proofs.Common.{◌≡◌, ℕ, suc, ◌<◌, ◌≤◌, List, [], ◌∷◌, length, Some, arith, refl, sym, ap, subst, ◌∙◌}
use Rattle.std.specs.Prelude.{cond, count_by, slice_get, MatchOption}
use Rattle.std.proofs.lemmas.List.Sums.{count_by-le-length, sum_by-cons}
use Rattle.model.specs.declared.act.Act.{Act}
use Rattle.model.specs.Plan.{Course, Plan, position_of, moved, position_at, longest_of}
use Rattle.plan_text.specs.Limits.{acts_in}
use Rattle.continuing.specs.Adding.{changes_cell, moves_made}
use Rattle.continuing.specs.Continuing.{Continues}
use Rattle.continuing.specs.Code.Apart.{act_in_step}
use Rattle.continuing.proofs.CourseLemmas.{longest-most, next-place, same-act}

abbrev weight : Act → ℕ
weight a = cond (changes_cell a) 1 0

abbrev pub moves_along : Course → ℕ
moves_along course = count_by changes_cell course.acts

pub moves-few : (courses : List Course) → moves_made courses ≤ acts_in courses
moves-few [] = omega arith
moves-few (course ∷ courses) =
    let sum = sum_by-cons moves_along course courses in
    let first = count_by-le-length changes_cell course.acts in
    let rest = moves-few courses in
    omega (arith, sum, first, rest)

-- ---- one course

same-acts : (old new : Course) (n : ℕ) → ((t : ℕ) → t ≤ n → position_at new t ≡ position_at old t)
    → (t : ℕ) → t < n → act_in_step new.acts t ≡ act_in_step old.acts t
same-acts old new n same t less =
    same-act (act_in_step new.acts t) (act_in_step old.acts t) (position_at old t)
    (sym (ap (moved (act_in_step new.acts t)) (same t (omega (arith, less)))) ∙ sym (next-place (position_of new.start) new.acts t)
    ∙ same (suc t) (omega (arith, less)) ∙ next-place (position_of old.start) old.acts t)

count-grows : (xs ys : List Act) → ((t : ℕ) → t < length xs → act_in_step ys t ≡ act_in_step xs t)
    → count_by changes_cell xs ≤ count_by changes_cell ys
count-grows [] ys same = omega arith
count-grows (x ∷ xs) [] same =
    let sum = sum_by-cons weight x xs in
    let first = ap weight (same 0 (omega arith)) in
    let rest = count-grows xs [] (λ t less. same (suc t) (omega (arith, less))) in
    omega (arith, sum, first, rest)
count-grows (x ∷ xs) (y ∷ ys) same =
    let sum = sum_by-cons weight x xs in
    let other = sum_by-cons weight y ys in
    let first = ap weight (same 0 (omega arith)) in
    let rest = count-grows xs ys (λ t less. same (suc t) (omega (arith, less))) in
    omega (arith, sum, other, first, rest)

-- ---- all of them

sums-grow : (xs ys : List Course) → length ys ≡ length xs
    → ((i : ℕ) (x y : Course) → slice_get xs i ≡ Some x → slice_get ys i ≡ Some y → moves_along x ≤ moves_along y) → moves_made xs ≤ moves_made ys
sums-grow [] ys count each = omega arith
sums-grow (x ∷ xs) [] count each = absurd (omega (arith, count))
sums-grow (x ∷ xs) (y ∷ ys) count each =
    let sum = sum_by-cons moves_along x xs in
    let other = sum_by-cons moves_along y ys in
    let first = each 0 x y refl refl in
    let rest = sums-grow xs ys (omega (arith, count)) (λ i. each (suc i)) in
    omega (arith, sum, other, first, rest)

together : (old new : Plan) → Continues old new → (i : ℕ) (x y : Course) → slice_get old.courses i ≡ Some x → slice_get new.courses i ≡ Some y
    → (t : ℕ) → t ≤ longest_of old.courses → position_at y t ≡ position_at x t
together old new h i x y was is t most =
    let place = position_at x t in
    subst (λ o. MatchOption o ⊥ (λ k. position_at k t ≡ place)) is
    (h.same i t place most (subst (λ o. MatchOption o ⊥ (λ k. position_at k t ≡ place)) (sym was) refl))

pub moves-kept : (old new : Plan) → Continues old new → moves_made old.courses ≤ moves_made new.courses
moves-kept old new h =
    sums-grow old.courses new.courses h.agents (λ i x y was is.
    (let most = longest-most old.courses i x was in
    count-grows x.acts y.acts (λ t less.
    same-acts x y (longest_of old.courses) (together old new h i x y was is) t (omega (arith, most, less)))))
