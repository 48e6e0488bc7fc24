-- What is kept of a plan is within its limits.
use Rattle.std.proofs.Common.{◌≡◌, ℕ, zero, suc, ◌+◌, ◌<◌, ◌≤◌, ◌⊎◌, List, [], ◌∷◌, length, map, take, Some, inl, inr, arith, refl, ap, ◌∙◌}
use Rattle.std.specs.Prelude.{slice_get}
use Rattle.std.specs.List.{AllByRecursion}
use Rattle.std.proofs.lemmas.Option.{none-some, same_Some}
use Rattle.model.specs.declared.act.Act.{Act}
use Rattle.model.specs.Plan.{Course, Plan}
use Rattle.plan_text.specs.Limits.{most_agents, most_acts, most_acts_in_all, acts_in, IsCourse, IsPlan}
use Rattle.continuing.specs.Continuing.{cut_course}

pub few-acts : (time : ℕ) (acts : List Act) → length (take time acts) ≤ length acts
few-acts zero acts = omega arith
few-acts (suc time) [] = omega arith
few-acts (suc time) (a ∷ acts) = let rest = few-acts time acts in omega (arith, rest)

count_before : (time i : ℕ) (courses : List Course) → i ≤ length courses → length (map (cut_course time) (take i courses)) ≡ i
count_before time zero courses most = refl
count_before time (suc i) [] most = absurd (omega (arith, most))
count_before time (suc i) (course ∷ courses) most = let rest = count_before time i courses (omega (arith, most)) in omega (arith, rest)

acts_before : (time i : ℕ) (courses : List Course) (course : Course) → slice_get courses i ≡ Some course
    → acts_in (map (cut_course time) (take i courses)) + length (take time course.acts) ≤ acts_in courses
acts_before time i [] course there = absurd (none-some course there)
acts_before time zero (first ∷ courses) course there =
    let few = few-acts time course.acts in
    let same = ap (λ k. length k.acts) (same_Some first course there) in
    omega (arith, few, same)
acts_before time (suc i) (first ∷ courses) course there =
    let few = few-acts time first.acts in
    let rest = acts_before time i courses course there in
    omega (arith, few, rest)

limit-of : (courses : List Course) (i : ℕ) (course : Course) → AllByRecursion IsCourse courses → slice_get courses i ≡ Some course → length course.acts ≤ most_acts
limit-of [] i course all there = absurd (none-some course there)
limit-of (first ∷ courses) zero course all there =
    let first_limit = (all.0).acts_limit in
    let same = ap (λ k. length k.acts) (same_Some first course there) in
    omega (arith, first_limit, same)
limit-of (first ∷ courses) (suc i) course all there = limit-of courses i course all.1 there

-- an agent of the plan, whose acts are cut, may follow those before it
pub fits-behind : (plan : Plan) (time i : ℕ) (course : Course) (kept : List Course) (acts : List Act) → IsPlan plan → i < length plan.courses
    → slice_get plan.courses i ≡ Some course → kept ≡ map (cut_course time) (take i plan.courses) → acts ≡ take time course.acts
    → (length kept ≡ most_agents) ⊎ ((most_acts < length acts) ⊎ (most_acts_in_all < acts_in kept + length acts)) → ⊥
fits-behind plan time i course kept acts is less there are is_cut (inl full) =
    let count = ap length are ∙ count_before time i plan.courses (omega (arith, less)) in
    let limit = is.agent_limit in
    omega (arith, full, count, limit, less)
fits-behind plan time i course kept acts is less there are is_cut (inr (inl long)) =
    let few = few-acts time course.acts in
    let count = ap length is_cut in
    let limit = limit-of plan.courses i course is.courses there in
    omega (arith, few, count, limit, long)
fits-behind plan time i course kept acts is less there are is_cut (inr (inr many)) =
    let few = acts_before time i plan.courses course there in
    let before = ap acts_in are in
    let count = ap length is_cut in
    let limit = is.acts_limit in
    omega (arith, few, before, count, limit, many)
