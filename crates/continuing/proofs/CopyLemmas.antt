-- A plan that is cut at its end stays whole, and that end is a time.
use Rattle.std.proofs.Common.{◌≡◌, ◌∙◌, ℕ, ◌≤◌, List, [], ◌∷◌, length, map, take, refl, ap, ap₂, arith}
use Rattle.std.proofs.Math.Nat.{le-max_left, le-max_right}
use Rattle.std.proofs.lemmas.List.{take_all}
use Rattle.model.specs.Plan.{Course, Plan, longest_of}
use Rattle.plan_text.specs.Limits.{IsPlan, acts_in, most_acts_in_all}
use Rattle.continuing.specs.Continuing.{cut_at, cut_course}

uncut : (time : ℕ) (courses : List Course) → longest_of courses ≤ time → map (cut_course time) courses ≡ courses
uncut time [] within = refl
uncut time (course ∷ courses) within =
    let own = le-max_left (length course.acts) (longest_of courses) in
    let others = le-max_right (length course.acts) (longest_of courses) in
    ap₂ (λ acts rest. record { start = course.start; acts = acts } ∷ rest) (take_all time course.acts (omega (arith, own, within)))
    (uncut time courses (omega (arith, others, within)))

longest_in : (courses : List Course) → longest_of courses ≤ acts_in courses
longest_in [] = omega arith
longest_in (course ∷ courses) = let rest = longest_in courses in omega (arith, rest)

pub end-few : (p : Plan) → IsPlan p → longest_of p.courses ≤ most_acts_in_all
end-few p is = let long = longest_in p.courses in let few = is.acts_limit in omega (arith, long, few)

pub cut-end : (p : Plan) → cut_at (longest_of p.courses) p ≡ p
cut-end p = ap (λ courses. record p { courses = courses }) (uncut (longest_of p.courses) p.courses (omega arith))
