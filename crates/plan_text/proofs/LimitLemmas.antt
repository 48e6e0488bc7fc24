-- One more agent behind those there are.
use Rattle.std.proofs.Common.{◌≡◌, ℕ, ◌+◌, ◌<◌, ◌≤◌, List, [], ◌∷◌, ◌++◌, length, arith, length-append}
use Rattle.std.specs.List.{AllByRecursion}
use Rattle.model.specs.Plan.{Course}
use Rattle.plan_text.specs.Limits.{most_agents, most_acts_in_all, acts_in, IsCourse, IsPlan}

pub acts_in-push : (courses : List Course) (course : Course) → acts_in (courses ++ course ∷ []) ≡ acts_in courses + length course.acts
acts_in-push [] course = omega arith
acts_in-push (c ∷ courses) course = omega (arith, acts_in-push courses course)

courses-push : (courses : List Course) (course : Course) → AllByRecursion IsCourse courses → IsCourse course
    → AllByRecursion IsCourse (courses ++ course ∷ [])
courses-push [] course all is = (is, tt)
courses-push (c ∷ courses) course all is = (all.0, courses-push courses course all.1 is)

pub IsPlan-push : (number : ℕ) (courses : List Course) (course : Course) → IsPlan (record { number = number; courses = courses })
    → length courses < most_agents → IsCourse course → acts_in courses + length course.acts ≤ most_acts_in_all
    → IsPlan (record { number = number; courses = courses ++ course ∷ [] })
IsPlan-push number courses course is room keeps fits = record {
  number_limit = is.number_limit;
  agent_limit = omega (arith, length-append courses (course ∷ []), room);
  courses = courses-push courses course is.courses keeps;
  acts_limit = omega (arith, acts_in-push courses course, fits);
}
