-- The text that is written for a plan spells it, and a text that spells a plan is the one that is written.
use Rattle.std.proofs.Common.{◌≡◌, ℕ, List, [], ◌∷◌, ◌++◌, length, map, refl, sym, ap, ◌∙◌, subst, arith, codes}
use Rattle.std.specs.Prelude.{decimal}
use Rattle.std.specs.List.{AllByRecursion}
use Rattle.std.proofs.lemmas.List.{append_cancel_left}
use Rattle.std.proofs.lemmas.Fmt.{decimal_injective}
use Rattle.text_io.specs.Text.{IsLine, lines_of, ended}
use Rattle.model.specs.Plan.{Course, Plan}
use Rattle.plan_text.specs.Limits.{IsCourse, IsPlan}
use Rattle.plan_text.specs.PlanText.{AreCourses, header, PlanText, course_line, canonical_plan_text}
use Rattle.plan_text.proofs.SpellingLemmas.{SaysNumber-line, SaysNumber-decimal, word_line-is_line, course_line-is_line, course_line-spells, SpellsCourse-same, SpellsCourse-line}

-- ---- the lines of agents

pub written-courses : (courses : List Course) → AllByRecursion IsCourse courses → AreCourses courses (map course_line courses)
written-courses [] h = refl
written-courses (course ∷ courses) h = (course, courses, refl, course_line-spells course h.0, written-courses courses h.1)

courses-are_lines : (courses : List Course) → AllByRecursion IsCourse courses → AllByRecursion IsLine (map course_line courses)
courses-are_lines [] h = tt
courses-are_lines (course ∷ courses) h = (course_line-is_line course h.0, courses-are_lines courses h.1)

-- lines spell the courses of one list
AreCourses-same : (cs ds : List Course) (lines : List (List ℕ)) → AreCourses cs lines → AreCourses ds lines → cs ≡ ds
AreCourses-same cs ds [] h k = h ∙ sym k
AreCourses-same cs ds (line ∷ lines) h k =
    let first = SpellsCourse-same h.0 k.0 line h.3 k.3 in
    let rest = AreCourses-same h.1 k.1 lines h.4 k.4 in
    h.2 ∙ (ap (λ c. c ∷ h.1) first ∙ (ap (λ cs. k.0 ∷ cs) rest ∙ sym k.2))

-- and courses are spelled by one list of lines
courses-lines : (courses : List Course) (lines : List (List ℕ)) → AreCourses courses lines → AllByRecursion IsCourse courses
    → lines ≡ map course_line courses
courses-lines courses [] h all = ap (map course_line) (sym h)
courses-lines courses (line ∷ lines) h all =
    let both = subst (AllByRecursion IsCourse) h.2 all in
    ap (λ l. l ∷ lines) (SpellsCourse-line h.0 line h.3 both.0)
    ∙ (ap (λ ls. course_line h.0 ∷ ls) (courses-lines h.1 lines h.4 both.1) ∙ ap (map course_line) (sym h.2))

-- ---- the whole text

-- the lines that are written for a plan
abbrev pub plan_lines : Plan → List (List ℕ)
plan_lines p = header ∷ (codes "number " ++ decimal p.number) ∷ (codes "agents " ++ decimal (length p.courses)) ∷ map course_line p.courses

pub plan_lines-are_lines : (p : Plan) → IsPlan p → AllByRecursion IsLine (plan_lines p)
plan_lines-are_lines p h = (
  refl,
  (
    word_line-is_line (codes "number ") p.number refl (omega (arith, h.number_limit)),
    (word_line-is_line (codes "agents ") (length p.courses) refl (omega (arith, h.agent_limit)), courses-are_lines p.courses h.courses),
  ),
)

pub PlanText-canonical : (p : Plan) → IsPlan p → PlanText p (canonical_plan_text p)
PlanText-canonical p h = record {
  number_line = codes "number " ++ decimal p.number;
  agents_line = codes "agents " ++ decimal (length p.courses);
  agent_lines = map course_line p.courses;
  lines = refl;
  is_number = SaysNumber-decimal (codes "number ") p.number (omega (arith, h.number_limit));
  is_agents = SaysNumber-decimal (codes "agents ") (length p.courses) (omega (arith, h.agent_limit));
  are_courses = written-courses p.courses h.courses;
  within = h;
}

-- a plan has one text
pub PlanText-text : (p : Plan) (text : List ℕ) → PlanText p text → text ≡ canonical_plan_text p
PlanText-text p text h =
    let number = SaysNumber-line (codes "number ") p.number h.number_line h.is_number (omega (arith, h.within.number_limit)) in
    let agents = SaysNumber-line (codes "agents ") (length p.courses) h.agents_line h.is_agents (omega (arith, h.within.agent_limit)) in
    let courses = courses-lines p.courses h.agent_lines h.are_courses h.within.courses in
    h.lines
    ∙ (ap (λ l. ended (header ∷ l ∷ h.agents_line ∷ h.agent_lines)) number
    ∙ (ap (λ l. ended (header ∷ (codes "number " ++ decimal p.number) ∷ l ∷ h.agent_lines)) agents
    ∙ ap (λ ls. ended (header ∷ (codes "number " ++ decimal p.number) ∷ (codes "agents " ++ decimal (length p.courses)) ∷ ls)) courses))

-- what the lines that are written say again
abbrev pub Written : Type 0
Written = (lines : List (List ℕ)) → AllByRecursion IsLine lines → lines_of (ended lines) ≡ lines

-- the lines of a text that spells a plan
pub PlanText-lines : Written → (p : Plan) (text : List ℕ) → PlanText p text → lines_of text ≡ plan_lines p
PlanText-lines written p text h = ap lines_of (PlanText-text p text h) ∙ written (plan_lines p) (plan_lines-are_lines p h.within)

-- a text spells one plan
pub PlanText-same : Written → (p q : Plan) (text : List ℕ) → PlanText p text → PlanText q text → p ≡ q
PlanText-same written p q text h k =
    let lines : plan_lines p ≡ plan_lines q = sym (PlanText-lines written p text h) ∙ PlanText-lines written q text k in
    let number_lines : codes "number " ++ decimal p.number ≡ codes "number " ++ decimal q.number = cc in
    let course_lines : map course_line p.courses ≡ map course_line q.courses = cc in
    let number : p.number ≡ q.number =
    decimal_injective p.number q.number (omega (arith, h.within.number_limit)) (omega (arith, k.within.number_limit))
    (append_cancel_left (codes "number ") _ _ number_lines) in
    let mine = written-courses p.courses h.within.courses in
    let others = subst (AreCourses q.courses) (sym course_lines) (written-courses q.courses k.within.courses) in
    let courses : p.courses ≡ q.courses = AreCourses-same p.courses q.courses (map course_line p.courses) mine others in
    ap (λ n. record { number = n; courses = p.courses }) number ∙ ap (λ cs. record { number = q.number; courses = cs }) courses
