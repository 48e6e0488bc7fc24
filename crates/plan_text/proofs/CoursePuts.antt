-- How far the calls that put an agent's line, and those that put a plan, have come with their text.
use Rattle.std.proofs.Common.{◌≡◌, ℕ, List, [], ◌∷◌, ◌++◌, length, map, refl, sym, ap, ◌∙◌, append_assoc, append-nil, codes}
use Rattle.std.specs.Prelude.{Option, decimal}
use Rattle.text_io.specs.declared.sink.Sink.{Sink}
use Rattle.text_io.specs.Sink.{Puts, Leaves}
use Rattle.text_io.specs.Text.{space, line_feed, ended}
use Rattle.model.specs.declared.act.Act.{Act}
use Rattle.model.specs.Plan.{Course, Plan}
use Rattle.text_io.specs.Laws.Putting.{Leaves-all, Leaves-less}
use Rattle.plan_text.specs.PlanText.{acts_text, course_line, canonical_plan_text}

-- a number between a word and what follows it
abbrev pub numbered : List ℕ → ℕ → List ℕ → List ℕ
numbered word n end = word ++ decimal n ++ end

numbered-append : (word : List ℕ) (n : ℕ) (end rest : List ℕ) → numbered word n end ++ rest ≡ word ++ (decimal n ++ (end ++ rest))
numbered-append word n end rest = append_assoc (word ++ decimal n) end rest ∙ append_assoc word (decimal n) (end ++ rest)

-- an agent's line with its LF, and what it is from a part on
abbrev pub ended_course : Course → List ℕ
ended_course course = course_line course ++ line_feed ∷ []

abbrev pub from_acts : Course → List ℕ
from_acts course = acts_text course.acts ++ line_feed ∷ []

abbrev pub from_y : Course → List ℕ
from_y course = numbered [] course.start.y (space ∷ []) ++ from_acts course

abbrev pub agent_x : ℕ → List ℕ
agent_x x = numbered (codes "agent ") x (space ∷ [])

ended_course-parts : (course : Course) → agent_x course.start.x ++ from_y course ≡ ended_course course
ended_course-parts course =
    let x = decimal course.start.x in
    let y = decimal course.start.y in
    let acts = acts_text course.acts in
    numbered-append (codes "agent ") course.start.x (space ∷ []) (from_y course)
    ∙ (ap (λ xs. codes "agent " ++ (x ++ (space ∷ xs))) (numbered-append [] course.start.y (space ∷ []) (from_acts course))
    ∙ sym (ap (λ xs. codes "agent " ++ xs) (append_assoc x (space ∷ (y ++ (space ∷ acts))) (line_feed ∷ [])
    ∙ ap (λ xs. x ++ (space ∷ xs)) (append_assoc y (space ∷ acts) (line_feed ∷ [])))))

-- a plan's text, and what it is from a line on
abbrev pub number_put : ℕ → List ℕ
number_put n = numbered (codes "number ") n (line_feed ∷ [])

abbrev pub agents_put : ℕ → List ℕ
agents_put n = numbered (codes "agents ") n (line_feed ∷ [])

abbrev pub from_courses : Plan → List ℕ
from_courses p = ended (map course_line p.courses)

abbrev pub from_agents : Plan → List ℕ
from_agents p = agents_put (length p.courses) ++ (from_courses p ++ [])

abbrev pub from_number : Plan → List ℕ
from_number p = number_put p.number ++ from_agents p

plan-parts : (p : Plan) → codes "mapf-plan 1\n" ++ from_number p ≡ canonical_plan_text p
plan-parts p =
    ap (λ xs. codes "mapf-plan 1\n" ++ (number_put p.number ++ (agents_put (length p.courses) ++ xs))) (append-nil (from_courses p))

module _ {W : Type 0} (contents : W → Option (List ℕ)) (course : Course) where
  -- nothing is put yet
  pub course-begins : (first : Sink W) → Leaves contents first first (ended_course course) (agent_x course.start.x ++ from_y course)
  course-begins first = Leaves-all contents first (ended_course course) _ (ended_course-parts course)

  -- the column is put
  pub x-put : (first now : Sink W) (x : ℕ) → x ≡ course.start.x → Puts contents first now (agent_x x) → Leaves contents first now (ended_course course) (from_y course)
  x-put first now x e p = Leaves-less contents first first now (ended_course course) (agent_x course.start.x) (from_y course) _ (course-begins first) (ap agent_x e) p

  -- and the row
  pub y-put : (first mid now : Sink W) (y : ℕ) → Leaves contents first mid (ended_course course) (from_y course) → y ≡ course.start.y
      → Puts contents mid now (numbered [] y (space ∷ [])) → Leaves contents first now (ended_course course) (from_acts course)
  y-put first mid now y h e p =
      Leaves-less contents first mid now (ended_course course) (numbered [] course.start.y (space ∷ [])) (from_acts course) _ h
      (ap (λ n. numbered [] n (space ∷ [])) e) p

  -- and the acts
  pub acts-put : (first mid now : Sink W) (acts : List Act) → Leaves contents first mid (ended_course course) (from_acts course) → acts ≡ course.acts
      → Puts contents mid now (acts_text acts) → Leaves contents first now (ended_course course) (line_feed ∷ [])
  acts-put first mid now acts h e p =
      Leaves-less contents first mid now (ended_course course) (acts_text course.acts) (line_feed ∷ []) _ h (ap acts_text e) p

module _ {W : Type 0} (contents : W → Option (List ℕ)) (p : Plan) where
  -- nothing is put yet
  pub plan-begins : (first : Sink W) → Leaves contents first first (canonical_plan_text p) (codes "mapf-plan 1\n" ++ from_number p)
  plan-begins first = Leaves-all contents first (canonical_plan_text p) _ (plan-parts p)

  -- the header is put
  pub header-put : (first now : Sink W) → Puts contents first now (codes "mapf-plan 1\n") → Leaves contents first now (canonical_plan_text p) (from_number p)
  header-put first now h =
      Leaves-less contents first first now (canonical_plan_text p) (codes "mapf-plan 1\n") (from_number p) _ (plan-begins first) refl h

  -- and the plan's number
  pub number-put : (first mid now : Sink W) (n : ℕ) → Leaves contents first mid (canonical_plan_text p) (from_number p) → n ≡ p.number
      → Puts contents mid now (number_put n) → Leaves contents first now (canonical_plan_text p) (from_agents p)
  number-put first mid now n h e k =
      Leaves-less contents first mid now (canonical_plan_text p) (number_put p.number) (from_agents p) _ h (ap number_put e) k

  -- and how many agents there are
  pub agents-put : (first mid now : Sink W) (n : ℕ) → Leaves contents first mid (canonical_plan_text p) (from_agents p) → n ≡ length p.courses
      → Puts contents mid now (agents_put n) → Leaves contents first now (canonical_plan_text p) (from_courses p ++ [])
  agents-put first mid now n h e k =
      Leaves-less contents first mid now (canonical_plan_text p) (agents_put (length p.courses)) (from_courses p ++ []) _ h (ap agents_put e) k

  -- and their lines
  pub courses-put : (first mid now : Sink W) (courses : List Course) → Leaves contents first mid (canonical_plan_text p) (from_courses p ++ [])
      → courses ≡ p.courses → Puts contents mid now (ended (map course_line courses)) → Leaves contents first now (canonical_plan_text p) []
  courses-put first mid now courses h e k =
      Leaves-less contents first mid now (canonical_plan_text p) (from_courses p) [] _ h (ap (λ cs. ended (map course_line cs)) e) k
