-- The text of a plan: which texts spell a plan. A plan has one spelling.
use Rattle.std.specs.Prelude.{◌≡◌, ℕ, List, [], ◌∷◌, ◌++◌, length, map, codes, decimal}
use Rattle.std.specs.List.{join_with_byte}
use Rattle.text_io.specs.Numerals.{IsNumeral}
use Rattle.text_io.specs.Text.{space, ended}
use Rattle.model.specs.declared.act.Act.{Act}
use Rattle.model.specs.declared.act.Act.TheVariants.{N, E, S, W, Wait}
use Rattle.model.specs.Plan.{Course, Plan}
use Rattle.plan_text.specs.Limits.{IsPlan}

-- the character of an act: `n`, `e`, `s`, `w`, and `-` for a wait
abbrev pub act_character : Act → ℕ
act_character N = 110
act_character E = 101
act_character S = 115
act_character W = 119
act_character Wait = 45

-- what stands for no act at all: `=`
abbrev pub no_act : ℕ
no_act = 61

-- an agent's acts, a character each, or `=` where it has none
abbrev pub acts_text : List Act → List ℕ
acts_text [] = no_act ∷ []
acts_text (act ∷ acts) = map act_character (act ∷ acts)

-- a word and a number, as `agents 2`
abbrev pub SaysNumber : List ℕ → ℕ → List ℕ → Type 0
SaysNumber word n line = (digits : List ℕ) × (line ≡ word ++ digits) × IsNumeral n digits

-- `agent`, the start's column and row, and the acts, with one space between each two
pub record SpellsCourse (course : Course) (line : List ℕ) : Type 0 where
  pub x : List ℕ
  pub y : List ℕ
  pub bytes : line ≡ join_with_byte space (codes "agent" ∷ x ∷ y ∷ acts_text course.acts ∷ [])
  pub is_x : IsNumeral course.start.x x
  pub is_y : IsNumeral course.start.y y

-- each line is the course of an agent, in order
abbrev pub AreCourses : List Course → List (List ℕ) → Type 0
AreCourses courses [] = courses ≡ []
AreCourses courses (line ∷ lines) =
    (course : Course) × (others : List Course) × (courses ≡ course ∷ others)
    × SpellsCourse course line × AreCourses others lines

abbrev pub header : List ℕ
header = codes "mapf-plan 1"

-- The text spells the plan: its lines, each ended by an LF, are the header, the plan's number, how
-- many agents there are, and one for each agent.
pub record PlanText (p : Plan) (text : List ℕ) : Type 0 where
  pub number_line : List ℕ
  pub agents_line : List ℕ
  pub agent_lines : List (List ℕ)
  pub lines : text ≡ ended (header ∷ number_line ∷ agents_line ∷ agent_lines)
  pub is_number : SaysNumber (codes "number ") p.number number_line
  pub is_agents : SaysNumber (codes "agents ") (length p.courses) agents_line
  pub are_courses : AreCourses p.courses agent_lines
  pub within : IsPlan p

-- the line that is written for an agent
abbrev pub course_line : Course → List ℕ
course_line course =
    join_with_byte space
    (codes "agent" ∷ decimal course.start.x ∷ decimal course.start.y ∷ acts_text
    course.acts ∷ [])

-- the text that is written for a plan
abbrev pub canonical_plan_text : Plan → List ℕ
canonical_plan_text p =
    ended (header ∷ (codes "number " ++ decimal p.number) ∷ (codes "agents "
    ++ decimal (length p.courses)) ∷ map course_line p.courses)
