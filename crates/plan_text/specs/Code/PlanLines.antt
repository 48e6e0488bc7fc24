-- How the reader of a plan goes from line to line.
use Rattle.std.specs.Prelude.{◌≡◌, ℕ, ◌+◌, ◌^◌, ◌<◌, ◌≤◌, ◌==◌, ◌⊎◌, zero}
use Rattle.std.specs.Prelude.{suc, if◌then◌else◌, List, [], ◌∷◌, ◌++◌, length, codes}
use Rattle.text_io.specs.Reading.{at_line_feed, LeadsBy}
use Rattle.model.specs.declared.act.Act.{Act}
use Rattle.model.specs.declared.act.Act.TheVariants.{N, E, S, W, Wait}
use Rattle.model.specs.Plan.{Course, Plan}
use Rattle.plan_text.specs.declared.plan_reader.Due.{Due}
use Rattle.plan_text.specs.declared.plan_reader.Due.TheVariants.{Header, Number, Agents, Agent}
use Rattle.plan_text.specs.declared.plan_text_fault.PlanTextFault.{PlanTextFault}
use Rattle.plan_text.specs.declared.plan_text_fault.PlanTextFault.TheVariants.{OutOfMemory}
use Rattle.plan_text.specs.Limits.{most_agents, most_acts_in_all, acts_in, IsCourse, IsPlan}
use Rattle.plan_text.specs.PlanText.{SaysNumber, SpellsCourse, AreCourses, header}
use Rattle.plan_text.specs.PlanTextFault.{PlanDue, header_due, number_due, agents_due}
use Rattle.plan_text.specs.PlanTextFault.{agent_due, PlanFollows, HasPlanTextFault}

-- the lines of a plan's text are right, one after another
abbrev pub PlanLeads : PlanDue → List (List ℕ) → PlanDue → Type 0
PlanLeads = LeadsBy PlanFollows

-- the act that a character stands for; another byte may stand for any
abbrev pub act_by : ℕ → Act
act_by b =
    if b == 110 then N else if b == 101 then E else if b == 115 then S else
    if b == 119 then W else Wait

-- A right line was added to those so far: what was due, the plan so far, the line, what is due
-- next, and the plan now.
abbrev pub PlanAdds : PlanDue → Plan → List ℕ → PlanDue → Plan → Type 0
PlanAdds header_due p line next q = (line ≡ header) × (next ≡ number_due) × (q ≡ p)
PlanAdds number_due p line next q =
    (n : ℕ) × SaysNumber (codes "number ") n line × (n < 2 ^ 32) × (next ≡ agents_due)
    × (q ≡ record { number = n; courses = [] })
PlanAdds agents_due p line next q =
    (n : ℕ) × SaysNumber (codes "agents ") n line × (n ≤ most_agents)
    × (next ≡ agent_due n 0) × (q ≡ p)
PlanAdds (agent_due zero acts) p line next q = ⊥
PlanAdds (agent_due (suc left) acts) p line next q =
    (course : Course) × SpellsCourse course line × IsCourse course
    × (acts + length course.acts ≤ most_acts_in_all)
    × (next ≡ agent_due left (acts + length course.acts))
    × (q ≡ record p { courses = p.courses ++ course ∷ [] })

-- what right lines have said of a plan, by what is due behind them
abbrev pub PlanSaid : PlanDue → Plan → List (List ℕ) → Type 0
PlanSaid header_due p lines = lines ≡ []
PlanSaid number_due p lines = lines ≡ header ∷ []
PlanSaid agents_due p lines =
    (number_line : List ℕ) × (lines ≡ header ∷ number_line ∷ [])
    × SaysNumber (codes "number ") p.number number_line × (p.courses ≡ [])
PlanSaid (agent_due left acts) p lines =
    (number_line agents_line : List ℕ) × (agent_lines : List (List ℕ))
    × (lines ≡ header ∷ number_line ∷ agents_line ∷ agent_lines)
    × SaysNumber (codes "number ") p.number number_line
    × SaysNumber (codes "agents ") (length p.courses + left) agents_line
    × (length p.courses + left ≤ most_agents) × AreCourses p.courses agent_lines
    × (acts ≡ acts_in p.courses)

-- The lines so far are right, and the plan is what they have said.
pub record HasReadPlan (due : PlanDue) (p : Plan) (lines : List (List ℕ)) : Type 0 where
  pub right : PlanLeads header_due lines due
  pub said : PlanSaid due p lines
  pub within : IsPlan p

-- what is due of a plan that is read, seen with the acts so far
abbrev pub due_seen : Due → Plan → PlanDue
due_seen Header p = header_due
due_seen Number p = number_due
due_seen Agents p = agents_due
due_seen (Agent left) p = agent_due left (acts_in p.courses)

-- why a line was refused: there was no memory, or the line has the fault at its LF
abbrev pub PlanRefuses : PlanDue → ℕ → List ℕ → PlanTextFault → Type 0
PlanRefuses due number line fault =
    (fault ≡ OutOfMemory) ⊎ HasPlanTextFault fault at_line_feed due number line
