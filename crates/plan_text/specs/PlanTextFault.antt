-- The faults of a plan's text, and where each stands.
use Rattle.std.specs.Prelude.{◌≡◌, ◌≢◌, ℕ, ◌+◌, ◌^◌, ◌<◌, ◌≤◌, ◌==◌, ◌⊎◌}
use Rattle.std.specs.Prelude.{zero, suc, Bool, ◌||◌, false, IsTrue, List, [], ◌∷◌}
use Rattle.std.specs.Prelude.{◌++◌, length, codes, Option, Result, Ok, Err, ⊤}
use Rattle.std.specs.List.{list_all, slice_split}
use Rattle.text_io.specs.Text.{space, BeginsWith}
use Rattle.text_io.specs.Reading.{by_line_feed, Place, at_line_feed, at_byte, at_end, FaultAt}
use Rattle.text_io.specs.Reading.{Outcome, is_value, is_fault, is_failed, is_refused, ReadsText}
use Rattle.grid.specs.Map.{Grid}
use Rattle.grid.specs.MapFault.{ReadsMap}
use Rattle.model.specs.Plan.{Course, Plan}
use Rattle.plan_text.specs.declared.plan_text_fault.PlanTextFault.{PlanTextFault}
use Rattle.plan_text.specs.declared.plan_text_fault.PlanTextFault.TheVariants.{BadHeader}
use Rattle.plan_text.specs.declared.plan_text_fault.PlanTextFault.TheVariants.{BadNumber}
use Rattle.plan_text.specs.declared.plan_text_fault.PlanTextFault.TheVariants.{TooMany}
use Rattle.plan_text.specs.declared.plan_text_fault.PlanTextFault.TheVariants.{BadAgent}
use Rattle.plan_text.specs.declared.plan_text_fault.PlanTextFault.TheVariants.{BadAct}
use Rattle.plan_text.specs.declared.plan_text_fault.PlanTextFault.TheVariants.{Unfinished}
use Rattle.plan_text.specs.declared.plan_text_fault.PlanTextFault.TheVariants.{TextAfter}
use Rattle.plan_text.specs.declared.plan_text_fault.PlanTextFault.TheVariants.{ReadFailed}
use Rattle.plan_text.specs.declared.plan_text_fault.PlanTextFault.TheVariants.{OutOfMemory}
use Rattle.plan_text.specs.Limits.{most_agents, most_acts, most_acts_in_all, IsCourse}
use Rattle.text_io.specs.Numerals.{IsNumeral}
use Rattle.text_io.specs.declared.counted.Counted.{Counted}
use Rattle.text_io.specs.Counted.{counted_inner, failures_of}
use Rattle.plan_text.specs.PlanText.{no_act, SaysNumber, SpellsCourse, header, PlanText}

-- The line that is due, by what the lines before it said: the header, the plan's number, the number
-- of agents, or an agent, where so many agents are due and those before have so many acts. Where no
-- agent is due any more, no line is.
pub data PlanDue : Type 0 where
  header_due number_due agents_due : PlanDue
  agent_due : (left acts : ℕ) → PlanDue

-- the line is right where it is due, and what is due next
abbrev pub PlanFollows : PlanDue → List ℕ → PlanDue → Type 0
PlanFollows header_due line next = (line ≡ header) × (next ≡ number_due)
PlanFollows number_due line next =
    (n : ℕ) × SaysNumber (codes "number ") n line × (n < 2 ^ 32) × (next ≡ agents_due)
PlanFollows agents_due line next =
    (n : ℕ) × SaysNumber (codes "agents ") n line × (n ≤ most_agents) × (next ≡ agent_due n 0)
PlanFollows (agent_due zero acts) line next = ⊥
PlanFollows (agent_due (suc left) acts) line next =
    (course : Course) × SpellsCourse course line × IsCourse course
    × (acts + length course.acts ≤ most_acts_in_all)
    × (next ≡ agent_due left (acts + length course.acts))

-- a line is due
abbrev pub IsLineDue : PlanDue → Type 0
IsLineDue header_due = ⊤
IsLineDue number_due = ⊤
IsLineDue agents_due = ⊤
IsLineDue (agent_due zero acts) = ⊥
IsLineDue (agent_due (suc left) acts) = ⊤

-- no line has more bytes before its LF
abbrev pub longest_plan_line : ℕ
longest_plan_line = 65553

-- the line, not too long, is judged as a whole, at its LF
pub record IsWholeLine (place : Place) (line : List ℕ) : Type 0 where
  pub ended : place ≡ at_line_feed
  pub short : length line ≤ longest_plan_line

-- cut at every space, the line is `agent` and three parts more, none of them empty
pub record HasParts (x y acts line : List ℕ) : Type 0 where
  pub parts : slice_split (λ b. b == space) line ≡ codes "agent" ∷ x ∷ y ∷ acts ∷ []
  pub some_x : 0 < length x
  pub some_y : 0 < length y
  pub some_acts : 0 < length acts

-- a number that a cell's column or row may be
abbrev pub IsCoordinate : List ℕ → Type 0
IsCoordinate digits = (n : ℕ) × IsNumeral n digits × (n < 65536)

-- the character of an act
abbrev pub is_act : ℕ → Bool
is_act b = b == 110 || b == 101 || b == 115 || b == 119 || b == 45

-- the line does not begin as it should
abbrev pub HasOtherHeader : PlanDue → List ℕ → Type 0
HasOtherHeader header_due line = line ≢ header
HasOtherHeader number_due line = BeginsWith (codes "number ") line → ⊥
HasOtherHeader agents_due line = BeginsWith (codes "agents ") line → ⊥
HasOtherHeader (agent_due left acts) line = ⊥

-- what should be a number is none, or is out of its range
abbrev pub HasOtherNumber : PlanDue → List ℕ → Type 0
HasOtherNumber header_due line = ⊥
HasOtherNumber number_due line =
    BeginsWith (codes "number ") line
    × ((n : ℕ) → SaysNumber (codes "number ") n line → n < 2 ^ 32 → ⊥)
HasOtherNumber agents_due line =
    BeginsWith (codes "agents ") line × ((n : ℕ) → SaysNumber (codes "agents ") n line → ⊥)
HasOtherNumber (agent_due zero before) line = ⊥
HasOtherNumber (agent_due (suc left) before) line =
    (x y acts : List ℕ) × HasParts x y acts line × ((IsCoordinate x → ⊥) ⊎ (IsCoordinate y → ⊥))

-- the parts of an agent's line, of which its column and its row are right
pub record HasStart (acts line : List ℕ) : Type 0 where
  pub x : List ℕ
  pub y : List ℕ
  pub parts : HasParts x y acts line
  pub is_x : IsCoordinate x
  pub is_y : IsCoordinate y

-- Past the front of the line comes the first byte of its acts that is none; `=` alone stands for no
-- act.
pub record HasOtherAct (line : List ℕ) (column : ℕ) : Type 0 where
  pub acts : List ℕ
  pub start : HasStart acts line
  pub some : acts ≢ no_act ∷ []
  pub front : List ℕ
  pub byte : ℕ
  pub rest : List ℕ
  pub bytes : acts ≡ front ++ byte ∷ rest
  pub are_acts : IsTrue (list_all is_act front)
  pub is_none : is_act byte ≡ false
  pub head : List ℕ
  pub place : line ≡ head ++ acts
  pub column_is : column ≡ length head + length front + 1

-- more agents or acts than there may be
abbrev pub HasTooMany : PlanDue → List ℕ → Type 0
HasTooMany header_due line = ⊥
HasTooMany number_due line = ⊥
HasTooMany agents_due line = (n : ℕ) × SaysNumber (codes "agents ") n line × (most_agents < n)
HasTooMany (agent_due zero before) line = ⊥
HasTooMany (agent_due (suc left) before) line =
    (acts : List ℕ) × HasStart acts line × IsTrue (list_all is_act acts)
    × ((most_acts < length acts) ⊎ (most_acts_in_all < before + length acts))

-- The fault of a line at a place, by what was due there; the row of the fault table that each fault
-- has.
abbrev pub HasPlanTextFault : PlanTextFault → Place → PlanDue → ℕ → List ℕ → Type 0
HasPlanTextFault (BadHeader at) place due number line =
    (at ≡ number) × IsWholeLine place line × HasOtherHeader due line
HasPlanTextFault (BadNumber at) place due number line =
    (at ≡ number) × IsWholeLine place line × HasOtherNumber due line
HasPlanTextFault (TooMany at) place due number line =
    (at ≡ number)
    × (((place ≡ at_byte) × IsLineDue due × (length line ≡ longest_plan_line + 1))
    ⊎ (IsWholeLine place line × HasTooMany due line))
HasPlanTextFault (BadAgent at) place due number line =
    (at ≡ number) × IsWholeLine place line
    × (left : ℕ) × (before : ℕ) × (due ≡ agent_due (suc left) before)
    × ((x y acts : List ℕ) → HasParts x y acts line → ⊥)
HasPlanTextFault (BadAct at column) place due number line =
    (at ≡ number) × IsWholeLine place line × (left : ℕ) × (before : ℕ)
    × (due ≡ agent_due (suc left) before) × HasOtherAct line column
HasPlanTextFault (Unfinished at) place due number line =
    (at ≡ number) × (place ≡ at_end) × IsLineDue due × (length line ≤ longest_plan_line)
HasPlanTextFault (TextAfter at) place due number line =
    (at ≡ number) × (IsLineDue due → ⊥)
    × (((place ≡ at_line_feed) × (line ≡ [])) ⊎ ((place ≡ at_byte) × (b : ℕ) × (line ≡ b ∷ [])))
HasPlanTextFault ReadFailed place due number line = ⊥
HasPlanTextFault OutOfMemory place due number line = ⊥

-- the fault stands at the place where the text ends, and the lines before are right; each line
-- needs its LF
abbrev pub PlanTextFaultAt : PlanTextFault → Place → List ℕ → Type 0
PlanTextFaultAt = FaultAt by_line_feed PlanFollows HasPlanTextFault header_due

-- what `read_plan` answered, as a reader's outcome
abbrev pub plan_outcome : Result Plan PlanTextFault → Outcome Plan PlanTextFault
plan_outcome (Ok p) = is_value p
plan_outcome (Err (BadHeader line)) = is_fault (BadHeader line)
plan_outcome (Err (BadNumber line)) = is_fault (BadNumber line)
plan_outcome (Err (TooMany line)) = is_fault (TooMany line)
plan_outcome (Err (BadAgent line)) = is_fault (BadAgent line)
plan_outcome (Err (BadAct line column)) = is_fault (BadAct line column)
plan_outcome (Err (Unfinished line)) = is_fault (Unfinished line)
plan_outcome (Err (TextAfter line)) = is_fault (TextAfter line)
plan_outcome (Err ReadFailed) = is_failed
plan_outcome (Err OutOfMemory) = is_refused

-- the plan's text was read as `read_plan` reads it, with this answer
abbrev pub ReadsPlan : {R : Type 0} → (R → Option (List ℕ)) → Counted R → Counted R
    → Result Plan PlanTextFault → Type 0
ReadsPlan remaining old new answer =
    ReadsText PlanText PlanTextFaultAt (remaining (counted_inner old))
    (remaining (counted_inner new)) (failures_of old) (failures_of new) (plan_outcome answer)

-- a map and a plan were read, in this order
abbrev pub ReadsMapAndPlan
    : {M P : Type 0} → (M → Option (List ℕ)) → (P → Option (List ℕ)) → Counted M → Counted M
    → Counted P → Counted P → Grid → Plan → Type 0
ReadsMapAndPlan map_left plan_left old_map new_map old_plan new_plan m p =
    ReadsMap map_left old_map new_map (Ok m) × ReadsPlan plan_left old_plan new_plan (Ok p)
