-- What is answered where a plan is asked to go on from another.
use Rattle.std.specs.Prelude.{◌≡◌, ◌≢◌, ℕ, ◌<◌, ◌≤◌, ◌⊎◌, length, Result, Ok, Err}
use Rattle.model.specs.Plan.{Position, Plan, IsAt, longest_of}
use Rattle.continuing.specs.Continuing.{Continues}
use Rattle.continuing.specs.declared.continue_fault.ContinueFault.{ContinueFault}
use Rattle.continuing.specs.declared.continue_fault.ContinueFault.TheVariants.{OtherNumber}
use Rattle.continuing.specs.declared.continue_fault.ContinueFault.TheVariants.{OtherCount}
use Rattle.continuing.specs.declared.continue_fault.ContinueFault.TheVariants.{Departs}

-- at the time, one up to the end of the old plan, the new one has the agent elsewhere, or doesn't
-- have it
pub record IsElsewhere (old new : Plan) (agent time : ℕ) : Type 0 where
  pub in_time : time ≤ longest_of old.courses
  pub place : Position
  pub was : IsAt old agent time place
  pub is_not : IsAt new agent time place → ⊥

-- and nobody is at an earlier time, nor an agent before it then
pub record IsFirstElsewhere (old new : Plan) (agent time : ℕ) : Type 0 where
  pub elsewhere : IsElsewhere old new agent time
  pub first : (i t : ℕ) → IsElsewhere old new i t → (time < t) ⊎ ((time ≡ t) × (agent ≤ i))

abbrev pub IsContinueFault : Plan → Plan → ContinueFault → Type 0
IsContinueFault old new OtherNumber = new.number ≢ old.number
IsContinueFault old new OtherCount =
    (new.number ≡ old.number) × (length new.courses ≢ length old.courses)
IsContinueFault old new (Departs agent time) =
    (new.number ≡ old.number) × (length new.courses ≡ length old.courses)
    × IsFirstElsewhere old new agent time

-- that it does, or the first reason why it doesn't
abbrev pub AnswersContinue : Plan → Plan → Result Unit ContinueFault → Type 0
AnswersContinue old new (Ok u) = Continues old new
AnswersContinue old new (Err fault) = IsContinueFault old new fault
