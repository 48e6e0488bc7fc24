-- What an agent takes of what a message tells.
use Rattle.std.specs.Prelude.{◌≡◌, ℕ, Result}
use Rattle.model.specs.Timetable.{Timetable}
use Rattle.agent.specs.declared.refusal.HearFault.{HearFault}
use Rattle.agent.specs.Agents.{AgentOn, state_of}
use Rattle.agent.specs.States.{IsTaken}
use Rattle.agent.specs.Tape.{TapeState}
use Rattle.agent.specs.Tellings.{Telling}

-- the counters change at the most
pub record TakesTelling {T : Type 0} (seen : T → TapeState) (tt : Timetable) (old new : AgentOn T)
    (t : Telling) (answer : Result (ℕ × ℕ) HearFault) : Type 0 where
  pub state : IsTaken tt (state_of seen old) (state_of seen new) t answer
  pub same : new ≡ record old { heard = new.heard }
