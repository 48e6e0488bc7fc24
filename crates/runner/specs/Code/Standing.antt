-- Where a runner stands behind the events of a text.
use Rattle.std.specs.Prelude.{◌≡◌, ℕ, List, Option, Some, Result, Ok, Err}
use Rattle.text_io.specs.declared.counted.Counted.{Counted}
use Rattle.text_io.specs.Reading.{is_value}
use Rattle.model.specs.declared.event.Event.{Event}
use Rattle.model.specs.History.{Answer}
use Rattle.model.specs.Timetable.{Timetable}
use Rattle.event_text.specs.declared.header.Headers.TheVariants.{Either}
use Rattle.event_text.specs.ReplyText.{replies_text}
use Rattle.event_text.specs.Taking.{NoMoreEvents}
use Rattle.executor.specs.SafeRuns.{AreAnsweredAt}
use Rattle.executor.specs.Standing.{RunnerState, StandsAt}
use Rattle.runner.specs.declared.run_fault.RunFault.{RunFault}
use Rattle.runner.specs.Replaying.{AnswersEvents}

-- Events are answered in a safe run of the runner's version, the runner stands at that run, and
-- this is what came of the text of the replies.
pub record AnsweredBy (tt : Timetable) (r : RunnerState) (events : List Event) (CameOf : List ℕ
    → Type 0) : Type 0 where
  pub same_graph : r.timetable ≡ tt
  pub answers : List Answer
  pub answered : AreAnsweredAt r.version tt events answers
  pub stands : StandsAt r answered.history
  pub came : CameOf (replies_text answers)

-- The text of events was read up to its end, and the runner answered all its events.
pub record AnswersAllBy
    {E : Type 0} (events_left : E → Option (List ℕ)) (tt : Timetable) (old new : Counted E)
    (r : RunnerState)
    (CameOf : List ℕ → Type 0) : Type 0 where
  pub events : List Event
  pub read : NoMoreEvents Either events_left old new (Some r.version) events (is_value events)
  pub replies : AnsweredBy tt r events CameOf

-- what the events of a text come to, and the runner where all were answered
abbrev pub AnswersBy
    : {E : Type 0} → (E → Option (List ℕ)) → Timetable → Counted E → Counted E → (List ℕ → Type 0)
    → (List ℕ → Type 0)
    → Result RunnerState RunFault → Type 0
AnswersBy events_left tt old new Whole Broken (Ok r) = AnswersAllBy events_left tt old new r Whole
AnswersBy events_left tt old new Whole Broken (Err fault) =
    AnswersEvents events_left tt old new Whole Broken (Err fault)
