-- The lines of the events that follow are left.
use Rattle.std.proofs.Common.{drop}
use Rattle.text_io.specs.Sink.{Leaves}
use Rattle.event_text.specs.EventLine.{event_lines_text}
use Rattle.runner.specs.Completing.{completion_text}
use Rattle.runner.proofs.completing.put_completion.Given as goal

abbrev pub invariant-loop-event : goal.invariant-loop-event
invariant-loop-event g l =
    Leaves g.W.Write.contents l.fn.sink l.sink (completion_text l.events) (event_lines_text (drop l.event-index l.events))
