use Rattle.std.proofs.Common.{◌≡◌, Some, List}
use Rattle.text_io.specs.Sink.{Puts}
use Rattle.text_io.specs.Source.{source_reader, most_left}
use Rattle.model.specs.declared.event.Event.{Event}
use Rattle.event_text.specs.declared.header.Headers.TheVariants.{Either}
use Rattle.event_text.specs.Taking.{HasReadEvents}
use Rattle.runner.proofs.AnswerLemmas.{SoFar}
use Rattle.runner.proofs.replaying.run_events.Given as goal

-- the events so far were read, behind the header of the runner's version, and the lines of their replies put
abbrev pub invariant-events : goal.invariant-events
invariant-events g l = record {
  same_reader : l.source.reader.ghost_name ≡ l.fn.source.reader.ghost_name;
  same_writer : l.sink.writer.ghost_name ≡ l.fn.sink.writer.ghost_name;
  events : List Event;
  read : HasReadEvents Either g.E.Read.remaining (source_reader l.fn.source) l.source l.reader events;
  same_version : l.reader.version ≡ Some l.runner.version;
  so_far : SoFar l.graph l.runner events (Puts g.W.Write.contents l.fn.sink l.sink);
}

abbrev pub decreases-events : goal.decreases-events
decreases-events g l = most_left l.source
