-- The events so far were read, behind the version's header.
use Rattle.std.proofs.Common.{◌≡◌, Some}
use Rattle.text_io.specs.Source.{source_reader, most_left}
use Rattle.event_text.specs.Taking.{HasReadEvents}
use Rattle.event_text.proofs.event_reader.read_all.Given as goal

abbrev pub invariant-loop-events : goal.invariant-loop-events
invariant-loop-events g l = record {
  read : HasReadEvents l.fn.headers g.R.Read.remaining (source_reader l.fn.source) l.source l.reader l.events.items;
  same_version : l.reader.version ≡ Some l.version;
  same_reader : l.source.reader.ghost_name ≡ l.fn.source.reader.ghost_name;
}

abbrev pub decreases-loop-events : goal.decreases-loop-events
decreases-loop-events g l = most_left l.source
