-- All but the rest is the line and its LF.
use Rattle.std.proofs.Common.{refl}
use Rattle.event_text.proofs.LeadingLemmas.{begins_event}
use Rattle.event_text.proofs.event_line.leading_event.Goals as goal

pub returns : goal.returns
returns c = begins_event c.in_ok-event.event c.args.bytes.now c.in_ok-event.rest.now _ c.in_ok-event.ensures refl
