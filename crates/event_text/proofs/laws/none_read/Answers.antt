use Rattle.std.proofs.Common.{[]}
use Rattle.event_text.proofs.EventsRead.{nothing_read}
use Rattle.event_text.proofs.laws.none_read.Goals as goal

pub returns : goal.returns
returns g c headers first source now taken start = nothing_read g.R.Read.remaining first source headers [] now taken start
