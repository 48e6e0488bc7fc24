-- Each kind of line begins with a byte of its own.
use Rattle.carrier_text.proofs.OneEvent as one
use Rattle.carrier_text.proofs.laws.one_event.Goals as goal

pub returns : goal.returns
returns c = one.one_event
