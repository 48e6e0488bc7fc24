-- The bytes so far are of one line, and stand at the front of the room.
use Rattle.text_io.specs.Source.{most_left}
use Rattle.text_io.proofs.LineTaking.{HasPart}
use Rattle.text_io.proofs.source.Source.take_line.Given as goal

abbrev pub invariant-loop-b : goal.invariant-loop-b
invariant-loop-b g l = HasPart g.R.Read.remaining l.fn.self l.self l.room l.count

abbrev pub decreases-loop-b : goal.decreases-loop-b
decreases-loop-b g l = most_left l.self
