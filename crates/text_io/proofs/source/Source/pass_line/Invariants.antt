-- The bytes so far are of one line.
use Rattle.text_io.specs.Source.{most_left}
use Rattle.text_io.proofs.LineTaking.{HasPassed}
use Rattle.text_io.proofs.source.Source.pass_line.Given as goal

abbrev pub invariant-parts : goal.invariant-parts
invariant-parts g l = HasPassed g.R.Read.remaining l.fn.self l.self

abbrev pub decreases-parts : goal.decreases-parts
decreases-parts g l = most_left l.self
