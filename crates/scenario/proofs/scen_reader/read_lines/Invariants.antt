-- The lines so far were taken, are right, and have the rows so far.
use Rattle.text_io.specs.Source.{most_left}
use Rattle.scenario.proofs.LinesRead.{HasReadLines}
use Rattle.scenario.proofs.scen_reader.read_lines.Given as goal

abbrev pub invariant-lines : goal.invariant-lines
invariant-lines g l = HasReadLines g.R.Read.remaining l.fn.source l.source l.progress l.number

abbrev pub decreases-lines : goal.decreases-lines
decreases-lines g l = most_left l.source
