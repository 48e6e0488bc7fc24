-- The numbers that follow are left.
use Rattle.std.proofs.Common.{drop}
use Rattle.text_io.specs.Text.{spaced_numbers}
use Rattle.text_io.specs.Sink.{Leaves}
use Rattle.ending.proofs.fault_line.put_numbers.Given as goal

abbrev pub invariant-loop-number : goal.invariant-loop-number
invariant-loop-number g l =
    Leaves g.E.Write.contents l.fn.sink l.sink (spaced_numbers l.numbers) (spaced_numbers (drop l.number-index l.numbers))
