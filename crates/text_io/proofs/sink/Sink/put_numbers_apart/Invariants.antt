-- The word and the numbers before are put.
use Rattle.std.proofs.Common.{◌++◌, take}
use Rattle.text_io.specs.Sink.{Puts}
use Rattle.text_io.specs.Text.{separated}
use Rattle.text_io.proofs.sink.Sink.put_numbers_apart.Given as goal

abbrev pub invariant-loop-number : goal.invariant-loop-number
invariant-loop-number g l = Puts g.W.Write.contents l.fn.self l.self (l.word ++ separated l.separator (take l.number-index l.numbers))
