-- The numbers so far are written.
use Rattle.std.proofs.Common.{take}
use Rattle.std.specs.Fmt.{HasWritten, IsPlainFormatter}
use Rattle.text_io.specs.Text.{spaced_numbers}
use Rattle.text_io.proofs.fault_words.FaultWordsDisplay.fmt.Given as goal

abbrev pub invariant-loop-number : goal.invariant-loop-number
invariant-loop-number g l =
    IsPlainFormatter l.initial.f
    → HasWritten g.W.Write.write_str_gives l.initial.f (spaced_numbers (take l.number-index l.number-items)) l.f
