-- The bytes so far are those of the word.
use Rattle.std.proofs.Common.{◌≡◌, take}
use Rattle.event_text.proofs.event_line.behind.Given as goal

abbrev pub invariant-loop-at : goal.invariant-loop-at
invariant-loop-at l = take l.at l.bytes ≡ take l.at l.word
