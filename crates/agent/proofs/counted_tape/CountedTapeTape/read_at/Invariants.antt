-- The bytes before stand in their places.
use Rattle.std.proofs.Common.{◌≡◌, length, take, drop}
use Rattle.agent.specs.CountedTape.{counted_state}
use Rattle.agent.proofs.counted_tape.CountedTapeTape.read_at.Given as goal

abbrev pub invariant-loop-i : goal.invariant-loop-i
invariant-loop-i l = record { count : length l.out ≡ 10; same : take l.i l.out ≡ take l.i (drop l.at (counted_state l.self).contents) }
