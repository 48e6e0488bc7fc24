-- The bytes before stand in their places.
use Rattle.std.proofs.Common.{◌≡◌, ◌+◌, ◌++◌, take}
use Rattle.agent.proofs.mem_tape.put_record.Given as goal

abbrev pub invariant-loop-i : goal.invariant-loop-i
invariant-loop-i l = take (l.at + l.i) l.all ≡ take l.at l.fn.all ++ take l.i l.record
