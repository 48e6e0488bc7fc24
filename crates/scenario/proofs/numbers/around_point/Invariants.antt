-- No point stands among the bytes so far.
use Rattle.std.proofs.Common.{◌≡◌, ◌+◌, drop}
use Rattle.scenario.specs.Code.Parsing.{point_at}
use Rattle.scenario.proofs.numbers.around_point.Given as goal

abbrev pub invariant-loop-i : goal.invariant-loop-i
invariant-loop-i l = l.i + point_at (drop l.i l.bytes) ≡ point_at l.bytes
