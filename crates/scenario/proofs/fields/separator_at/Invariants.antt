-- No separator stands among the bytes so far.
use Rattle.std.proofs.Common.{◌≡◌, ◌+◌, ◌==◌, drop}
use Rattle.std.specs.List.{position_or_len}
use Rattle.scenario.proofs.fields.separator_at.Given as goal

abbrev pub invariant-loop-i : goal.invariant-loop-i
invariant-loop-i l = l.i + position_or_len (λ b. b == l.separator) (drop l.i l.bytes) ≡ position_or_len (λ b. b == l.separator) l.bytes
