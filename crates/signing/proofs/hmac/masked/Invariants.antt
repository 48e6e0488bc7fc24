use Rattle.std.proofs.Common.{◌≡◌, length, take}
use Rattle.signing.specs.Hmac.{masked}
use Rattle.signing.proofs.hmac.masked.Given as goal

abbrev pub invariant-loop-i : goal.invariant-loop-i
invariant-loop-i l = (length l.out ≡ 64) × (take l.i l.out ≡ masked l.mask (take l.i l.block))
