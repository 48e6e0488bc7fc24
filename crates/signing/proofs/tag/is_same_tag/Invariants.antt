use Rattle.std.proofs.Common.{◌≡◌, ◌↔◌, false, take}
use Rattle.signing.proofs.tag.is_same_tag.Given as goal

abbrev pub invariant-loop-i : goal.invariant-loop-i
invariant-loop-i l = (l.differ ≡ false) ↔ (take l.i l.tag ≡ take l.i l.due)
