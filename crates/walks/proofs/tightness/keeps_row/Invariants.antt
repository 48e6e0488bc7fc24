use Rattle.std.specs.Prelude.{IsTrue, ◌↔◌}
use Rattle.walks.specs.Code.Tightness.{KeepsRows}
use Rattle.walks.proofs.tightness.keeps_row.Given as goal

-- it tells of the blocks before
abbrev pub invariant-loop-i : goal.invariant-loop-i
invariant-loop-i l = IsTrue l.keeps ↔ KeepsRows l.i l.upper l.lower
