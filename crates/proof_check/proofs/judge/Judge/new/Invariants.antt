use Rattle.std.proofs.Common.{take}
use Rattle.proof_check.specs.Code.Trails.{AreTables}
use Rattle.proof_check.proofs.judge.Judge.new.Given as goal

abbrev pub invariant-loop-own : goal.invariant-loop-own
invariant-loop-own l = AreTables l.legal (take l.own-index l.own-items) l.tables.items
