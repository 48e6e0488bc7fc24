use Rattle.std.proofs.Common.{length}
use Rattle.checker.proofs.RowLemmas.{AreFetched, AreStretches, ArePutTo}
use Rattle.checker.proofs.block.turn_group.Given as goal

abbrev pub invariant-loop-member : goal.invariant-loop-member
invariant-loop-member l = record {
  are : AreStretches l.stretches;
  fetched : AreFetched l.courses l.step l.group l.stretches l.member;
}

abbrev pub invariant-loop-taken : goal.invariant-loop-taken
invariant-loop-taken l = ArePutTo l.stretches (length l.group) l.first l.initial.rows l.rows l.taken
