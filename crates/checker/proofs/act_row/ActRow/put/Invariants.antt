use Rattle.checker.proofs.RowLemmas.{IsFilledTo}
use Rattle.checker.proofs.act_row.ActRow.put.Given as goal

abbrev pub invariant-loop-member : goal.invariant-loop-member
invariant-loop-member l = IsFilledTo l.stretches l.step l.first l.initial.acts l.acts l.member
