use Rattle.scenario.proofs.laws.order_of_lengths.Goals as goal
use Rattle.scenario.specs.Code.Squares.{only_zero}
use Rattle.scenario.specs.Code.OrderLaws.{total, irreflexive, never_both, transitive}
use Rattle.scenario.specs.Laws.LengthSums.{step, step_at_most}

pub returns-clause-only_zero : goal.returns-clause-only_zero
returns-clause-only_zero c = only_zero

pub returns-clause-total : goal.returns-clause-total
returns-clause-total c = total

pub returns-clause-irreflexive : goal.returns-clause-irreflexive
returns-clause-irreflexive c = irreflexive

pub returns-clause-never_both : goal.returns-clause-never_both
returns-clause-never_both c = never_both

pub returns-clause-transitive : goal.returns-clause-transitive
returns-clause-transitive c = transitive

pub returns-clause-step : goal.returns-clause-step
returns-clause-step c = step

pub returns-clause-step_at_most : goal.returns-clause-step_at_most
returns-clause-step_at_most c = step_at_most
