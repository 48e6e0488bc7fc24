use Rattle.least_steps.specs.Code.Exploring.{Advances}
use Rattle.least_steps.specs.Code.Waiting.{IsSearch}
use Rattle.least_steps.proofs.step_search.spread.Given as goal

abbrev pub invariant-loop : goal.invariant-loop
invariant-loop l = record {
  advances : Advances l.fn.reached l.reached;
  search : IsSearch l.reached l.waiting l.goal;
}
