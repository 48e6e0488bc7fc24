use Rattle.least_steps.specs.Code.Exploring.{Advances}
use Rattle.least_steps.specs.Code.Waiting.{IsSearchFrom}
use Rattle.least_steps.proofs.step_search.settle.Given as goal

abbrev pub invariant-loop-place : goal.invariant-loop-place
invariant-loop-place l = record {
  advances : Advances l.fn.reached l.reached;
  search : IsSearchFrom l.reached l.waiting l.place-index l.wave l.fn.goal;
}
