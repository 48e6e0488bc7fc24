-- Each step of the set was taken, or is in it still.
use Rattle.std.proofs.Common.{ℕ, ◌+◌, ◌<◌, ◌⊎◌}
use Rattle.least_steps.specs.Code.Exploring.{Has}
use Rattle.least_steps.specs.Code.Steps.{HasStep, cell_behind, weight}
use Rattle.least_steps.specs.Code.Waiting.{Goes}
use Rattle.least_steps.proofs.expand.expand.Given as goal

abbrev pub invariant-loop-steps : goal.invariant-loop-steps
invariant-loop-steps l = record {
  goes : Goes l.fn.reached l.fn.waiting l.reached l.waiting;
  among : (k : ℕ) → k < 8 → HasStep l.steps k → HasStep l.initial.steps k;
  taken : (k : ℕ) → k < 8 → HasStep l.initial.steps k → HasStep l.steps k ⊎ Has l.reached (cell_behind k l.place.cell) (l.place.number + weight k);
}

abbrev pub decreases-loop-steps : goal.decreases-loop-steps
decreases-loop-steps l = l.steps
