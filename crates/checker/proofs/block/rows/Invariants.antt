use Rattle.std.proofs.Common.{◌≡◌, ◌<◌, ℕ, length, replicate}
use Rattle.model.specs.declared.act.Act.TheVariants.{Wait}
use Rattle.checker.specs.Code.Blocks.{row_of_step}
use Rattle.checker.proofs.block.rows.Given as goal

-- each row so far has waits alone
abbrev pub invariant-loop-step : goal.invariant-loop-step
invariant-loop-step l = record {
  steps : length l.rows.items ≡ l._step;
  waits : (s : ℕ) → s < l._step → row_of_step l.rows.items s ≡ replicate l.count Wait;
}
