use Rattle.std.proofs.Common.{◌≡◌}
use Rattle.model.specs.Plan.{position_of, position_at}
use Rattle.checker.specs.Code.Standing.{IsOnGrid}
use Rattle.checker.specs.Laws.Keeping.{HasKept}
use Rattle.plan_commands.proofs.straying.bad_step.Given as goal

-- the agent came so far without a bad move, and was in cells of the map
abbrev pub invariant-loop-step : goal.invariant-loop-step
invariant-loop-step l = record {
  at : position_of l.cell ≡ position_at l.course l.step;
  on_map : IsOnGrid l.map l.cell;
  kept : HasKept l.map l.course l.step;
}
