use Rattle.executor.specs.Laws.Safe.{safe-run}
use Rattle.executor.proofs.runner.Runner.step.Goals as goal

pub returns-in_err-say-in-Say-clause-safe : goal.returns-in_err-say-in-Say-clause-safe
returns-in_err-say-in-Say-clause-safe c = safe-run c.every_run_is_safe.ensures c.rotations_never_begin.ensures _

pub returns-in_err-deliver-in-Deliver-clause-safe : goal.returns-in_err-deliver-in-Deliver-clause-safe
returns-in_err-deliver-in-Deliver-clause-safe c = safe-run c.every_run_is_safe.ensures c.rotations_never_begin.ensures _

pub returns-in-Start-clause-safe : goal.returns-in-Start-clause-safe
returns-in-Start-clause-safe c = safe-run c.every_run_is_safe.ensures c.rotations_never_begin.ensures _

pub returns-in-Finish-clause-safe : goal.returns-in-Finish-clause-safe
returns-in-Finish-clause-safe c = safe-run c.every_run_is_safe.ensures c.rotations_never_begin.ensures _

pub returns-in_ok-say-in-Say-clause-safe : goal.returns-in_ok-say-in-Say-clause-safe
returns-in_ok-say-in-Say-clause-safe c = safe-run c.every_run_is_safe.ensures c.rotations_never_begin.ensures _

pub returns-in_ok-deliver-in-Deliver-clause-safe : goal.returns-in_ok-deliver-in-Deliver-clause-safe
returns-in_ok-deliver-in-Deliver-clause-safe c = safe-run c.every_run_is_safe.ensures c.rotations_never_begin.ensures _

pub returns-in-Restart-clause-safe : goal.returns-in-Restart-clause-safe
returns-in-Restart-clause-safe c = safe-run c.every_run_is_safe.ensures c.rotations_never_begin.ensures _

pub returns-in-Tear-clause-safe : goal.returns-in-Tear-clause-safe
returns-in-Tear-clause-safe c = safe-run c.every_run_is_safe.ensures c.rotations_never_begin.ensures _
