use Rattle.executor.proofs.BlockLemmas.{unfinished, blocked-first}
use Rattle.executor.proofs.laws.blocking_rotations.Goals as goal

pub returns-clause-never_finished : goal.returns-clause-never_finished
returns-clause-never_finished c = λ version tt h turns n turn free run.
    unfinished c.rotations_never_begin.ensures c.counters.ensures.in_step version tt h free run turns n turn

pub returns-clause-first : goal.returns-clause-first
returns-clause-first c = λ version tt h n free run. blocked-first c.rotations_never_begin.ensures c.counters.ensures.in_step version tt h free run n
