use Rattle.std.proofs.Common.{subst}
use Rattle.agent.specs.Counters.{IsRising}
use Rattle.agent.proofs.TellLemmas.{around_own, around_gap}
use Rattle.agent.proofs.counters.Counters.around.Goals as goal

pub returns-in-Ok : goal.returns-in-Ok
returns-in-Ok c =
    rw (c.deref.ensures.value, c.deref-in-Ok.ensures.value, c.self.view_is) (around_own _ (subst IsRising c.self.view_is c.self.invariant) _ _ c.in-Ok.ensures.found)

pub returns-in-Err : goal.returns-in-Err
returns-in-Err c = rw (c.deref-in-Err.ensures.value, c.deref-in-Err-2.ensures.value, c.self.view_is) (around_gap _ (subst IsRising c.self.view_is c.self.invariant) _ _ c.in-Err.ensures.absent)
