use Rattle.std.proofs.Common.{sym, ap, subst, arith}
use Rattle.std.proofs.lemmas.List.{get_or_default}
use Rattle.std.specs.Prelude.{unwrap_or}
use Rattle.agent.specs.Counters.{IsRising}
use Rattle.agent.proofs.CounterLemmas.{no_counter, heard_at, heard_in_gap}
use Rattle.agent.proofs.counters.Counters.known.Goals as goal

pub returns-in-Ok : goal.returns-in-Ok
returns-in-Ok c =
    let number = heard_at _ (subst IsRising c.self.view_is c.self.invariant) _ _ c.in-Ok.ensures.found in
    let read = get_or_default _ _ c.index.result.now no_counter c.in-Ok.ensures.found.in_range in
    grind (arith, c.self.view_is)

pub returns-in-Err : goal.returns-in-Err
returns-in-Err c = sym (ap (λ o. unwrap_or o 0) (heard_in_gap _ _ _ c.in-Err.ensures.absent))
