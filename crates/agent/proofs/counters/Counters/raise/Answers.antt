use Rattle.std.proofs.Common.{ap, subst, arith}
use Rattle.std.specs.Prelude.{is_some}
use Rattle.std.proofs.lemmas.List.{get_or_default}
use Rattle.agent.specs.Counters.{IsRising, SetsOnly}
use Rattle.agent.proofs.CounterLemmas.{no_counter, heard_at, heard_in_gap, greater_in_gap, sets_only_set, rising_insert, sets_only_insert}
use Rattle.agent.proofs.counters.Counters.raise.Goals as goal

-- memory fails only for an agent that was not heard of
pub returns-in_err-insert-in-Err-clause-known_succeeds : goal.returns-in_err-insert-in-Err-clause-known_succeeds
returns-in_err-insert-in-Err-clause-known_succeeds c = (let absent = ap is_some (heard_in_gap _ _ _ c.in-Err.ensures.absent) in grind (arith, absent))

-- the counter is added in the gap
pub invariant_of-self-in-Err : goal.invariant_of-self-in-Err
invariant_of-self-in-Err c = rw c.in_ok-insert-in-Err.ensures.items (rising_insert _ _ _ (rw c.self.view_is c.in-Err.ensures.absent) _ c.self.invariant)

pub returns-in_ok-insert-in-Err-clause-kept : goal.returns-in_ok-insert-in-Err-clause-kept
returns-in_ok-insert-in-Err-clause-kept c = greater_in_gap _ _ _ c.in-Err.ensures.absent _

pub returns-in_ok-insert-in-Err-clause-raised : goal.returns-in_ok-insert-in-Err-clause-raised
returns-in_ok-insert-in-Err-clause-raised c =
    subst (λ n. SetsOnly c.args.self.now c.insert.new.self.items c.args.agent n) (greater_in_gap _ _ _ c.in-Err.ensures.absent _)
    (rw (c.in_ok-insert-in-Err.ensures.items, c.self.view_is) (sets_only_insert _ _ _ c.in-Err.ensures.absent _))

-- the counter was there, and is written over
pub returns-in-Ok-clause-kept : goal.returns-in-Ok-clause-kept
returns-in-Ok-clause-kept c =
    let number = heard_at _ (subst IsRising c.self.view_is c.self.invariant) _ _ c.in-Ok.ensures.found in
    let read = get_or_default _ _ c.index.result.now no_counter c.in-Ok.ensures.found.in_range in
    grind (arith, c.self.view_is)

pub returns-in-Ok-clause-raised : goal.returns-in-Ok-clause-raised
returns-in-Ok-clause-raised c =
    rw (← returns-in-Ok-clause-kept c, c.self.view_is) (sets_only_set _ (subst IsRising c.self.view_is c.self.invariant) _ _ c.in-Ok.ensures.found _)
