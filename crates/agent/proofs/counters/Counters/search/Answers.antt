use Rattle.std.proofs.Common.{rules}
use Rattle.std.proofs.lemmas.List.Sorted.{answers_always}
use Rattle.agent.proofs.CounterLemmas.{searched}
use Rattle.agent.proofs.counters.Counters.search.Goals as goal

pub returns-clause-found : goal.returns-clause-found
returns-clause-found c =
    let facts = c.binary_search_by_key.ensures in
    let by_agent = facts.position (λ counter. counter.agent) (answers_always _ _ _ (λ f a r g called. search rules)) in
    rw (← c.self.view_is, ← c.deref.ensures.value) ((searched _ (rw c.deref.ensures.value c.self.invariant) c.args.agent _ facts.bound by_agent).found)

pub returns-clause-absent : goal.returns-clause-absent
returns-clause-absent c =
    let facts = c.binary_search_by_key.ensures in
    let by_agent = facts.position (λ counter. counter.agent) (answers_always _ _ _ (λ f a r g called. search rules)) in
    rw (← c.self.view_is, ← c.deref.ensures.value) ((searched _ (rw c.deref.ensures.value c.self.invariant) c.args.agent _ facts.bound by_agent).absent)
