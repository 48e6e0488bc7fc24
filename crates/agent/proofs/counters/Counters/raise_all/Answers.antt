use Rattle.std.proofs.Common.{sym, ap, subst, ◌∙◌, arith, length, ◌<◌, Ok, Err, OnErr}
use Rattle.agent.specs.Counters.{IsRising, TellsOfNew, heard_of, raised}
use Rattle.agent.specs.Code.Listing.{entries_of}
use Rattle.agent.specs.Code.Merging.{merged}
use Rattle.agent.proofs.MergeLemmas.{merged-rising, merged-raises, merged-new}
use Rattle.agent.proofs.counters.Counters.raise_all.Goals as goal

-- the counters were all there
pub invariant_of-self : goal.invariant_of-self
invariant_of-self c = subst IsRising (sym c.raise_known.ensures) (merged-rising _ _ c.self.invariant c.requires)

pub returns-then-new-eq0-clause-raised : goal.returns-then-new-eq0-clause-raised
returns-then-new-eq0-clause-raised c j =
    ap (λ l. heard_of l j) c.raise_known.ensures ∙ merged-raises _ _ c.self.invariant c.requires j ∙ ap (λ l. raised l (entries_of c.args.entries) j) c.self.view_is

-- some were missing
pub invariant_of-self-else-new-eq0 : goal.invariant_of-self-else-new-eq0
invariant_of-self-else-new-eq0 c =
    subst IsRising (sym (c.in_ok-self-inside.ensures ∙ ap (merged (entries_of c.args.entries)) c.deref-else-new-eq0.ensures.value)) (merged-rising _ _ c.self.invariant c.requires)

pub returns-in_ok-self-inside-clause-raised : goal.returns-in_ok-self-inside-clause-raised
returns-in_ok-self-inside-clause-raised c j =
    ap (λ l. heard_of l j) (c.in_ok-self-inside.ensures ∙ ap (merged (entries_of c.args.entries)) c.deref-else-new-eq0.ensures.value)
    ∙ merged-raises _ _ c.self.invariant c.requires j ∙ ap (λ l. raised l (entries_of c.args.entries) j) c.self.view_is

pub returns-in_err-self-inside-clause-known_succeeds : goal.returns-in_err-self-inside-clause-known_succeeds
returns-in_err-self-inside-clause-known_succeeds c =
    let count = c.count_new-new.ensures.count in
    let longer : length c.deref.result.now < length (merged (entries_of c.args.entries) c.deref.result.now) = omega (arith, count) in
    let tells = subst (λ l. TellsOfNew l (entries_of c.args.entries)) (c.deref.ensures.value ∙ c.self.view_is)
    (merged-new (entries_of c.args.entries) c.deref.result.now (subst IsRising (sym c.deref.ensures.value) c.self.invariant) c.requires longer) in
    elim c.from_residual.result as (λ r. OnErr r (TellsOfNew c.args.self.now (entries_of c.args.entries))) [ Ok u ↦ tt | Err e ↦ tells ]
