use Rattle.std.proofs.Common.{◌≡◌, ◌+◌, ◌++◌, ◌∷◌, drop, sym, ap, subst, ◌∙◌}
use Rattle.std.specs.Prelude.{max}
use Rattle.agent.specs.Code.Listing.{entries_of}
use Rattle.agent.specs.Code.Merging.{merged}
use Rattle.agent.proofs.MergeLemmas.{merged_step, appended}
use Rattle.agent.proofs.counters.merge.Goals as goal

pub loop-number-preserved : goal.loop-number-preserved
loop-number-preserved c =
    let es = entries_of c.args.entries in
    let number = c.loop-number.number in
    let stepped = merged_step es number _ _ _ _ _ c.entry-agent.ensures c.part-own.ensures in
    let raised = c.max.ensures ∙ ap (λ n. max n c.entry-agent.result.done) c.unwrap_or.ensures in
    let by_code = subst (λ n. merged (drop number es) c.loop-number.rest.now ≡ c.part-own.result.0.now ++
    (record { agent = c.entry-agent.result.agent; done = n } ∷ merged (drop (number + 1) es) c.part-own.result.2.now))
    (sym raised) stepped in
    appended _ _ _ _ _ _ _ _ c.in_ok-extend_from_slice.ensures.items c.in_ok-push.ensures.items by_code c.loop-number.invariant
