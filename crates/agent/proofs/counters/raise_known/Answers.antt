use Rattle.std.proofs.Common.{◌≡◌, ℕ, ◌++◌, ◌+◌, ◌-◌, ◌∷◌, List, length, take, drop, sym, ap, subst, ◌∙◌, arith, length-set}
use Rattle.std.specs.Prelude.{max, unwrap_or}
use Rattle.agent.specs.declared.counters.Counter.{Counter}
use Rattle.agent.specs.Code.Listing.{entries_of}
use Rattle.agent.specs.Code.Merging.{merged, AreParted, own_counter}
use Rattle.agent.proofs.MergeLemmas.{all_there, merged_step, place_in_range, known_step, none_missing}
use Rattle.agent.proofs.counters.raise_known.Goals as goal
use Rattle.agent.proofs.counters.raise_known.Goals.{in-Some, in_default}

pub loop-number-preserved : goal.loop-number-preserved
loop-number-preserved c =
    let es = entries_of c.args.entries in
    let number = c.loop-number.number in
    let list = c.loop-number.list.items in
    let next = c.loop-number.next in
    let agent = c.entry-agent.result.agent in
    let lesser = c.part-own.result.0.now in
    let others = c.part-own.result.2.now in
    let all = merged es c.args.list.now.items in
    let at = next + length lesser in
    let left = λ (l : List Counter). take (length l - next) (drop next l) in
    let parted = subst (λ l. AreParted agent l lesser c.part-own.result.1 others) (ap left c.deref.ensures.value ∙ all_there list next) c.part-own.ensures in
    elim c.match-own.branch [
      | in-Some w ↦ (
          let counter = λ (n : ℕ). let y : Counter = record { agent = agent; done = n } in y in
          let there = parted.parts ∙ ap (λ o. lesser ++ (own_counter agent o ++ others)) w.in-Some.is in
          let number_is = ap (λ o. max (unwrap_or o 0) c.entry-agent.result.done) w.in-Some.is ∙ sym w.max.ensures in
          let stepped = subst (λ n. merged (drop number es) (drop next list) ≡ lesser ++ (counter n ∷ merged (drop (number + 1) es) others)) number_is
          (merged_step es number _ _ _ _ _ c.entry-agent.ensures parted) in
          let items = ap (λ v. v.items) w.list-is in
          let in_range = place_in_range list next lesser (counter w.in-Some.old) others c.loop-number.invariant.within there in
          let lengths = ap length items ∙ length-set list at (counter w.max.result) in
          let later = drop (number + 1) es in
          record {
            within = omega (arith, w.next-is, in_range, lengths);
            same_length = lengths ∙ c.loop-number.invariant.same_length;
            raised = subst (λ i. take i c.match-own.list.items ++ merged later (drop i c.match-own.list.items) ≡ all) (sym w.next-is)
                (subst (λ l. take (at + 1) l ++ merged later (drop (at + 1) l) ≡ all) (sym items)
                (known_step list next lesser (counter w.in-Some.old) others c.loop-number.invariant.within there es number (counter w.max.result) all stepped c.loop-number.invariant.raised));
          }
          )
      | in_default w ↦ absurd (none_missing es number c.entry-agent.result list next _ _ _ _ c.entry-agent.ensures c.loop-number.invariant.within parted w.in_default.is c.requires
          c.loop-number.invariant.same_length c.loop-number.invariant.raised)
    ]
