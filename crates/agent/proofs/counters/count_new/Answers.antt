use Rattle.std.proofs.Common.{ap, ◌∙◌, ◌+◌, if◌then◌else◌, arith}
use Rattle.std.specs.Prelude.{not}
use Rattle.agent.specs.Code.Listing.{entries_of}
use Rattle.agent.proofs.MergeLemmas.{length-step, length-parts, length-own, rising_step}
use Rattle.agent.proofs.counters.count_new.Goals as goal
use Rattle.agent.proofs.counters.count_new.Goals.{then-is_none, else-is_none}

pub loop-number-preserved : goal.loop-number-preserved
loop-number-preserved c =
    let es = entries_of c.args.entries in
    let number = c.loop-number.number in
    let lengths = length-step es number _ _ _ _ _ c.entry.ensures c.part-own.ensures in
    let parts = length-parts _ _ _ _ _ c.part-own.ensures in
    let own = length-own c.entry.result.agent c.part-own.result.1 in
    let rising = rising_step es number _ _ c.entry.ensures c.loop-number.invariant.rising.1 in
    elim c.if-is_none.branch [
      | then-is_none w ↦ (
          let none = own ∙ ap (λ b. if b then 1 else 0) (c.is_none.ensures ∙ ap not w.if-is_none.true) in
          record {
            count = omega (arith, lengths, parts, none);
            few = omega arith;
            rising = (c.entry.result.agent + 1, rising.1, omega (arith, rising.0, c.loop-number.invariant.rising.2), omega arith);
          }
          )
      | else-is_none w ↦ (
          let some = own ∙ ap (λ b. if b then 1 else 0) (c.is_none.ensures ∙ ap not w.if-is_none.false) in
          record {
            count = omega (arith, lengths, parts, some);
            few = omega arith;
            rising = (c.entry.result.agent + 1, rising.1, omega (arith, rising.0, c.loop-number.invariant.rising.2), omega arith);
          }
          )
    ]
