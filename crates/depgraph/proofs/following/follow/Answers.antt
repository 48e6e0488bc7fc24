-- One block more.
use Rattle.std.proofs.Common.{◌≡◌, ◌+◌, ◌*◌, [], length, get_or, arith, sym, ap, subst, ◌∙◌}
use Rattle.std.proofs.lemmas.Bool.{eqb-true}
use Rattle.std.proofs.lemmas.List.{get_or_default}
use Rattle.depgraph.specs.Code.Meetings.{AllComing, HasAll, AreAllUnderWay, NobodyComes, block_times, list_at}
use Rattle.depgraph.proofs.FollowerLemmas.{past-none, past-all}
use Rattle.depgraph.proofs.RingLemmas.{written}
use Rattle.depgraph.proofs.following.follow.Goals as goal

pub take_step-requires-clause-sound : goal.take_step-requires-clause-sound
take_step-requires-clause-sound c =
    let m = c.args.meetings.now in
    let block = c.in_ok-gather.ensures.block in
    let whole = written c.loop-number.block.len c.loop-number.block.items c.gather.new.block c.loop-number.block.ok.0 (block.count ∙ sym c.loop-number.invariant.count) in
    let less = c.loop-step-test.true in
    let count = block.count in
    let row = c.as_slice.ensures ∙ c.index.ensures ∙ ap (λ l. get_or l c.loop-step.step c.index.result.now) whole
    ∙ get_or_default c.gather.new.block c.loop-step.step c.index.result.now [] (omega (arith, less, count)) in
    subst (AllComing m c.loop-step.pass.time) (sym row) (subst (λ t. AllComing m t (list_at c.gather.new.block c.loop-step.step)) (sym c.loop-step.invariant.time) (block.sound c.loop-step.step less))

pub take_step-requires-clause-all : goal.take_step-requires-clause-all
take_step-requires-clause-all c =
    let m = c.args.meetings.now in
    let block = c.in_ok-gather.ensures.block in
    let whole = written c.loop-number.block.len c.loop-number.block.items c.gather.new.block c.loop-number.block.ok.0 (block.count ∙ sym c.loop-number.invariant.count) in
    let less = c.loop-step-test.true in
    let count = block.count in
    let row = c.as_slice.ensures ∙ c.index.ensures ∙ ap (λ l. get_or l c.loop-step.step c.index.result.now) whole
    ∙ get_or_default c.gather.new.block c.loop-step.step c.index.result.now [] (omega (arith, less, count)) in
    subst (HasAll m c.loop-step.pass.time) (sym row) (subst (λ t. HasAll m t (list_at c.gather.new.block c.loop-step.step)) (sym c.loop-step.invariant.time) (block.whole c.loop-step.step less))

pub loop-number-preserved : goal.loop-number-preserved
loop-number-preserved c =
    let m = c.args.meetings.now in
    let did = c.in_ok-gather.ensures in
    let was = c.loop-step.invariant in
    let time = was.time in
    let past = c.loop-step-test.false in
    let end = c.loop-step.auto.step-end in
    let next : c.loop-number.number * 32 + block_times ≡ (c.loop-number.number + 1) * block_times = omega arith in
    let followers = written c.keep_under_way.new.followers.len c.keep_under_way.new.followers.items c.gather.new.followers c.keep_under_way.new.followers.ok.0
    (c.gather.auto.followers ∙ ap length c.deref_mut.ensures.value) in
    let block = written c.loop-number.block.len c.loop-number.block.items c.gather.new.block c.loop-number.block.ok.0 (did.block.count ∙ sym c.loop-number.invariant.count) in
    record {
      done = was.done;
      time = omega (arith, time, past, end, next);
      all = subst (AreAllUnderWay m ((c.loop-number.number + 1) * block_times)) (sym followers) (subst (λ t. AreAllUnderWay m t c.gather.new.followers) next did.all);
      count = ap length block ∙ did.block.count;
    }

pub returns-then-is_empty-clause-end : goal.returns-then-is_empty-clause-end
returns-then-is_empty-clause-end c =
    let m = c.args.meetings.now in
    let few = c.keep_under_way.new.followers in
    let none : few.len ≡ 0 = eqb-true few.len 0 (sym c.is_empty.ensures ∙ c.if-is_empty.true) in
    subst (NobodyComes m) (sym c.loop-number.invariant.time)
    (past-none m c.requires.meetings (c.loop-number.number * block_times) few.items (sym few.ok.0 ∙ none) c.keep_under_way.ensures)

pub returns-clause-end : goal.returns-clause-end
returns-clause-end c =
    let time = c.loop-number.invariant.time in
    let past = c.loop-number-test.false in
    past-all c.args.meetings.now c.requires.meetings c.loop-number.pass.time (omega (arith, time, past))
