-- Where an agent is under way, the step is one that a plan may have; where none is, the plan is seen to its end.
use Rattle.std.proofs.Common.{◌≡◌, ◌<◌, ◌+◌, ℕ, false, eqb, length, Some, None, arith, sym, ap, subst, ◌∙◌}
use Rattle.std.specs.Prelude.{Option, MatchOption, is_some, vec_len}
use Rattle.std.proofs.lemmas.Bool.{eqb-true, eqb-false, false≢true}
use Rattle.std.proofs.lemmas.List.{nil_from_length, with_items_is}
use Rattle.checker.specs.Code.Blocks.{block_steps, AreActRows, HoldsSquares, IsLinedUp}
use Rattle.checker.specs.Code.Crowd.{walker_at, first_mark}
use Rattle.checker.specs.Code.UnderWay.{AreUnderWay}
use Rattle.checker.specs.Code.Watching.{IsSeen, AreSameAgents}
use Rattle.checker.proofs.RowLemmas.{marks-lined}
use Rattle.checker.proofs.BlockLemmas.{AreRecent, step_bound, recent-after, are_agents, block-begun, none_under_way}
use Rattle.checker.proofs.checker.Checker.watch.Goals as goal

some_from : (n : ℕ) → eqb n 0 ≡ false → 0 < n
some_from n h = let other = eqb-false n 0 h in omega (arith, other)

none_from : {X : Type 0} (o : Option X) (P : Type 0) (Q : X → Type 0) → is_some o ≡ false → MatchOption o P Q → P
none_from None P Q h at = at
none_from (Some x) P Q h at = absurd (false≢true (sym h))

pub turn-requires-clause-agents : goal.turn-requires-clause-agents
turn-requires-clause-agents c = λ k less.
    let courses = c.courses-courses.ensures.courses in
    let lined = subst (λ k. IsLinedUp k c.loop-courses.step c.loop-courses.walkers.items c.line_up.new.walkers.items) courses c.line_up.ensures in
    let value = c.deref-in-loop-courses.ensures.value in
    let is_agent = are_agents c.args.self.now.map.now c.args.self.now.plan.now.courses c.loop-courses.step c.loop-courses.walkers.items c.line_up.new.walkers.items
    c.loop-courses.invariant.seen.under_way.walkers_are lined k (omega (arith, less, ap length value)) in
    subst (λ l. (walker_at l k).agent < length c.courses-courses.result.now) (sym value) (omega (arith, is_agent, ap length courses))

pub take_block-requires-clause-step : goal.take_block-requires-clause-step
take_block-requires-clause-step c =
    let some = some_from (vec_len c.loop-courses.walkers) (sym c.is_empty.ensures ∙ c.loop-courses-test.true) in
    let count = c.loop-courses.walkers.ok.0 in
    let was = c.loop-courses.invariant in
    let less = step_bound c.args.self.now.map.now c.args.self.now.plan.now c.loop-courses.step c.loop-courses.walkers.items c.courses-courses.ensures.within was.seen.under_way.walkers_are
    was.recent (omega (arith, some, count)) in
    omega (arith, less)

pub take_block-requires-clause-seen : goal.take_block-requires-clause-seen
take_block-requires-clause-seen c =
    let m = c.args.self.now.map.now in
    let p = c.args.self.now.plan.now in
    let step = c.loop-courses.step in
    let old = c.loop-courses.walkers.items in
    let new = c.line_up.new.walkers.items in
    let courses = c.courses-courses.ensures.courses in
    let lined = subst (λ k. IsLinedUp k step old new) courses c.line_up.ensures in
    let held = subst (λ k. HoldsSquares k step old c.loop-courses.squares c.hold.new.squares) courses
    (subst (λ l. HoldsSquares c.courses-courses.result.now step l c.loop-courses.squares c.hold.new.squares) c.deref.ensures.value c.hold.ensures) in
    subst (λ l. IsSeen m p step l c.hold.new.squares) (sym c.deref_mut.ensures.value) (record {
      under_way = block-begun m p.courses step old new c.loop-courses.squares c.hold.new.squares c.loop-courses.invariant.seen.under_way held lined;
      clean = c.loop-courses.invariant.seen.clean;
      marks = marks-lined p.courses step (first_mark (step + 1)) old new c.loop-courses.squares c.hold.new.squares held lined c.loop-courses.invariant.seen.marks;
    })

pub overflow_add-step : goal.overflow_add-step
overflow_add-step c =
    let some = some_from (vec_len c.loop-courses.walkers) (sym c.is_empty.ensures ∙ c.loop-courses-test.true) in
    let count = c.loop-courses.walkers.ok.0 in
    let was = c.loop-courses.invariant in
    let less = step_bound c.args.self.now.map.now c.args.self.now.plan.now c.loop-courses.step c.loop-courses.walkers.items c.courses-courses.ensures.within was.seen.under_way.walkers_are
    was.recent (omega (arith, some, count)) in
    omega (arith, less)

pub loop-courses-smaller : goal.loop-courses-smaller
loop-courses-smaller c =
    let some = some_from (vec_len c.loop-courses.walkers) (sym c.is_empty.ensures ∙ c.loop-courses-test.true) in
    let count = c.loop-courses.walkers.ok.0 in
    let was = c.loop-courses.invariant in
    let less = step_bound c.args.self.now.map.now c.args.self.now.plan.now c.loop-courses.step c.loop-courses.walkers.items c.courses-courses.ensures.within was.seen.under_way.walkers_are
    was.recent (omega (arith, some, count)) in
    omega (arith, less)

pub loop-courses-preserved : goal.loop-courses-preserved
loop-courses-preserved c =
    let m = c.args.self.now.map.now in
    let p = c.args.self.now.plan.now in
    let step = c.loop-courses.step in
    let old = c.loop-courses.walkers.items in
    let lined = c.line_up.new.walkers.items in
    let courses = c.courses-courses.ensures.courses in
    let up = subst (λ k. IsLinedUp k step old lined) courses c.line_up.ensures in
    let fewer = up.fewer in
    let none = sym c.is_some.ensures ∙ c.if-is_some.false in
    let value = c.deref_mut.ensures.value in
    let same = subst (λ l. AreSameAgents l c.take_block.new.walkers) value c.take_block.ensures.agents in
    let count = same.count in
    let room = c.loop-courses.invariant.room in
    let long = c.line_up.new.walkers.ok.0 in
    let items = with_items_is c.line_up.new.walkers c.take_block.new.walkers (omega (arith, count, long)) in
    record {
      seen = subst (λ l. IsSeen m p (step + block_steps) l c.take_block.new.squares) (sym items)
          (none_from c.in_ok-fault.fault _ _ none c.in_ok-fault.ensures.seen);
      rows = subst (λ k. AreActRows (length k) c.turn.new.rows) courses c.turn.ensures.rows;
      room = (let size = ap length items in omega (arith, size, count, fewer, room));
      recent = subst (AreRecent p.courses (step + block_steps)) (sym items) (recent-after p.courses step old lined c.take_block.new.walkers up same);
    }

pub returns : goal.returns
returns c =
    let was = c.loop-courses.invariant in
    let none = eqb-true (vec_len c.loop-courses.walkers) 0 (sym c.is_empty.ensures ∙ c.loop-courses-test.false) in
    let count = c.loop-courses.walkers.ok.0 in
    let empty = nil_from_length c.loop-courses.walkers.items (omega (arith, none, count)) in
    none_under_way c.args.self.now.map.now c.args.self.now.plan.now c.loop-courses.step c.loop-courses.squares
    (subst (λ l. AreUnderWay c.args.self.now.map.now c.args.self.now.plan.now.courses c.loop-courses.step l c.loop-courses.squares) empty was.seen.under_way) was.seen.clean
