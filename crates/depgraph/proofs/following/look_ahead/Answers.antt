-- One entry more of the agent's, and past the block.
use Rattle.std.proofs.Common.{◌≡◌, ◌+◌, ◌-◌, ◌<◌, ◌≤◌, List, [], ◌∷◌, ◌++◌, length, get_or, set, arith, sym, ap, subst, ◌∙◌}
use Rattle.std.proofs.lemmas.List.{get_or_default}
use Rattle.depgraph.specs.declared.following.Coming.{Coming}
use Rattle.depgraph.specs.Code.Entries.{begin_in}
use Rattle.depgraph.specs.Code.Meetings.{ComesNextAt, IsNextMeeting, block_times, coming_by, list_at}
use Rattle.depgraph.proofs.FollowerLemmas.{AreAddedTo, ComesTo, end-within, comer-inside, come-few, added-none, comes-first, comes-next, before-more, added-more, at-next, added-all}
use Rattle.depgraph.proofs.following.look_ahead.Goals as goal
use Rattle.depgraph.proofs.following.look_ahead.Goals.{then-loop-entry-test+else-from-time, else-loop-entry-test}

pub loop-entry-init : goal.loop-entry-init
loop-entry-init c =
    let m = c.args.meetings.now in
    let f = c.args.follower.now in
    let begin : begin_in m.ends.now f.agent ≡ c.begin_in-begin.result = sym (c.begin_in-begin.ensures ∙ ap (begin_in m.ends.now) c.from.ensures) in
    record {
      comes = subst (λ b. ComesTo m c.args.time f.agent (b + f.index)) begin (comes-first m c.requires.meetings c.args.time f c.requires.at);
      before = λ k e entry before meets. (
          let sooner = c.requires.at.before k e entry (omega (arith, before, begin)) meets in
          omega (arith, sooner)
          );
      added = subst (λ b. AreAddedTo m c.args.time f.agent (b + f.index) c.args.block.now c.args.block.now) begin (added-none m c.requires.meetings c.args.time f c.args.block.now c.requires.at);
    }

pub offset_bounds-meetings-entry : goal.offset_bounds-meetings-entry
offset_bounds-meetings-entry c =
    let in_all = comer-inside c.args.meetings.now c.requires.meetings c.args.time c.args.follower.now.agent c.loop-entry.entry c.requires.at.agent c.loop-entry.invariant.comes
    (subst (λ i. c.loop-entry.entry < get_or c.args.meetings.now.ends.now i 0) c.from-2.ensures c.loop-entry-test.true) in
    let inside = in_all.0 in
    let all = in_all.3 in
    omega (arith, inside, all)

pub bounds-meetings-entry : goal.bounds-meetings-entry
bounds-meetings-entry c = (comer-inside c.args.meetings.now c.requires.meetings c.args.time c.args.follower.now.agent c.loop-entry.entry c.requires.at.agent c.loop-entry.invariant.comes
    (subst (λ i. c.loop-entry.entry < get_or c.args.meetings.now.ends.now i 0) c.from-2.ensures c.loop-entry-test.true)).0

pub offset_bounds-meetings-entry-in-loop-entry : goal.offset_bounds-meetings-entry-in-loop-entry
offset_bounds-meetings-entry-in-loop-entry c =
    let in_all = comer-inside c.args.meetings.now c.requires.meetings c.args.time c.args.follower.now.agent c.loop-entry.entry c.requires.at.agent c.loop-entry.invariant.comes
    (subst (λ i. c.loop-entry.entry < get_or c.args.meetings.now.ends.now i 0) c.from-2.ensures c.loop-entry-test.true) in
    let inside = in_all.0 in
    let all = in_all.3 in
    omega (arith, inside, all)

pub bounds-meetings-entry-in-loop-entry : goal.bounds-meetings-entry-in-loop-entry
bounds-meetings-entry-in-loop-entry c = (comer-inside c.args.meetings.now c.requires.meetings c.args.time c.args.follower.now.agent c.loop-entry.entry c.requires.at.agent c.loop-entry.invariant.comes
    (subst (λ i. c.loop-entry.entry < get_or c.args.meetings.now.ends.now i 0) c.from-2.ensures c.loop-entry-test.true)).1

pub overflow_cast-coming : goal.overflow_cast-coming
overflow_cast-coming c =
    let begin = c.begin_in-begin.ensures ∙ ap (begin_in c.args.meetings.now.ends.now) c.from.ensures in
    let few = (comer-inside c.args.meetings.now c.requires.meetings c.args.time c.args.follower.now.agent c.loop-entry.entry c.requires.at.agent c.loop-entry.invariant.comes
    (subst (λ i. c.loop-entry.entry < get_or c.args.meetings.now.ends.now i 0) c.from-2.ensures c.loop-entry-test.true)).2 in
    omega (arith, few, begin)

pub offset_bounds-meetings-entry-in-loop-entry-2 : goal.offset_bounds-meetings-entry-in-loop-entry-2
offset_bounds-meetings-entry-in-loop-entry-2 c =
    let in_all = comer-inside c.args.meetings.now c.requires.meetings c.args.time c.args.follower.now.agent c.loop-entry.entry c.requires.at.agent c.loop-entry.invariant.comes
    (subst (λ i. c.loop-entry.entry < get_or c.args.meetings.now.ends.now i 0) c.from-2.ensures c.loop-entry-test.true) in
    let inside = in_all.0 in
    let all = in_all.3 in
    omega (arith, inside, all)

pub bounds-meetings-entry-in-loop-entry-2 : goal.bounds-meetings-entry-in-loop-entry-2
bounds-meetings-entry-in-loop-entry-2 c = (comer-inside c.args.meetings.now c.requires.meetings c.args.time c.args.follower.now.agent c.loop-entry.entry c.requires.at.agent
    c.loop-entry.invariant.comes (subst (λ i. c.loop-entry.entry < get_or c.args.meetings.now.ends.now i 0) c.from-2.ensures c.loop-entry-test.true)).0

pub next_meeting-entry-requires-clause-within : goal.next_meeting-entry-requires-clause-within
next_meeting-entry-requires-clause-within c = λ more.
    subst (λ i. get_or c.args.meetings.now.ends.now i 0 ≤ length c.args.meetings.now.times.now) (sym c.from-2.ensures)
    (end-within c.args.meetings.now c.requires.meetings c.args.follower.now.agent c.requires.at.agent
    (let after = c.loop-entry.invariant.comes.after in let same = ap (λ i. get_or c.args.meetings.now.ends.now i 0) c.from-2.ensures in omega (arith, more, after, same)))

pub loop-entry-preserved : goal.loop-entry-preserved
loop-entry-preserved c =
    let m = c.args.meetings.now in
    let h = c.requires.meetings in
    let agent = c.args.follower.now.agent in
    let entry = c.loop-entry.entry in
    let t = c.args.time in
    let now = c.loop-entry.block in
    let was = c.loop-entry.invariant in
    let less = (subst (λ i. c.loop-entry.entry < get_or c.args.meetings.now.ends.now i 0) c.from-2.ensures c.loop-entry-test.true) in
    let soon : get_or m.times.now entry 0 < t + block_times = (let is = c.from-in-loop-entry.ensures in let test = c.if-from-time.true in omega (arith, is, test)) in
    let n = subst (λ i. IsNextMeeting m (entry + 1) (get_or m.ends.now i 0) c.next_meeting-entry.result) c.from-2.ensures c.next_meeting-entry.ensures in
    let count : length now ≡ block_times = was.added.count ∙ c.requires.count in
    let begin = c.begin_in-begin.ensures ∙ ap (begin_in m.ends.now) c.from.ensures in
    let s = get_or m.times.now entry 0 - t in
    let place : c.from-in-loop-entry-2.result - t ≡ s = ap (λ x. x - t) c.from-in-loop-entry-2.ensures in
    let later = was.comes.later less in
    let row : get_or now (c.from-in-loop-entry-2.result - t) c.index-block-from.result ≡ list_at now s = ap (λ x. get_or now x c.index-block-from.result) place
    ∙ get_or_default now s c.index-block-from.result [] (omega (arith, later, soon, count)) in
    let own : c.add.new.self ≡ list_at now s ++ coming_by m agent (entry - begin_in m.ends.now agent) entry ∷ [] =
    c.in_ok-add.ensures ∙ ap (λ (l : List Coming). l ++ coming_by m agent (entry - c.begin_in-begin.result) entry ∷ []) row
    ∙ ap (λ b. list_at now s ++ coming_by m agent (entry - b) entry ∷ []) begin in
    record {
      comes = comes-next m h t agent entry c.next_meeting-entry.result c.args.block.now now c.requires.at.agent was.comes less soon n;
      before = before-more m h t agent entry c.next_meeting-entry.result c.args.block.now now c.requires.at.agent was.comes less soon n was.before;
      added = added-more m h t agent entry c.next_meeting-entry.result c.args.block.now now c.requires.at.agent was.comes less soon n
          (set now (c.from-in-loop-entry-2.result - t) c.add.new.self) count (ap (λ x. set now x c.add.new.self) place ∙ ap (set now s) own) was.added;
    }

pub overflow_cast-follower : goal.overflow_cast-follower
overflow_cast-follower c =
    let begin = c.begin_in-begin.ensures ∙ ap (begin_in c.args.meetings.now.ends.now) c.from.ensures in
    let few = come-few c.args.meetings.now c.requires.meetings c.args.time c.args.follower.now.agent c.loop-entry.entry c.requires.at.agent c.loop-entry.invariant.comes in
    omega (arith, few, begin)

pub returns-clause-at : goal.returns-clause-at
returns-clause-at c =
    let m = c.args.meetings.now in
    let agent = c.args.follower.now.agent in
    let begin = c.begin_in-begin.ensures ∙ ap (begin_in m.ends.now) c.from.ensures in
    let end : (c.loop-entry.entry < get_or c.args.meetings.now.ends.now c.args.follower.now.agent 0) → c.args.time + block_times ≤ get_or c.args.meetings.now.times.now c.loop-entry.entry 0 = λ more.
    (elim c.loop-entry-test.branch [
      | then-loop-entry-test+else-from-time w ↦ (let is = w.from-in-loop-entry.ensures in let past = w.if-from-time.false in omega (arith, is, past))
      | else-loop-entry-test w ↦ (
          let past = w.loop-entry-test.false in
          let same = ap (λ i. get_or c.args.meetings.now.ends.now i 0) c.from-2.ensures in
          absurd (omega (arith, past, same, more))
          )
    ]) in
    subst (λ b. ComesNextAt m (c.args.time + block_times) (record { agent = agent; index = c.loop-entry.entry - b })) (sym begin)
    (at-next m c.requires.meetings c.args.time agent c.loop-entry.entry c.requires.at.agent c.loop-entry.invariant.comes c.loop-entry.invariant.before end)

pub returns-clause-added : goal.returns-clause-added
returns-clause-added c =
    let m = c.args.meetings.now in
    let agent = c.args.follower.now.agent in
    let end : (c.loop-entry.entry < get_or c.args.meetings.now.ends.now c.args.follower.now.agent 0) → c.args.time + block_times ≤ get_or c.args.meetings.now.times.now c.loop-entry.entry 0 = λ more.
    (elim c.loop-entry-test.branch [
      | then-loop-entry-test+else-from-time w ↦ (let is = w.from-in-loop-entry.ensures in let past = w.if-from-time.false in omega (arith, is, past))
      | else-loop-entry-test w ↦ (
          let past = w.loop-entry-test.false in
          let same = ap (λ i. get_or c.args.meetings.now.ends.now i 0) c.from-2.ensures in
          absurd (omega (arith, past, same, more))
          )
    ]) in
    added-all m c.requires.meetings c.args.time agent c.loop-entry.entry c.requires.at.agent c.loop-entry.invariant.comes c.loop-entry.invariant.before end c.args.block.now c.loop-entry.block
    c.loop-entry.invariant.added
