-- One agent more, at its first shared cell.
use Rattle.std.proofs.Common.{◌≡◌, ◌-◌, [], ◌∷◌, length, get_or, inl, inr, arith, sym, ap, subst, ◌∙◌}
use Rattle.std.proofs.lemmas.Bool.{cases_lt}
use Rattle.std.proofs.lemmas.List.{length-append, get_or_push, get_or_append_left}
use Rattle.depgraph.specs.declared.following.Follower.{Follower}
use Rattle.depgraph.specs.Code.Entries.{begin_in}
use Rattle.depgraph.specs.Code.Meetings.{ComesNextAt, IsNextMeeting, follower_at, no_follower}
use Rattle.depgraph.proofs.FollowerLemmas.{end-within, at-first, all-first}
use Rattle.depgraph.proofs.following.all_followers.Goals as goal

pub next_meeting-next-requires-clause-within : goal.next_meeting-next-requires-clause-within
next_meeting-next-requires-clause-within c = λ some.
    end-within c.args.meetings.now c.requires c.loop-agent.agent c.loop-agent-test.true (let begin = c.begin_in-begin.ensures in omega (arith, some, begin))

pub overflow_cast-next : goal.overflow_cast-next
overflow_cast-next c =
    let agent = c.loop-agent.agent in
    let ends = c.args.meetings.now.ends.now in
    let within = c.next_meeting-next.ensures.within in
    let begin = c.begin_in-begin.ensures in
    elim (cases_lt (begin_in ends agent) (get_or ends agent 0)) [
      | inl some ↦ (
          let most = end-within c.args.meetings.now c.requires agent c.loop-agent-test.true some in
          let all = c.requires.entries.all in
          omega (arith, within, begin, most, all)
          )
      | inr none ↦ omega (arith, within, begin, none)
    ]

pub loop-agent-preserved : goal.loop-agent-preserved
loop-agent-preserved c =
    let was = c.loop-agent.invariant in
    let old = c.loop-agent.followers.items in
    let agent = c.loop-agent.agent in
    let m = c.args.meetings.now in
    let count = was.count in
    let items = c.in_ok-push.ensures.items in
    let begin = c.begin_in-begin.ensures in
    let own : Follower = record { agent = agent; index = c.next_meeting-next.result - c.begin_in-begin.result } in
    let first = subst (λ b. ComesNextAt m 0 (record { agent = agent; index = c.next_meeting-next.result - b })) (sym begin)
    (at-first m c.requires agent c.next_meeting-next.result c.loop-agent-test.true
    (subst (λ b. IsNextMeeting m b (get_or m.ends.now agent 0) c.next_meeting-next.result) begin c.next_meeting-next.ensures)) in
    record {
      count = (let long = ap length items in let more = length-append old (own ∷ []) in omega (arith, long, more, count));
      each = λ b less. elim (cases_lt b agent) [
        | inl before ↦ subst (λ f. ComesNextAt m 0 f × (f.agent ≡ b)) (sym (ap (λ l. follower_at l b) items ∙ get_or_append_left old _ no_follower b (omega (arith, before, count))))
            (was.each b before)
        | inr end ↦ (
            let same : length old ≡ b = omega (arith, less, end, count) in
            let is : agent ≡ b = omega (arith, same, count) in
            subst (λ f. ComesNextAt m 0 f × (f.agent ≡ b)) (sym (ap (λ l. follower_at l b) items ∙ get_or_push old own no_follower b same)) (first, is)
            )
      ];
    }

pub returns : goal.returns
returns c =
    let was = c.loop-agent.invariant in
    let count = was.count in
    let past = c.loop-agent-test.false in
    let end = c.loop-agent.auto.agent-end in
    all-first c.args.meetings.now c.requires c.loop-agent.followers.items (omega (arith, count, past)) (omega (arith, count, end)) (λ b less. was.each b (omega (arith, less, count)))
