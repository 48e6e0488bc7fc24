-- One walk more.
use Rattle.std.proofs.Common.{◌≡◌, ◌+◌, ◌-◌, ◌<◌, ◌≤◌, length, get_or, arith, refl, sym, ap, subst, ◌∙◌}
use Rattle.std.specs.Prelude.{All, IsTrue}
use Rattle.std.proofs.lemmas.Bool.{false≢true}
use Rattle.depgraph.specs.Code.Turning.{agents_of}
use Rattle.depgraph.specs.Rotations.{turns_of}
use Rattle.depgraph.specs.Code.Entries.{begin_in}
use Rattle.depgraph.specs.Code.Links.{links_in}
use Rattle.depgraph.proofs.CycleLemmas.{found-start, turns-push}
use Rattle.depgraph.proofs.TurnLemmas.{turn}
use Rattle.depgraph.proofs.TurnedLemmas.{AreTurned, few_entries, begin_up, entry_here, links_now, now_count, turned-none, turned-one, turned-all, begun_here, known_here}
use Rattle.depgraph.proofs.rotations.rotations_by_agent.Goals as goal
use Rattle.depgraph.proofs.rotations.rotations_by_agent.Goals.{then-branch+in_ok-agents+in_ok-push, else-branch}

pub loop-agent-init : goal.loop-agent-init
loop-agent-init c =
    let tt = c.args.plan.now.timetable in
    let ends = c.args.links.now.ends.now in
    let waits = c.args.links.now.waits.now in
    let ahead = links_in c.args.links.now in
    record {
      first = refl;
      whole = c.requires.whole;
      trail = c.new-trail.ensures.items;
      turned = subst (AreTurned tt ends waits ahead ahead 0) (sym (ap turns_of c.new-rotations.ensures.items))
          (record { laid = c.requires.laid; found = found-start (turn tt ends waits ahead c.requires.laid) ahead });
    }

pub loop-entry-init : goal.loop-entry-init
loop-entry-init c =
    let tt = c.args.plan.now.timetable in
    let ends = c.args.links.now.ends.now in
    let was = c.loop-agent.invariant in
    let first = was.first in
    let agent = c.loop-agent.agent in
    let up = begin_up tt ends c.args.links.now.waits.now (links_in c.args.links.now) c.requires.laid agent c.loop-agent-test.true in
    record {
      from = omega (arith, first);
      to = omega (arith, first, up);
      whole = was.whole;
      trail = was.trail;
      turned = was.turned;
    }

pub overflow_cast-entry : goal.overflow_cast-entry
overflow_cast-entry c =
    let tt = c.args.plan.now.timetable in
    let laid = c.requires.laid in
    let few = few_entries tt c.args.links.now.ends.now c.args.links.now.waits.now (links_in c.args.links.now) laid in
    let here = (entry_here tt c.args.links.now.ends.now c.args.links.now.waits.now (links_in c.args.links.now) laid c.loop-agent.agent c.loop-entry.entry c.loop-agent-test.true
    c.loop-entry.invariant.from c.loop-entry-test.true).0 in
    omega (arith, few, here)

pub walk-requires-clause-links : goal.walk-requires-clause-links
walk-requires-clause-links c =
    links_now c.args.plan.now.timetable c.args.links.now.ends.now c.args.links.now.waits.now (links_in c.args.links.now) (links_in c.loop-entry.links) c.loop-entry.entry
    (turns_of c.loop-entry.rotations.items) c.loop-entry.invariant.turned

pub walk-requires-clause-first : goal.walk-requires-clause-first
walk-requires-clause-first c =
    let tt = c.args.plan.now.timetable in
    let here = (entry_here tt c.args.links.now.ends.now c.args.links.now.waits.now (links_in c.args.links.now) c.requires.laid c.loop-agent.agent c.loop-entry.entry c.loop-agent-test.true
    c.loop-entry.invariant.from c.loop-entry-test.true).0 in
    let long = now_count tt c.args.links.now.ends.now c.args.links.now.waits.now (links_in c.args.links.now) (links_in c.loop-entry.links) c.loop-entry.entry (turns_of c.loop-entry.rotations.items)
    c.loop-entry.invariant.turned in
    omega (arith, here, long)

pub agents_on-requires : goal.agents_on-requires
agents_on-requires c =
    subst (All (λ e. e < length c.args.links.now.waits.now)) (sym c.deref.ensures.value)
    (known_here c.args.plan.now.timetable c.args.links.now.ends.now c.args.links.now.waits.now (links_in c.args.links.now) (links_in c.loop-entry.links) c.loop-entry.entry
    (turns_of c.loop-entry.rotations.items) c.loop-entry.invariant.turned
    (links_in c.walk.new.links) c.walk.new.trail.items (IsTrue c.in_ok-walk.field-0) c.in_ok-walk.ensures.walked c.if-branch.true)

pub offset_bounds-times-entry : goal.offset_bounds-times-entry
offset_bounds-times-entry c =
    let tt = c.args.plan.now.timetable in
    let laid = c.requires.laid in
    let few = few_entries tt c.args.links.now.ends.now c.args.links.now.waits.now (links_in c.args.links.now) laid in
    let here = (entry_here tt c.args.links.now.ends.now c.args.links.now.waits.now (links_in c.args.links.now) laid c.loop-agent.agent c.loop-entry.entry c.loop-agent-test.true
    c.loop-entry.invariant.from c.loop-entry-test.true).0 in
    omega (arith, few, here)

pub bounds-times-entry : goal.bounds-times-entry
bounds-times-entry c =
    let here = (entry_here c.args.plan.now.timetable c.args.links.now.ends.now c.args.links.now.waits.now (links_in c.args.links.now) c.requires.laid c.loop-agent.agent c.loop-entry.entry
    c.loop-agent-test.true
    c.loop-entry.invariant.from c.loop-entry-test.true).0 in
    let long = ap length c.requires.times in
    omega (arith, here, long)

pub overflow_sub-step : goal.overflow_sub-step
overflow_sub-step c =
    let from = c.from-step.ensures in
    let begun = subst (λ l. 1 ≤ get_or l c.loop-entry.entry 0) (sym c.requires.times)
    (begun_here c.args.plan.now.timetable c.args.links.now.ends.now c.args.links.now.waits.now (links_in c.args.links.now) (links_in c.loop-entry.links) c.loop-entry.entry
    (turns_of c.loop-entry.rotations.items) c.loop-entry.invariant.turned
    (links_in c.walk.new.links) c.walk.new.trail.items (IsTrue c.in_ok-walk.field-0) c.in_ok-walk.ensures.walked c.if-branch.true) in
    omega (arith, from, begun)

pub loop-entry-preserved : goal.loop-entry-preserved
loop-entry-preserved c =
    let tt = c.args.plan.now.timetable in
    let ends = c.args.links.now.ends.now in
    let waits = c.args.links.now.waits.now in
    let ahead = links_in c.args.links.now in
    let was = c.loop-entry.invariant in
    let entry = c.loop-entry.entry in
    let agent = c.loop-agent.agent in
    let rotations = c.loop-entry.rotations.items in
    let trail = c.walk.new.trail.items in
    let step = get_or c.args.links.now.times.now entry 0 - 1 in
    let from = was.from in
    let less = c.loop-entry-test.true in
    record {
      from = omega (arith, from);
      to = omega (arith, less);
      whole = c.in_ok-walk.ensures.whole;
      trail = c.clear.ensures.items;
      turned = elim c.if-branch.branch [
        | then-branch+in_ok-agents+in_ok-push w ↦ (
            let agents = w.in_ok-agents.agents in
            let are_agents = w.in_ok-agents.ensures ∙ ap (agents_of waits agent) w.deref.ensures.value in
            let more = turned-one tt ends waits ahead (links_in c.loop-entry.links) entry (turns_of rotations) was.turned (links_in c.walk.new.links) trail (IsTrue c.in_ok-walk.field-0)
            c.in_ok-walk.ensures.walked
            w.if-branch.true agent step agents.items c.loop-agent-test.true from less (ap (λ l. get_or l entry 0 - 1) c.requires.times) are_agents in
            subst (AreTurned tt ends waits ahead (links_in c.walk.new.links) (entry + 1)) (sym (ap (λ v. turns_of v.items) w.rotations-is
            ∙ turns-push rotations w.push.new.self.items (record { step = w.from-step.result - 1; agents = agents }) (record { step = step; agents = agents.items }) w.in_ok-push.ensures.items
            (ap (λ n. n - 1) w.from-step.ensures) refl)) more
            )
        | else-branch w ↦
            subst (λ v. AreTurned tt ends waits ahead (links_in c.walk.new.links) (entry + 1) (turns_of v.items)) (sym w.rotations-is)
            (turned-none tt ends waits ahead (links_in c.loop-entry.links) entry (turns_of rotations) was.turned (links_in c.walk.new.links) trail (IsTrue c.in_ok-walk.field-0)
            c.in_ok-walk.ensures.walked
            (λ is. false≢true (sym w.if-branch.false ∙ is)))
      ];
    }

pub returns : goal.returns
returns c =
    let ends = c.args.links.now.ends.now in
    let was = c.loop-agent.invariant in
    let first = was.first in
    let past = c.loop-agent-test.false in
    let most = c.loop-agent.auto.agent-end in
    let last : length ends ≡ c.loop-agent.agent = omega (arith, past, most) in
    let end = ap (begin_in ends) last in
    turned-all c.args.plan.now.timetable ends c.args.links.now.waits.now (links_in c.args.links.now) (links_in c.loop-agent.links) c.loop-agent.entry (turns_of c.loop-agent.rotations.items) was.turned
    (omega (arith, first, end))
