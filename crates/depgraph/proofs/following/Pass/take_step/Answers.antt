-- One arrival more.
use Rattle.std.proofs.Common.{◌+◌, arith, refl, ◌∙◌}
use Rattle.depgraph.proofs.PassLemmas.{taken-none, taken-more, enter-agent, enter-number, enter-entry, enter-left, done-next}
use Rattle.depgraph.proofs.following.Pass.take_step.Goals as goal

pub loop-coming-init : goal.loop-coming-init
loop-coming-init c = record { time = refl; taken = taken-none c.args.meetings.now c.requires.meetings c.args.self.now c.args.comings.now c.requires.done }

pub enter-requires-clause-agent : goal.enter-requires-clause-agent
enter-requires-clause-agent c =
    enter-agent c.args.meetings.now c.requires.meetings c.args.self.now.time c.args.comings.now c.loop-coming.coming-index c.loop-coming.self.last.items c.loop-coming.self.waits.items
    c.loop-coming.invariant.taken c.requires.sound c.loop-coming-test.true

pub enter-requires-clause-number : goal.enter-requires-clause-number
enter-requires-clause-number c =
    enter-number c.args.meetings.now c.requires.meetings c.args.self.now.time c.args.comings.now c.loop-coming.coming-index c.loop-coming.self.last.items c.loop-coming.self.waits.items
    c.loop-coming.invariant.taken c.requires.sound c.loop-coming-test.true

pub enter-requires-clause-entry : goal.enter-requires-clause-entry
enter-requires-clause-entry c =
    enter-entry c.args.meetings.now c.requires.meetings c.args.self.now.time c.args.comings.now c.loop-coming.coming-index c.loop-coming.self.last.items c.loop-coming.self.waits.items
    c.loop-coming.invariant.taken c.requires.sound c.loop-coming-test.true

pub enter-requires-clause-left : goal.enter-requires-clause-left
enter-requires-clause-left c =
    enter-left c.args.meetings.now c.requires.meetings c.args.self.now.time c.args.comings.now c.loop-coming.coming-index c.loop-coming.self.last.items c.loop-coming.self.waits.items
    c.loop-coming.invariant.taken c.requires.sound c.loop-coming-test.true

pub loop-coming-preserved : goal.loop-coming-preserved
loop-coming-preserved c =
    let did = c.enter.ensures in
    record {
      time = did.time ∙ c.loop-coming.invariant.time;
      taken = taken-more c.args.meetings.now c.requires.meetings c.args.self.now.time c.args.comings.now c.loop-coming.coming-index c.loop-coming.self.last.items
          c.loop-coming.self.waits.items c.loop-coming.invariant.taken c.requires.sound c.loop-coming-test.true c.enter.new.self.last.items c.enter.new.self.waits.items
          did.last did.count did.own did.others;
    }

pub overflow_add-self : goal.overflow_add-self
overflow_add-self c = (let same = c.loop-coming.invariant.time in let limit = c.requires.limit in omega (arith, same, limit))

pub returns-clause-done : goal.returns-clause-done
returns-clause-done c =
    let same = c.loop-coming.invariant.time in
    done-next c.args.meetings.now c.requires.meetings c.args.self.now.time c.args.comings.now c.loop-coming.coming-index
    (record { time = c.loop-coming.self.time + 1; last = c.loop-coming.self.last; waits = c.loop-coming.self.waits }) c.loop-coming.invariant.taken c.loop-coming-test.false c.requires.all
    (omega (arith, same))

pub returns-clause-time : goal.returns-clause-time
returns-clause-time c = (let same = c.loop-coming.invariant.time in omega (arith, same))
