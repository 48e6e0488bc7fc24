-- The marks are greater by far than the new base.
use Rattle.std.proofs.Common.{◌-◌, ◌^◌, ◌≤◌, arith, subst, sym}
use Rattle.least_steps.specs.Code.Exploring.{Exploration}
use Rattle.least_steps.proofs.ExplorationLemmas.{all-above}
use Rattle.least_steps.proofs.reached.Reached.begin.Goals as goal

pub returns-clause-above : goal.returns-clause-above
returns-clause-above c =
    let r = c.self.inside in
    let room : 2 ^ 45 ≤ r.base = subst (λ (e : Exploration). 2 ^ 45 ≤ e.base) (sym c.self.view_is) c.make_room.ensures.room in
    all-above r.map.now r.aslant r.start r.base (r.base - 35184372088832) r.marks.items r.legal.items c.self.invariant (omega (arith, room))
