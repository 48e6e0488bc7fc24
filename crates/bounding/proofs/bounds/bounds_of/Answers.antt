-- One agent more, and the bounds of all.
use Rattle.std.proofs.Common.{◌≡◌, ◌∙◌, ◌+◌, ◌∷◌, [], ℕ, Some, length, arith, length-append, subst, sym}
use Rattle.std.specs.Prelude.{slice_get}
use Rattle.bounding.specs.Code.Searching.{IsBoundAt}
use Rattle.bounding.proofs.BoundLemmas.{found_all, found_next}
use Rattle.bounding.proofs.bounds.bounds_of.Goals as goal

pub loop-agent-preserved : goal.loop-agent-preserved
loop-agent-preserved c =
    let m = c.args.map.now in
    let tracks = c.args.plan.now.timetable.tracks in
    let bounds = c.loop-agent.bounds.items in
    let before = c.loop-agent.invariant in
    let own = subst (λ g. IsBoundAt g tracks c.loop-agent.agent c.in_ok-bound.bound) before.map c.in_ok-bound.ensures.bound in
    let all = length-append bounds (c.in_ok-bound.bound ∷ []) in
    let count = before.count in
    record {
      map = c.bound_of.ensures.search ∙ before.map;
      count = subst (λ l. length l ≡ c.loop-agent.agent + 1) (sym c.in_ok-add.ensures) (omega (arith, all, count));
      found = subst (λ l. (i b : ℕ) → slice_get l i ≡ Some b → IsBoundAt m tracks i b) (sym c.in_ok-add.ensures)
          (found_next m tracks bounds c.in_ok-bound.bound before.found (subst (λ k. IsBoundAt m tracks k c.in_ok-bound.bound) (sym count) own));
    }

pub returns-clause-bounds : goal.returns-clause-bounds
returns-clause-bounds c =
    let agents = c.agents-agent-end.ensures.agents in
    let over = c.loop-agent-test.false in
    let within = c.loop-agent.auto.agent-end in
    let count = c.loop-agent.invariant.count in
    found_all c.args.map.now c.args.plan.now.timetable.tracks c.loop-agent.bounds.items (omega (arith, agents, over, within, count)) c.loop-agent.invariant.found

pub returns-clause-all : goal.returns-clause-all
returns-clause-all c =
    let agents = c.agents-agent-end.ensures.agents in
    let over = c.loop-agent-test.false in
    let within = c.loop-agent.auto.agent-end in
    let count = c.loop-agent.invariant.count in
    c.bounds_hold.ensures c.args.map.now c.args.plan.now.timetable.tracks c.loop-agent.bounds.items
    (found_all c.args.map.now c.args.plan.now.timetable.tracks c.loop-agent.bounds.items (omega (arith, agents, over, within, count)) c.loop-agent.invariant.found)
