-- Each walk costs as much as is certain beforehand, or as the search found, or there is none that costs less than the limit.
use Rattle.std.proofs.Common.{◌≡◌, ◌∙◌, inl, inr, arith, sym, ap, subst}
use Rattle.std.proofs.lemmas.Bool.{cases_lt}
use Rattle.std.proofs.lemmas.Option.{MatchOption-at_none, MatchOption-at_some}
use Rattle.std.proofs.lemmas.Result.{IfOk-weaker}
use Rattle.std.specs.Prelude.{IfOk}
use Rattle.grid.specs.Map.{Grid}
use Rattle.grid.specs.declared.cell.Cell.{Cell}
use Rattle.model.specs.Costs.{cost}
use Rattle.model.specs.Laws.Tracks.{cell_at-start}
use Rattle.model.specs.Timetable.{cell_at}
use Rattle.optimality.specs.Walkers.{CostsAtLeast, IsAgentWalk, IsLeastCost}
use Rattle.least_costs.specs.GoalView.{GoalView}
use Rattle.least_costs.proofs.cost_search.CostSearch.least.Goals as goal

pub returns-then-max-limit-clause-bound : goal.returns-then-max-limit-clause-bound
returns-then-max-limit-clause-bound c = λ known track walker meets.
    let begins : cell_at track 0 ≡ c.args.start = cell_at-start track.start track.later ∙ walker.from_start in
    let far = c.in_ok-steps.ensures.estimate c.args.start track 0 walker (omega arith) begins in
    let asked = c.lowest-lowest.ensures track meets (walker.to_goal ∙ sym c.goal.ensures) in
    let own = known track walker meets in
    omega (arith, far, asked, own, c.max-least.ensures, c.max.ensures, c.if-max-limit.true, c.unwalked-then-max-limit.ensures.cost)

pub seek-requires-clause-ready : goal.seek-requires-clause-ready
seek-requires-clause-ready c = record {
  rules = c.in_ok-take.ensures;
  lowest = λ track meets there. c.lowest-lowest.ensures track meets (there ∙ ap (λ (v : GoalView). v.goal) c.exactly.ensures.same ∙ sym c.goal.ensures);
  some = λ track is.
      (let walker = subst (λ (v : GoalView). IsAgentWalk v.map (record { start = c.args.start; goal = v.goal }) track) c.exactly.ensures.same is.walker in
      let far = c.in_ok-steps.ensures.estimate c.args.start track 0 walker (omega arith) (cell_at-start track.start track.later ∙ walker.from_start) in
      let asked = c.lowest-lowest.ensures track is.meets (walker.to_goal ∙ sym c.goal.ensures) in
      omega (arith, far, asked, c.if-least-eq0.false, c.max-least.ensures));
  fits = omega (arith, c.highest-highest.ensures.below, c.ranges.limit.fits);
}

found : (c : goal.After-walked-in-Some) → CostsAtLeast c.args.goal.now.map (record { start = c.args.start; goal = c.args.goal.now.goal }) c.args.asked.now c.args.known.now.cost
    → IfOk c.walked-in-Some.result (λ l. IsLeastCost c.args.goal.now.map (record { start = c.args.start; goal = c.args.goal.now.goal }) c.args.asked.now l.cost)
found c known =
    let g = c.args.goal.now in
    let start = c.args.start in
    let asked = c.args.asked.now in
    let time = c.in-Some.arrival.time in
    let same = c.exactly.ensures.same in
    let at = MatchOption-at_some _ _ c.in-Some.arrival c.in-Some.is (c.in_ok-arrival.ensures.found (λ track is.
    (let walker = subst (λ (v : GoalView). IsAgentWalk v.map (record { start = start; goal = v.goal }) track) same is.walker in
    let far = c.in_ok-steps.ensures.estimate start track 0 walker (omega arith) (cell_at-start track.start track.later ∙ walker.from_start) in
    let rests = c.lowest-lowest.ensures track is.meets (walker.to_goal ∙ sym c.goal.ensures) in
    let own = known track walker is.meets in
    omega (arith, far, rests, own, c.max-least.ensures, c.max-2.ensures, c.min.ensures)))) in
    let lower : CostsAtLeast g.map (record { start = start; goal = g.goal }) asked time = λ track walker meets. elim (cases_lt c.highest-highest.result (cost track)) [
      | inl past ↦ (let most = at.0 in omega (arith, most, past))
      | inr within ↦ at.1 track (record {
        walker = subst (λ (v : GoalView). IsAgentWalk v.map (record { start = start; goal = v.goal }) track) (sym same) walker;
        meets = meets;
        within = within;
      })
    ] in
    subst (λ (d : Cell). IfOk c.walked-in-Some.result (λ l. IsLeastCost g.map (record { start = start; goal = d }) asked l.cost)) c.goal.ensures
    (subst (λ (m : Grid). IfOk c.walked-in-Some.result (λ l. IsLeastCost m (record { start = start; goal = c.goal.result }) asked l.cost)) c.legal-legal.ensures
    (c.walked-in-Some.ensures.least
    (subst (λ (m : Grid). CostsAtLeast m (record { start = start; goal = c.goal.result }) asked time) (sym c.legal-legal.ensures)
    (subst (λ (d : Cell). CostsAtLeast g.map (record { start = start; goal = d }) asked time) (sym c.goal.ensures) lower))))

pub returns-in_ok-walk-in-Some-clause-bound : goal.returns-in_ok-walk-in-Some-clause-bound
returns-in_ok-walk-in-Some-clause-bound c = λ known. IfOk-weaker c.walked-in-Some.result _ _ (λ l is. is.least) (found c known)

pub returns-in_ok-walk-in-Some-clause-walk : goal.returns-in_ok-walk-in-Some-clause-walk
returns-in_ok-walk-in-Some-clause-walk c = λ known. IfOk-weaker c.walked-in-Some.result _ _ (λ l is some. is) (found c known)

pub returns-in-None-clause-bound : goal.returns-in-None-clause-bound
returns-in-None-clause-bound c = λ known.
    let start = c.args.start in
    let same = c.exactly.ensures.same in
    let none = MatchOption-at_none _ _ c.in-None.is (c.in_ok-arrival.ensures.found (λ track is.
    (let walker = subst (λ (v : GoalView). IsAgentWalk v.map (record { start = start; goal = v.goal }) track) same is.walker in
    let far = c.in_ok-steps.ensures.estimate start track 0 walker (omega arith) (cell_at-start track.start track.later ∙ walker.from_start) in
    let rests = c.lowest-lowest.ensures track is.meets (walker.to_goal ∙ sym c.goal.ensures) in
    let own = known track walker is.meets in
    omega (arith, far, rests, own, c.max-least.ensures, c.max-2.ensures, c.min.ensures)))) in
    subst (CostsAtLeast c.args.goal.now.map (record { start = start; goal = c.args.goal.now.goal }) c.args.asked.now) (sym c.unwalked-in-None.ensures.cost)
    (λ track walker meets. elim (cases_lt (cost track) c.args.limit) [
      | inl less ↦ absurd (none track (record {
        walker = subst (λ (v : GoalView). IsAgentWalk v.map (record { start = start; goal = v.goal }) track) (sym same) walker;
        meets = meets;
        within = c.highest-highest.ensures.most track meets less;
      }))
      | inr most ↦ most
    ])
