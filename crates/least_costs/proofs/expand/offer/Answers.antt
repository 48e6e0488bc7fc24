-- A step is too far, or it goes on.
use Rattle.std.proofs.Common.{ℕ, ◌+◌, ◌<◌, ◌≤◌, inl, inr, arith, refl}
use Rattle.model.specs.Costs.{cost}
use Rattle.least_costs.specs.Code.Searching.{wanted}
use Rattle.least_costs.proofs.SearchLemmas.{put_leads, put_offered, too_far}
use Rattle.least_costs.proofs.expand.offer.Goals as goal

through_least : (t n m : ℕ) → t + 1 + n ≤ m → n + (t + 1) ≤ m
through_least t n m h = omega (arith, h)

pub returns-then-through-from-clause-goes : goal.returns-then-through-from-clause-goes
returns-then-through-from-clause-goes c = λ _ least.
    let q = c.args.query.now in
    let turn = c.args.turn in
    let to = c.args.to in
    let far : q.highest < to.steps + (turn.time + 1) = omega (arith, c.if-through-from.true, c.from.ensures, c.from-2.ensures, c.from-3.ensures) in
    too_far (wanted c.args.goal.now q) c.args.front.now turn.time turn.cell to.cell (to.steps + (turn.time + 1))
    (λ track is most there. through_least turn.time to.steps (cost track) (least q.start track (turn.time + 1) is.walker most there)) far

pub returns-clause-leads : goal.returns-clause-leads
returns-clause-leads c = λ _.
    let q = c.args.query.now in
    let turn = c.args.turn in
    let to = c.args.to in
    put_leads (wanted c.args.goal.now q) c.args.front.now c.put.new.self _ _ turn.budget
    (λ track is before there. elim c.requires.beside [
      | inl least ↦ (let most : turn.time + 1 ≤ cost track = omega (arith, before) in
          let all = least q.start track (turn.time + 1) is.walker most there in omega (arith, all, c.from.ensures, c.from-2.ensures))
      | inr most ↦ absurd (omega (arith, most, c.if-through-from.false, c.from.ensures, c.from-2.ensures, c.from-3.ensures, c.requires.ready.fits))
    ])
    c.in_ok-put.ensures

pub returns-clause-goes : goal.returns-clause-goes
returns-clause-goes c = λ _ _.
    let turn = c.args.turn in
    put_offered (wanted c.args.goal.now c.args.query.now) c.args.front.now c.put.new.self _ _ turn.budget turn.time turn.cell c.args.to.cell (c.rests.ensures c.if-rests.false)
    c.in_ok-put.ensures refl refl
