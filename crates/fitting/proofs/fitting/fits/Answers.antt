-- Each row before is solved, and the first that isn't is the answer.
use Rattle.std.proofs.Common.{◌≡◌, ◌≤◌, length, map, Some, Err, inl, inr, arith, refl, sym, ap, subst, ◌∙◌}
use Rattle.std.specs.Prelude.{slice_get}
use Rattle.std.proofs.lemmas.Bool.{cases_lt}
use Rattle.std.proofs.lemmas.Option.{slice_get_read}
use Rattle.std.proofs.lemmas.Result.{err_from_is_err_and}
use Rattle.model.specs.Costs.{SolvesAt}
use Rattle.fitting.specs.Fitting.{task_of, AnswersFit}
use Rattle.fitting.proofs.FitLemmas.{fault_of_row, solves_at}
use Rattle.fitting.proofs.fitting.fits.Goals as goal

pub returns-in_err-fits_row : goal.returns-in_err-fits_row
returns-in_err-fits_row c =
    let rows = c.rows-rows.result.now in
    let i = c.loop-agent.agent in
    let plan = c.args.plan.now in
    let k = c.args.count in
    let p = err_from_is_err_and c.from_residual.result c.from_residual.ensures.1 in
    let same = c.rows-rows.ensures.rows in
    let enough = c.if-rows-count.false in
    let less = c.loop-agent-test.true in
    let there = slice_get_read rows (length rows) i c.index-rows-agent.result refl (omega (arith, less, enough)) c.index-rows-agent.is in
    subst (AnswersFit plan c.args.scenario.now k) (sym (p.1 ∙ ap (λ e. Err e) p.2))
    (fault_of_row plan c.args.scenario.now k i c.index-rows-agent.result (sym c.agents.ensures.agents ∙ c.if-agents-count.false) (subst (λ l. k ≤ length l) same enough)
    c.loop-agent.invariant (subst (λ l. slice_get l i ≡ Some c.index-rows-agent.result) same there) c.in_err-fits_row.field-0.0 c.in_err-fits_row.ensures)

pub loop-agent-preserved : goal.loop-agent-preserved
loop-agent-preserved c =
    let rows = c.rows-rows.result.now in
    let i = c.loop-agent.agent in
    let plan = c.args.plan.now in
    let same = c.rows-rows.ensures.rows in
    let enough = c.if-rows-count.false in
    let below = c.loop-agent-test.true in
    let there = slice_get_read rows (length rows) i c.index-rows-agent.result refl (omega (arith, below, enough)) c.index-rows-agent.is in
    let here = solves_at plan c.args.scenario.now i c.index-rows-agent.result c.in_ok-fits_row.field-0
    (subst (λ l. slice_get l i ≡ Some c.index-rows-agent.result) same there) c.in_ok-fits_row.ensures in
    λ j less. elim (cases_lt j i) [
      | inl before ↦ c.loop-agent.invariant j before
      | inr after ↦ subst (SolvesAt plan.width plan.height plan.timetable.tracks (map task_of c.args.scenario.now)) (let e : i ≡ j = omega (arith, less, after) in e) here
    ]
