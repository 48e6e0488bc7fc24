-- Starts that differ, or else the first act that does.
use Rattle.std.proofs.Common.{◌-◌, Some, None, arith, sym, subst, ◌∙◌}
use Rattle.continuing.specs.Code.Apart.{IsFirstOther, IsFirstApart}
use Rattle.continuing.proofs.ApartLemmas.{other-start, same-start, apart-by}
use Rattle.continuing.proofs.departing.first_apart.Goals as goal

pub returns-then-ne : goal.returns-then-ne
returns-then-ne c = (
  let some = c.if-past-eq0.false in omega (arith, some),
  other-start c.args.old.now c.args.new.now c.start.result c.start-2.result c.start.ensures c.start-2.ensures (sym c.ne.ensures ∙ c.if-ne.true),
  λ t less. absurd (omega (arith, less)),
)

pub returns-in_err-step : goal.returns-in_err-step
returns-in_err-step c =
    let start = sym c.start-2.ensures ∙ same-start c.start.result c.start-2.result (sym c.ne.ensures ∙ c.if-ne.false) ∙ c.start.ensures in
    subst (IsFirstApart c.args.old.now c.args.new.now c.args.past) (sym c.from_residual.ensures)
    (apart-by c.args.old.now c.args.new.now c.acts.result.now c.acts-2.result.now c.args.past None start c.acts.ensures c.acts-2.ensures
    (subst (IsFirstOther c.acts.result.now c.acts-2.result.now (c.args.past - 1)) c.in_err-step.was c.first_other.ensures))

pub returns : goal.returns
returns c =
    let start = sym c.start-2.ensures ∙ same-start c.start.result c.start-2.result (sym c.ne.ensures ∙ c.if-ne.false) ∙ c.start.ensures in
    apart-by c.args.old.now c.args.new.now c.acts.result.now c.acts-2.result.now c.args.past (Some c.in_ok-step.step) start c.acts.ensures c.acts-2.ensures
    (subst (IsFirstOther c.acts.result.now c.acts-2.result.now (c.args.past - 1)) c.in_ok-step.was c.first_other.ensures)
