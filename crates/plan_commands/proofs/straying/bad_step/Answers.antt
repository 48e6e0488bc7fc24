-- Each act leads on, or is the first that does not.
use Rattle.std.proofs.Common.{length, ap, arith, sym, subst, ◌∙◌}
use Rattle.std.specs.Prelude.{slice_get}
use Rattle.std.proofs.lemmas.Option.{slice_get-get_or}
use Rattle.model.specs.Plan.{position_of}
use Rattle.checker.specs.Code.Standing.{IsOnGrid}
use Rattle.checker.specs.Laws.Keeping.{kept_none, kept_next, kept_always}
use Rattle.checker.specs.Laws.Walking.{ahead-moved, bad-moved, on_map_from_terrain, position_at-start}
use Rattle.plan_commands.proofs.StrayLemmas.{goes_its_way}
use Rattle.plan_commands.proofs.straying.bad_step.Goals as goal

pub loop-step-init : goal.loop-step-init
loop-step-init c =
    let m = c.args.map.now in
    let course = c.args.course.now in
    let on = on_map_from_terrain m course.start _ c.requires.start in
    record {
      at = ap position_of c.start-cell.ensures ∙ sym (position_at-start (position_of course.start) course.acts);
      on_map = subst (IsOnGrid m) (sym c.start-cell.ensures) on;
      kept = kept_none m course on;
    }

pub returns-in-None : goal.returns-in-None
returns-in-None c =
    let step = c.loop-step.step in
    let there = ap (λ l. slice_get l step) c.acts-acts.ensures in
    record {
      is_one = bad-moved c.args.map.now c.args.course.now step c.loop-step.cell _ (sym there ∙ slice_get-get_or c.acts-acts.result.now step _ c.loop-step-test.true)
          c.loop-step.invariant.at c.in-None.ensures.0 c.in-None.ensures.1;
      first = λ before less. c.loop-step.invariant.kept.good before less;
    }

pub loop-step-preserved : goal.loop-step-preserved
loop-step-preserved c =
    let step = c.loop-step.step in
    let there = ap (λ l. slice_get l step) c.acts-acts.ensures in
    let ahead = ahead-moved c.args.map.now c.args.course.now step c.loop-step.cell c.in-Some.to _
    (sym there ∙ slice_get-get_or c.acts-acts.result.now step _ c.loop-step-test.true) c.loop-step.invariant.at c.in-Some.ensures in
    record {
      at = ahead.place;
      on_map = ahead.on_map;
      kept = kept_next c.args.map.now c.args.course.now step c.in-Some.to c.loop-step.invariant.kept ahead.place ahead.on_map ahead.good;
    }

pub returns : goal.returns
returns c =
    let over = c.loop-step-test.false in
    let acts = ap length c.acts-acts.ensures in
    goes_its_way c.args.map.now c.args.course.now c.requires.size c.requires.acts
    (kept_always c.args.map.now c.args.course.now c.loop-step.step (omega (arith, over, acts)) c.loop-step.invariant.kept)
