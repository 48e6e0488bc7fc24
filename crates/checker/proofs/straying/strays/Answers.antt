-- The agent stays on its ground, and so in cells of the map, by moves that are not bad.
use Rattle.std.proofs.Common.{◌≡◌, ◌+◌, ◌-◌, ◌<◌, Some, length, get_or, arith, sym, ap, subst, ◌∙◌}
use Rattle.std.specs.Prelude.{slice_get}
use Rattle.std.proofs.lemmas.Option.{slice_get-get_or}
use Rattle.model.specs.declared.act.Act.{Act}
use Rattle.model.specs.declared.act.Act.TheVariants.{N}
use Rattle.checker.specs.declared.crowd.Turn.{Turn}
use Rattle.checker.specs.Code.Squares.{wide_of, place_on, HasGround}
use Rattle.checker.specs.Code.Crowd.{led_to, AreActTurns}
use Rattle.checker.specs.Laws.Keeping.{kept_always, kept_none}
use Rattle.checker.proofs.StrayLemmas.{alone_at_start, alone_inside, alone_next, kept_alone}
use Rattle.checker.specs.Laws.Walking.{on_map_from_terrain}
use Rattle.checker.proofs.straying.strays.Goals as goal

pub loop-act-init : goal.loop-act-init
loop-act-init c =
    let m = c.args.map.now in
    let course = c.args.course.now in
    record {
      here = alone_at_start m course c.place_on-place.result c.ground_at-ground.result c.requires.start
          (c.place_on-place.ensures ∙ ap (place_on m) c.start-2.ensures) (subst (λ s. HasGround m s c.ground_at-ground.result) c.start.ensures c.ground_at-ground.ensures);
      kept = kept_none m course (on_map_from_terrain m course.start _ c.requires.start);
    }

pub bounds-squares-place : goal.bounds-squares-place
bounds-squares-place c =
    let m = c.args.map.now in
    let place = c.loop-act.place in
    let turns = c.new-turns.result in
    let act : Act = get_or c.acts-act-items.result.now c.loop-act.act-index N in
    let h : AreActTurns (wide_of m) turns = subst (λ w. AreActTurns (w + 2) turns) c.width.ensures.width c.new-turns.ensures.turns in
    let within = (alone_inside m c.args.course.now c.loop-act.act-index turns c.args.squares.now place c.ground_at-ground.result c.width.ensures.map.size h c.requires.board
    c.loop-act.invariant.here).there act in
    let leads : place + c.of-turn.result.ahead - c.of-turn.result.back ≡ led_to turns act place =
    ap (λ (t : Turn). place + t.ahead - t.back) c.of-turn.ensures in
    subst (λ n. n < length c.args.squares.now) (sym leads) within

pub loop-act-preserved : goal.loop-act-preserved
loop-act-preserved c =
    let m = c.args.map.now in
    let course = c.args.course.now in
    let step = c.loop-act.act-index in
    let place = c.loop-act.place in
    let ground = c.ground_at-ground.result in
    let turns = c.new-turns.result in
    let to = place + c.of-turn.result.ahead - c.of-turn.result.back in
    let act : Act = get_or c.acts-act-items.result.now step N in
    let h : AreActTurns (wide_of m) turns = subst (λ w. AreActTurns (w + 2) turns) c.width.ensures.width c.new-turns.ensures.turns in
    let there : slice_get course.acts step ≡ Some act =
    ap (λ l. slice_get l step) (sym c.acts-act-items.ensures) ∙ slice_get-get_or c.acts-act-items.result.now step N c.loop-act-test.true in
    let leads : to ≡ led_to turns act place = ap (λ (t : Turn). place + t.ahead - t.back) c.of-turn.ensures in
    let next = alone_next m course step turns c.args.squares.now act place to ground h c.requires.board there c.loop-act.invariant.here leads
    (sym c.ground.ensures.ground ∙ c.if-ground.false) in
    record { here = next; kept = kept_alone m course step place to ground c.loop-act.invariant.kept c.loop-act.invariant.here next }

pub returns : goal.returns
returns c = λ stays. (
    let over = c.loop-act-test.false in
    let acts = ap length c.acts-act-items.ensures in
    kept_always c.args.map.now c.args.course.now c.loop-act.act-index (omega (arith, over, acts)) c.loop-act.invariant.kept
    )
