-- One more agent, at its start.
use Rattle.std.proofs.Common.{◌≡◌, ◌+◌, get_or, sym, ap, subst, ◌∙◌}
use Rattle.std.proofs.lemmas.List.{get_or_default}
use Rattle.std.proofs.lemmas.Option.{slice_get-get_or}
use Rattle.std.specs.Prelude.{slice_get}
use Rattle.model.specs.Plan.{IsPassable}
use Rattle.checker.specs.Code.Squares.{place_on, HasGround}
use Rattle.checker.specs.Laws.Walking.{no_course}
use Rattle.checker.proofs.UnderWayStarts.{AreFirst, first-none, first-more, starts_as}
use Rattle.checker.proofs.under_way.walkers.Goals as goal

pub walker-requires : goal.walker-requires
walker-requires c =
    let courses = c.args.courses.now in
    let n = c.loop-agent.agent in
    let less = c.loop-agent-test.true in
    let own : c.index-courses-agent.result ≡ get_or courses n no_course = c.index-courses-agent.is ∙ get_or_default courses n c.index-courses-agent.result no_course less in
    subst (IsPassable c.args.map.now) (sym (c.start.ensures ∙ ap (λ k. k.start) own))
    (c.requires.starts n (get_or courses n no_course) (slice_get-get_or courses n no_course less))

pub loop-agent-init : goal.loop-agent-init
loop-agent-init c = first-none c.args.map.now c.args.courses.now c.in_ok-walkers.walkers.items c.in_ok-walkers.ensures.items

pub loop-agent-preserved : goal.loop-agent-preserved
loop-agent-preserved c =
    let m = c.args.map.now in
    let courses = c.args.courses.now in
    let n = c.loop-agent.agent in
    let w = c.walker.result in
    let less = c.loop-agent-test.true in
    let agent = c.walker.ensures.agent in
    let there = slice_get-get_or courses n no_course less in
    let own : c.index-courses-agent.result ≡ get_or courses n no_course = c.index-courses-agent.is ∙ get_or_default courses n c.index-courses-agent.result no_course less in
    let start : c.start.result ≡ (get_or courses n no_course).start = c.start.ensures ∙ ap (λ k. k.start) own in
    subst (λ ws. AreFirst m courses ws (n + 1)) (sym c.in_ok-push.ensures.items)
    (first-more m courses c.loop-agent.walkers.items n w c.loop-agent.invariant
    (starts_as m courses (get_or courses n no_course) w (ap (slice_get courses) agent ∙ there)
    (c.walker.ensures.place ∙ ap (place_on m) start) (subst (λ s. HasGround m s w.ground) start c.walker.ensures.ground) c.walker.ensures.may_go)
    agent)
