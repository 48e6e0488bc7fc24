-- The last of the moves ends behind its step.
use Rattle.std.proofs.Common.{◌≡◌, ◌+◌, ◌-◌, ◌<◌, None, arith, sym, subst, ◌∙◌}
use Rattle.std.specs.Prelude.{IsSomeAnd, MatchOption}
use Rattle.std.proofs.lemmas.Option.{same_Some}
use Rattle.model.specs.Timetable.{moves}
use Rattle.depgraph.specs.Routes.{IsRouteOf}
use Rattle.fleet_commands.specs.Code.Ends.{IsEndOf}
use Rattle.fleet_commands.proofs.EndLemmas.{early-move, move-end}
use Rattle.fleet_commands.proofs.StandingLemmas.{track-there}
use Rattle.fleet_commands.proofs.cut_time.end_of_begun.Goals as goal

pub overflow_add-result : goal.overflow_add-result
overflow_add-result c =
    let tt = c.args.dependencies.now in
    let found = track-there tt c.args.agent c.requires.there in
    let track = found.0 in
    let some = c.if-begun-eq0.false in
    let within = c.requires.within track found.1 in
    let less : c.args.begun - 1 < moves track = omega (arith, some, within) in
    let routed = subst (λ o. MatchOption o (c.route.result ≡ None) (λ t. IsSomeAnd c.route.result (IsRouteOf tt c.args.agent t))) found.1 c.route.ensures in
    let is = subst (λ o. IsSomeAnd o (IsRouteOf tt c.args.agent track)) c.unwrap-route.ensures routed in
    let step = same_Some _ _ (sym c.unwrap.ensures ∙ c.step.ensures ∙ is.steps (c.args.begun - 1) less) in
    let early = early-move tt c.args.agent (c.args.begun - 1) track c.agents-agents.ensures.within found.1 less in
    omega (arith, step, early)

pub returns : goal.returns
returns c = λ track there.
    let tt = c.args.dependencies.now in
    let some = c.if-begun-eq0.false in
    let within = c.requires.within track there in
    let less : c.args.begun - 1 < moves track = omega (arith, some, within) in
    let routed = subst (λ o. MatchOption o (c.route.result ≡ None) (λ t. IsSomeAnd c.route.result (IsRouteOf tt c.args.agent t))) there c.route.ensures in
    let is = subst (λ o. IsSomeAnd o (IsRouteOf tt c.args.agent track)) c.unwrap-route.ensures routed in
    let step = same_Some _ _ (sym c.unwrap.ensures ∙ c.step.ensures ∙ is.steps (c.args.begun - 1) less) in
    let all : c.args.begun - 1 + 1 ≡ c.args.begun = omega (arith, some) in
    subst (λ n. IsEndOf track n (c.unwrap.result + 1)) all (subst (λ s. IsEndOf track (c.args.begun - 1 + 1) (s + 1)) (sym step) (move-end track (c.args.begun - 1) less))
