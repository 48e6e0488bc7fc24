-- The route of each agent that there is.
use Rattle.std.proofs.Common.{◌≡◌, get_or, Some, None, arith, refl, sym, subst}
use Rattle.depgraph.specs.Code.Numbers.{cells_by}
use Rattle.depgraph.specs.Code.Keeping.{AreKept, route_in}
use Rattle.std.specs.Prelude.{Option, MatchOption, IsSomeAnd}
use Rattle.std.proofs.lemmas.Option.{slice_get-get_or}
use Rattle.depgraph.specs.Routes.{Route, IsRouteOf}
use Rattle.depgraph.proofs.PathLemmas.{no_track}
use Rattle.depgraph.proofs.KeptLemmas.{ends_count, kept_route, no_track_at}
use Rattle.depgraph.proofs.dependencies.Dependencies.route.Goals as goal

abbrev no_route : Option Route
no_route = None

pub returns-then-agent-len : goal.returns-then-agent-len
returns-then-agent-len c =
    let g = c.self.inside in
    let h = subst (λ v. AreKept v (cells_by g.names.items g.numbers.items) g.times.items g.ends.items g.needs.items) c.self.view_is c.self.invariant.0 in
    let less = c.if-agent-len.true in
    let asked = c.len.ensures in
    let count = g.ends.ok.0 in
    let all = ends_count c.args.self.now (cells_by g.names.items g.numbers.items) g.times.items g.ends.items g.needs.items h.visits h.visit_ends h.kept in
    let tracks = c.args.self.now.tracks in
    let is = slice_get-get_or tracks c.args.agent no_track (omega (arith, less, asked, count, all)) in
    subst (λ o. MatchOption o (Some (route_in c.args.self.now c.args.agent) ≡ None) (λ track. IsRouteOf c.args.self.now c.args.agent track (route_in c.args.self.now c.args.agent))) (sym is)
    (kept_route c.args.self.now (cells_by g.names.items g.numbers.items) g.times.items g.ends.items g.needs.items h.visits h.visit_ends h.kept c.args.agent (get_or tracks c.args.agent no_track) is)

pub returns-else-agent-len : goal.returns-else-agent-len
returns-else-agent-len c =
    let g = c.self.inside in
    let h = subst (λ v. AreKept v (cells_by g.names.items g.numbers.items) g.times.items g.ends.items g.needs.items) c.self.view_is c.self.invariant.0 in
    let past = c.if-agent-len.false in
    let asked = c.len.ensures in
    let count = g.ends.ok.0 in
    let none = no_track_at c.args.self.now (cells_by g.names.items g.numbers.items) g.times.items g.ends.items g.needs.items h.visits h.visit_ends h.kept c.args.agent
    (omega (arith, past, asked, count)) in
    subst (λ o. MatchOption o (no_route ≡ None) (λ track. IsSomeAnd no_route (λ route. IsRouteOf c.args.self.now c.args.agent track route))) (sym none) refl
