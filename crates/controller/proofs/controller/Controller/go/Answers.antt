-- How far the agent's way is free, as it is for the loop.
use Rattle.std.proofs.Common.{◌≡◌, ◌+◌, subst}
use Rattle.depgraph.specs.AgentParts.{AgentPart}
use Rattle.agent.specs.Ahead.{LooksAhead}
use Rattle.controller.specs.Places.{IsFurthestNew}
use Rattle.controller.proofs.StepLemmas.{few-places, lets-go}
use Rattle.controller.proofs.controller.Controller.go.Goals as goal

pub returns-clause-does : goal.returns-clause-does
returns-clause-does g c =
    let me = c.self.inside in
    let begun = c.begun-begun.result in
    let free = c.ahead-free.result in
    let last = c.furthest-last.result in
    let of = c.ahead-free.ensures.within in
    let looks = c.ahead-free.ensures.looks of.0 of.2 in
    let few : c.saturating_add-last.result ≡ begun + free
    = few-places begun last c.saturating_sub.result free c.saturating_add-last.result c.begun-begun.ensures.few c.furthest-last.type_inv c.saturating_sub.ensures looks.2.few
    c.saturating_add-last.ensures in
    lets-go g.T.Tape.state g.T.Tape.may_write me.agent me.settings me.control c.gone-self-inside.result c.args.self.now c.self.view_is begun c.most_ahead-ahead.result
    c.done-first.result last free c.saturating_add-last.result few c.begun-begun.ensures.begun c.most_ahead-ahead.ensures c.done-first.ensures.finished_moves
    (subst (λ (p : AgentPart). IsFurthestNew p.cells c.done-first.result (begun + c.most_ahead-ahead.result) last) c.self.invariant c.furthest-last.ensures)
    (λ table is. subst (λ n. LooksAhead g.T.Tape.state table me.agent n free) c.saturating_sub.ensures (c.ahead-free.ensures.looks table is))
    c.gone-self-inside.ensures
