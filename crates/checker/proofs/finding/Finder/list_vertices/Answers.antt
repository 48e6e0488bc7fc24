-- One agent more: its conflicts are listed, if it is where a cell may be.
use Rattle.std.proofs.Common.{◌+◌, ◌<◌, ◌≤◌, length, arith, sym, ap, subst, ◌∙◌}
use Rattle.checker.specs.declared.conflict.Conflict.TheVariants.{Vertex}
use Rattle.checker.specs.Code.Known.{key_with, IsListedTo}
use Rattle.checker.specs.Code.Rows.{IsConflictRow}
use Rattle.checker.proofs.KnownLemmas.{listed-skip}
use Rattle.checker.proofs.RankLemmas.{rank-gap}
use Rattle.checker.proofs.ConflictLemmas.{vertex-row, no-vertex}
use Rattle.checker.proofs.finding.Finder.list_vertices.Goals.{in-Some+in_ok-follow, in_default}
use Rattle.checker.proofs.finding.Finder.list_vertices.Goals as goal

pub follow-requires-clause-row : goal.follow-requires-clause-row
follow-requires-clause-row c =
    let m = c.args.self.now.map.now in
    let p = c.args.self.now.plan.now in
    let i = c.loop-agent.agent in
    let t = c.args.time in
    let steps = c.args.standing.now in
    let count = c.requires.standing.count in
    let test = c.loop-agent-test.true in
    let agents = c.agents-agents.ensures.agents in
    let less : i < length steps = omega (arith, count, test, agents) in
    subst (λ l. IsConflictRow m p l (Vertex t c.in-Some.cell) i) (sym c.in_ok-links.ensures.steps)
    (vertex-row m p t steps i c.requires.standing less c.in-Some.cell c.requires.within c.in-Some.ensures)

pub loop-agent-preserved : goal.loop-agent-preserved
loop-agent-preserved c =
    let m = c.args.self.now.map.now in
    let p = c.args.self.now.plan.now in
    let i = c.loop-agent.agent in
    let t = c.args.time in
    let steps = c.args.standing.now in
    let count = c.requires.standing.count in
    let test = c.loop-agent-test.true in
    let agents = c.agents-agents.ensures.agents in
    let less : i < length steps = omega (arith, count, test, agents) in
    elim c.match-cell.branch [
      | in-Some+in_ok-follow w ↦ (
        subst (λ l. IsListedTo m p (key_with t 1 (i + 1) 0) l) (sym w.listing-is) w.in_ok-follow.ensures.listed,
        ap (λ l. l.most) w.listing-is ∙ w.in_ok-follow.ensures.most ∙ c.loop-agent.invariant.1,
      )
      | in_default w ↦ (
        subst (λ l. IsListedTo m p (key_with t 1 (i + 1) 0) l) (sym w.listing-is)
            (no-vertex m p t steps i c.requires.standing less c.loop-agent.listing w.in_default.ensures c.loop-agent.invariant.0),
        ap (λ l. l.most) w.listing-is ∙ c.loop-agent.invariant.1,
      )
    ]

pub returns-clause-listed : goal.returns-clause-listed
returns-clause-listed c =
    let m = c.args.self.now.map.now in
    let p = c.args.self.now.plan.now in
    let i = c.loop-agent.agent in
    let end = c.loop-agent-test.false in
    let agents = c.agents-agents.ensures.agents in
    let past : length p.courses ≤ i = omega (arith, end, agents) in
    listed-skip m p (key_with c.args.time 1 i 0) (key_with c.args.time 2 0 0) c.loop-agent.listing c.loop-agent.invariant.0 (rank-gap m p c.args.time 1 i past)
