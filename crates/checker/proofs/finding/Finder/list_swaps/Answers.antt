-- One agent more: its conflicts are listed, if it moves.
use Rattle.std.proofs.Common.{◌≢◌, ◌+◌, ◌<◌, ◌≤◌, length, arith, sym, ap, subst, ◌∙◌}
use Rattle.checker.specs.declared.conflict.Conflict.TheVariants.{Swap}
use Rattle.checker.specs.Code.Known.{key_with, IsListedTo}
use Rattle.checker.specs.Code.Places.{step_in}
use Rattle.checker.specs.Code.Rows.{IsConflictRow}
use Rattle.checker.proofs.KnownLemmas.{listed-skip}
use Rattle.checker.proofs.LinkLemmas.{differ_from, same_from}
use Rattle.checker.proofs.RankLemmas.{rank-gap}
use Rattle.checker.proofs.ConflictLemmas.{swap-row, no-swap}
use Rattle.checker.proofs.finding.Finder.list_swaps.Goals.{then-ne+in_ok-follow, else-ne}
use Rattle.checker.proofs.finding.Finder.list_swaps.Goals as goal

pub follow-requires-clause-row : goal.follow-requires-clause-row
follow-requires-clause-row c =
    let m = c.args.self.now.map.now in
    let p = c.args.self.now.plan.now in
    let i = c.loop-agent.agent in
    let s = c.args.number in
    let steps = c.args.steps.now in
    let count = c.requires.steps.count in
    let test = c.loop-agent-test.true in
    let agents = c.agents-agents.ensures.agents in
    let less : i < length steps = omega (arith, count, test, agents) in
    let moves : (step_in steps i).from ≢ (step_in steps i).to = (λ e. differ_from _ _ (sym c.ne.ensures ∙ c.if-ne.true) e) in
    subst (λ l. IsConflictRow m p l (Swap s) i) (sym c.in_ok-links.ensures.steps)
    (swap-row m p s steps i c.requires.steps less c.requires.within moves)

pub loop-agent-preserved : goal.loop-agent-preserved
loop-agent-preserved c =
    let m = c.args.self.now.map.now in
    let p = c.args.self.now.plan.now in
    let i = c.loop-agent.agent in
    let s = c.args.number in
    let steps = c.args.steps.now in
    let count = c.requires.steps.count in
    let test = c.loop-agent-test.true in
    let agents = c.agents-agents.ensures.agents in
    let less : i < length steps = omega (arith, count, test, agents) in
    elim c.if-ne.branch [
      | then-ne+in_ok-follow w ↦ (
        subst (λ l. IsListedTo m p (key_with (s + 1) 2 (i + 1) 0) l) (sym w.listing-is) w.in_ok-follow.ensures.listed,
        ap (λ l. l.most) w.listing-is ∙ w.in_ok-follow.ensures.most ∙ c.loop-agent.invariant.1,
      )
      | else-ne w ↦ (
        subst (λ l. IsListedTo m p (key_with (s + 1) 2 (i + 1) 0) l) (sym w.listing-is)
            (no-swap m p s steps i c.requires.steps less c.loop-agent.listing (same_from _ _ (sym c.ne.ensures ∙ w.if-ne.false)) c.loop-agent.invariant.0),
        ap (λ l. l.most) w.listing-is ∙ c.loop-agent.invariant.1,
      )
    ]

pub returns-clause-listed : goal.returns-clause-listed
returns-clause-listed c =
    let m = c.args.self.now.map.now in
    let p = c.args.self.now.plan.now in
    let i = c.loop-agent.agent in
    let end = c.loop-agent-test.false in
    let agents = c.agents-agents.ensures.agents in
    let past : length p.courses ≤ i = omega (arith, end, agents) in
    listed-skip m p (key_with (c.args.number + 1) 2 i 0) (key_with (c.args.number + 1) 3 0 0) c.loop-agent.listing c.loop-agent.invariant.0 (rank-gap m p (c.args.number + 1) 2 i past)
