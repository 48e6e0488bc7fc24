-- One agent more, and then all.
use Rattle.std.proofs.Common.{◌∙◌, List, [], ◌∷◌, ◌++◌, ap, arith, sym}
use Rattle.optimality.specs.declared.constraint.Ends.{Ends}
use Rattle.proof_commands.proofs.EndsLemmas.{ends_all, ends_more, ends_past}
use Rattle.proof_commands.proofs.ends.ends_of_agents.Goals as goal

pub loop-agent-preserved : goal.loop-agent-preserved
loop-agent-preserved c =
    let own = c.in-Some.own in
    c.in_ok-add.ensures ∙ ap (λ (l : List Ends). l ++ own ∷ []) c.loop-agent.invariant
    ∙ sym (ends_more c.args.plan.now.timetable.tracks c.loop-agent.agent own (sym c.in-Some.is ∙ c.ends_of_agent.ensures))

pub returns-in_default : goal.returns-in_default
returns-in_default c =
    c.loop-agent.invariant ∙ ends_past c.args.plan.now.timetable.tracks c.loop-agent.agent (sym c.in_default.is ∙ c.ends_of_agent.ensures)

pub returns : goal.returns
returns c =
    let agents = c.agents-agent-end.ensures.agents in
    let over = c.loop-agent-test.false in
    c.loop-agent.invariant ∙ ends_all c.args.plan.now.timetable.tracks c.loop-agent.agent (omega (arith, agents, over))
