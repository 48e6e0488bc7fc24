-- Each fault by its piece.
use Rattle.std.proofs.Common.{ap, sym}
use Rattle.check_commands.specs.FaultsText.{fit_fault_json}
use Rattle.ending.specs.Laws.Pieces.{breaks_as, puts_as, says}
use Rattle.check_commands.proofs.ToldLemmas.{goal_differs-parts, size_differs-parts, start_differs-parts}
use Rattle.check_commands.proofs.told.put_fit_fault.Goals as goal

pub returns-in-TooFewRows-clause-ok : goal.returns-in-TooFewRows-clause-ok
returns-in-TooFewRows-clause-ok g c = puts_as g.W.Write.contents _ _ c.put.result _ _ (ap fit_fault_json (sym c.in-TooFewRows.is)) c.put.ensures.ok

pub returns-in-TooFewRows-clause-err : goal.returns-in-TooFewRows-clause-err
returns-in-TooFewRows-clause-err g c = breaks_as g.W.Write.contents _ _ c.put.result _ _ (ap fit_fault_json (sym c.in-TooFewRows.is)) c.put.ensures.err

pub returns-in-AgentCount-clause-ok : goal.returns-in-AgentCount-clause-ok
returns-in-AgentCount-clause-ok g c = puts_as g.W.Write.contents _ _ c.put-in-AgentCount.result _ _ (ap fit_fault_json (sym c.in-AgentCount.is)) c.put-in-AgentCount.ensures.ok

pub returns-in-AgentCount-clause-err : goal.returns-in-AgentCount-clause-err
returns-in-AgentCount-clause-err g c = breaks_as g.W.Write.contents _ _ c.put-in-AgentCount.result _ _ (ap fit_fault_json (sym c.in-AgentCount.is)) c.put-in-AgentCount.ensures.err

pub returns-in-StartDiffers-clause-ok : goal.returns-in-StartDiffers-clause-ok
returns-in-StartDiffers-clause-ok g c =
    let agent = says c.new-agent.result _ _ _ c.new-agent.ensures c.from.ensures in
    let is = start_differs-parts c.args.fault _ c.new-agent.result c.in-StartDiffers.is agent in
    puts_as g.W.Write.contents _ _ c.put_ended.result _ _ is c.put_ended.ensures.ok

pub returns-in-StartDiffers-clause-err : goal.returns-in-StartDiffers-clause-err
returns-in-StartDiffers-clause-err g c =
    let agent = says c.new-agent.result _ _ _ c.new-agent.ensures c.from.ensures in
    let is = start_differs-parts c.args.fault _ c.new-agent.result c.in-StartDiffers.is agent in
    breaks_as g.W.Write.contents _ _ c.put_ended.result _ _ is c.put_ended.ensures.err

pub returns-in-GoalDiffers-clause-ok : goal.returns-in-GoalDiffers-clause-ok
returns-in-GoalDiffers-clause-ok g c =
    let agent = says c.new-agent-in-GoalDiffers.result _ _ _ c.new-agent-in-GoalDiffers.ensures c.from-in-GoalDiffers.ensures in
    let is = goal_differs-parts c.args.fault _ c.new-agent-in-GoalDiffers.result c.in-GoalDiffers.is agent in
    puts_as g.W.Write.contents _ _ c.put_ended-in-GoalDiffers.result _ _ is c.put_ended-in-GoalDiffers.ensures.ok

pub returns-in-GoalDiffers-clause-err : goal.returns-in-GoalDiffers-clause-err
returns-in-GoalDiffers-clause-err g c =
    let agent = says c.new-agent-in-GoalDiffers.result _ _ _ c.new-agent-in-GoalDiffers.ensures c.from-in-GoalDiffers.ensures in
    let is = goal_differs-parts c.args.fault _ c.new-agent-in-GoalDiffers.result c.in-GoalDiffers.is agent in
    breaks_as g.W.Write.contents _ _ c.put_ended-in-GoalDiffers.result _ _ is c.put_ended-in-GoalDiffers.ensures.err

pub returns-in-SizeDiffers-clause-ok : goal.returns-in-SizeDiffers-clause-ok
returns-in-SizeDiffers-clause-ok g c =
    let agent = says c.new-agent-in-SizeDiffers.result _ _ _ c.new-agent-in-SizeDiffers.ensures c.from-in-SizeDiffers.ensures in
    let is = size_differs-parts c.args.fault _ c.new-agent-in-SizeDiffers.result c.in-SizeDiffers.is agent in
    puts_as g.W.Write.contents _ _ c.put_ended-in-SizeDiffers.result _ _ is c.put_ended-in-SizeDiffers.ensures.ok

pub returns-in-SizeDiffers-clause-err : goal.returns-in-SizeDiffers-clause-err
returns-in-SizeDiffers-clause-err g c =
    let agent = says c.new-agent-in-SizeDiffers.result _ _ _ c.new-agent-in-SizeDiffers.ensures c.from-in-SizeDiffers.ensures in
    let is = size_differs-parts c.args.fault _ c.new-agent-in-SizeDiffers.result c.in-SizeDiffers.is agent in
    breaks_as g.W.Write.contents _ _ c.put_ended-in-SizeDiffers.result _ _ is c.put_ended-in-SizeDiffers.ensures.err
