-- Each fault by its pieces.
use Rattle.std.proofs.Common.{ap, sym}
use Rattle.check_commands.specs.FaultsText.{plan_fault_json}
use Rattle.ending.specs.Laws.Pieces.{breaks_as, puts_as, says}
use Rattle.check_commands.proofs.ToldLemmas.{bad_move-parts, bad_start-parts, swap-parts, vertex-parts}
use Rattle.check_commands.proofs.told.put_plan_fault.Goals as goal

pub returns-in-BadStart-clause-ok : goal.returns-in-BadStart-clause-ok
returns-in-BadStart-clause-ok g c =
    let agent = says c.new-agent.result _ _ _ c.new-agent.ensures c.from.ensures in
    let is = bad_start-parts c.args.fault _ c.new-agent.result c.in-BadStart.is agent in
    puts_as g.W.Write.contents _ _ c.put_ended.result _ _ is c.put_ended.ensures.ok

pub returns-in-BadStart-clause-err : goal.returns-in-BadStart-clause-err
returns-in-BadStart-clause-err g c =
    let agent = says c.new-agent.result _ _ _ c.new-agent.ensures c.from.ensures in
    let is = bad_start-parts c.args.fault _ c.new-agent.result c.in-BadStart.is agent in
    breaks_as g.W.Write.contents _ _ c.put_ended.result _ _ is c.put_ended.ensures.err

pub returns-in-BadMove-clause-ok : goal.returns-in-BadMove-clause-ok
returns-in-BadMove-clause-ok g c =
    let agent = says c.new-agent-in-BadMove.result _ _ _ c.new-agent-in-BadMove.ensures c.from-in-BadMove.ensures in
    let step = says c.new-step.result _ _ _ c.new-step.ensures c.from-in-BadMove-2.ensures in
    let is = bad_move-parts c.args.fault _ _ c.new-agent-in-BadMove.result c.new-step.result c.in-BadMove.is agent step in
    puts_as g.W.Write.contents _ _ c.put_ended-in-BadMove.result _ _ is c.put_ended-in-BadMove.ensures.ok

pub returns-in-BadMove-clause-err : goal.returns-in-BadMove-clause-err
returns-in-BadMove-clause-err g c =
    let agent = says c.new-agent-in-BadMove.result _ _ _ c.new-agent-in-BadMove.ensures c.from-in-BadMove.ensures in
    let step = says c.new-step.result _ _ _ c.new-step.ensures c.from-in-BadMove-2.ensures in
    let is = bad_move-parts c.args.fault _ _ c.new-agent-in-BadMove.result c.new-step.result c.in-BadMove.is agent step in
    breaks_as g.W.Write.contents _ _ c.put_ended-in-BadMove.result _ _ is c.put_ended-in-BadMove.ensures.err

pub returns-in-Vertex-clause-ok : goal.returns-in-Vertex-clause-ok
returns-in-Vertex-clause-ok g c =
    let first = says c.new-first.result _ _ _ c.new-first.ensures c.from-in-Vertex.ensures in
    let second = says c.new-second.result _ _ _ c.new-second.ensures c.from-in-Vertex-2.ensures in
    let time = says c.new-time.result _ _ _ c.new-time.ensures c.from-in-Vertex-3.ensures in
    let x = says c.new-x.result _ _ _ c.new-x.ensures c.from-in-Vertex-4.ensures in
    let y = says c.new-y.result _ _ _ c.new-y.ensures c.from-in-Vertex-5.ensures in
    let is = vertex-parts c.args.fault _ _ _ _ c.new-first.result c.new-second.result c.new-time.result c.new-x.result c.new-y.result c.in-Vertex.is first second time x y in
    puts_as g.W.Write.contents _ _ c.put_ended-in-Vertex.result _ _ is c.put_ended-in-Vertex.ensures.ok

pub returns-in-Vertex-clause-err : goal.returns-in-Vertex-clause-err
returns-in-Vertex-clause-err g c =
    let first = says c.new-first.result _ _ _ c.new-first.ensures c.from-in-Vertex.ensures in
    let second = says c.new-second.result _ _ _ c.new-second.ensures c.from-in-Vertex-2.ensures in
    let time = says c.new-time.result _ _ _ c.new-time.ensures c.from-in-Vertex-3.ensures in
    let x = says c.new-x.result _ _ _ c.new-x.ensures c.from-in-Vertex-4.ensures in
    let y = says c.new-y.result _ _ _ c.new-y.ensures c.from-in-Vertex-5.ensures in
    let is = vertex-parts c.args.fault _ _ _ _ c.new-first.result c.new-second.result c.new-time.result c.new-x.result c.new-y.result c.in-Vertex.is first second time x y in
    breaks_as g.W.Write.contents _ _ c.put_ended-in-Vertex.result _ _ is c.put_ended-in-Vertex.ensures.err

pub returns-in-Swap-clause-ok : goal.returns-in-Swap-clause-ok
returns-in-Swap-clause-ok g c =
    let first = says c.new-first-in-Swap.result _ _ _ c.new-first-in-Swap.ensures c.from-in-Swap.ensures in
    let second = says c.new-second-in-Swap.result _ _ _ c.new-second-in-Swap.ensures c.from-in-Swap-2.ensures in
    let step = says c.new-step-in-Swap.result _ _ _ c.new-step-in-Swap.ensures c.from-in-Swap-3.ensures in
    let is = swap-parts c.args.fault _ _ _ c.new-first-in-Swap.result c.new-second-in-Swap.result c.new-step-in-Swap.result c.in-Swap.is first second step in
    puts_as g.W.Write.contents _ _ c.put_ended-in-Swap.result _ _ is c.put_ended-in-Swap.ensures.ok

pub returns-in-Swap-clause-err : goal.returns-in-Swap-clause-err
returns-in-Swap-clause-err g c =
    let first = says c.new-first-in-Swap.result _ _ _ c.new-first-in-Swap.ensures c.from-in-Swap.ensures in
    let second = says c.new-second-in-Swap.result _ _ _ c.new-second-in-Swap.ensures c.from-in-Swap-2.ensures in
    let step = says c.new-step-in-Swap.result _ _ _ c.new-step-in-Swap.ensures c.from-in-Swap-3.ensures in
    let is = swap-parts c.args.fault _ _ _ c.new-first-in-Swap.result c.new-second-in-Swap.result c.new-step-in-Swap.result c.in-Swap.is first second step in
    breaks_as g.W.Write.contents _ _ c.put_ended-in-Swap.result _ _ is c.put_ended-in-Swap.ensures.err

pub returns-in-OutOfMemory-clause-ok : goal.returns-in-OutOfMemory-clause-ok
returns-in-OutOfMemory-clause-ok g c = puts_as g.W.Write.contents _ _ c.put.result _ _ (ap plan_fault_json (sym c.in-OutOfMemory.is)) c.put.ensures.ok

pub returns-in-OutOfMemory-clause-err : goal.returns-in-OutOfMemory-clause-err
returns-in-OutOfMemory-clause-err g c = breaks_as g.W.Write.contents _ _ c.put.result _ _ (ap plan_fault_json (sym c.in-OutOfMemory.is)) c.put.ensures.err
