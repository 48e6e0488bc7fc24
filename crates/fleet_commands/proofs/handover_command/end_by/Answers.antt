-- The text is that of the plan, and the ending is that with which writing ended.
use Rattle.std.proofs.Common.{Result, subst, sym}
use Rattle.std.specs.Prelude.{is_ok}
use Rattle.model.specs.Plan.{Plan}
use Rattle.plan_text.specs.PlanText.{canonical_plan_text}
use Rattle.ending.specs.Ending.{End, end_of}
use Rattle.ending.specs.Finishing.{FinishesWriting}
use Rattle.ending.specs.Laws.Ending.{ends_writing}
use Rattle.fleet_commands.specs.HandoverCommand.{EndsByPlan}
use Rattle.fleet_commands.specs.declared.handover_fault.HandoverFault.{HandoverFault}
use Rattle.fleet_commands.proofs.handover_command.end_by.Goals as goal

pub returns-in-Ok : goal.returns-in-Ok
returns-in-Ok g c =
    let Finished : End → Type 0 = λ success. FinishesWriting g.W.Write.contents (is_ok c.write_plan-written.result) success c.write_plan-written.new.writer c.finish.new.out (end_of c.finish.result) in
    let Told : Result Plan HandoverFault → Type 0 = λ answer. EndsByPlan g.W.Write.contents c.args.out.now c.finish.new.out (end_of c.finish.result) answer in
    subst Told (sym c.in-Ok.is) (ends_writing g.W.Write.contents c.args.out.now c.write_plan-written.new.writer c.finish.new.out (canonical_plan_text c.in-Ok.plan) (is_ok c.write_plan-written.result)
    _ _ c.write_plan-written.ensures (subst Finished c.answered_with.ensures c.finish.ensures))
