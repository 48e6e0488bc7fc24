use Rattle.std.proofs.Common.{◌≡◌, take}
use Rattle.std.specs.List.{list_all}
use Rattle.plan_text.specs.PlanTextFault.{is_act}
use Rattle.plan_text.proofs.agent_line.are_acts.Given as goal

abbrev pub invariant-loop-b : goal.invariant-loop-b
invariant-loop-b l = l.are_acts ≡ list_all is_act (take l.b-index l.bytes)
