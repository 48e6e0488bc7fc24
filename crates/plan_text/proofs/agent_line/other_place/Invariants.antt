-- The bytes so far are acts.
use Rattle.std.proofs.Common.{◌≡◌, take, true}
use Rattle.std.specs.List.{list_all}
use Rattle.plan_text.specs.PlanTextFault.{is_act}
use Rattle.plan_text.proofs.agent_line.other_place.Given as goal

abbrev pub invariant-loop-i : goal.invariant-loop-i
invariant-loop-i l = list_all is_act (take l.i l.bytes) ≡ true
