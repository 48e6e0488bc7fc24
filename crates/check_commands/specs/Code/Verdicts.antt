-- Verdicts, as JSON values too.
use Rattle.std.specs.Prelude.{ℕ, Bool, true, false, List, codes}
use Rattle.model.specs.declared.plan_fault.PlanFault.TheVariants as plan_fault
use Rattle.planned.specs.declared.planned_fault.PlannedFault.TheVariants as planned_fault
use Rattle.serde_json.specs.Data.{Data, boolean, number, unsigned}
use Rattle.serde_json.specs.Data.{string, object, member, no_members}
use Rattle.check_commands.specs.VerdictText.{accepted_line, rejected_line}
use Rattle.check_commands.specs.declared.check_fault.CheckFault.{CheckFault}
use Rattle.check_commands.specs.declared.check_fault.CheckFault.TheVariants as check_fault
use Rattle.check_commands.specs.declared.verdict.Verdict.{Verdict}
use Rattle.check_commands.specs.declared.verdict.Verdict.TheVariants.{Accepted, Rejected}

-- the line of a verdict
abbrev pub verdict_line : Bool → Verdict → List ℕ
verdict_line json (Accepted agents cost makespan) = accepted_line json agents cost makespan
verdict_line json (Rejected fault) = rejected_line json fault.now

-- a verdict as a JSON value, whose members stand in the order of their names
abbrev pub accepted_data : (agents cost makespan : ℕ) → Data
accepted_data agents cost makespan =
    object (member (codes "accepted") (boolean true)
    (member (codes "agents") (number (unsigned agents))
    (member (codes "cost") (number (unsigned cost))
    (member (codes "makespan") (number (unsigned makespan)) no_members))))

abbrev pub rejected_data : List ℕ → Data
rejected_data fault =
    object (member (codes "accepted") (boolean false)
    (member (codes "fault") (string fault) no_members))

-- whether the plan is rejected: all that is due could be read, and it was checked
abbrev pub is_rejection : CheckFault → Bool
is_rejection (check_fault.Planned (planned_fault.Plan plan_fault.OutOfMemory)) = false
is_rejection (check_fault.Planned (planned_fault.Plan fault)) = true
is_rejection (check_fault.Unfit fault) = true
is_rejection _ = false
