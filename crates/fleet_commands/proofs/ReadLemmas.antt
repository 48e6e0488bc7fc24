-- What comes of a plan that was read.
use Rattle.std.proofs.Common.{◌≡◌, ◌∙◌, ℕ, List, [], Ok, Err, inl, inr, refl, sym, subst}
use Rattle.std.specs.Prelude.{Option, Result}
use Rattle.text_io.specs.declared.counted.Counted.{Counted}
use Rattle.grid.specs.Map.{Grid}
use Rattle.model.specs.Plan.{Plan, IsValid}
use Rattle.model.specs.declared.plan_fault.PlanFault.{PlanFault}
use Rattle.model.specs.declared.plan_fault.PlanFault.TheVariants as plan_fault
use Rattle.checker.specs.Checking.{IsRefusedFor}
use Rattle.model.specs.Timetable.{Timetable}
use Rattle.planned.specs.Planned.{IsAtHand}
use Rattle.planned.specs.declared.planned_fault.PlannedFault.{PlannedFault}
use Rattle.planned.specs.declared.reading.PlanAtHand.{PlanAtHand}
use Rattle.agent_commands.specs.FileDeeds.{FileDeed}
use Rattle.fleet_commands.specs.HandoverCommand.{AreAllKnown, AreReadAs, ReadsThen}
use Rattle.fleet_commands.specs.AnewCommand.{IsBegunAnew, MayBeAnew}
use Rattle.fleet_commands.specs.FoundTapes.{Found, AreFoundIn}
use Rattle.fleet_commands.specs.LeftPlan.{left_plan}
use Rattle.fleet_commands.specs.Code.Reading.{IsHeldToOneRun, IsJudgedSo, IsNotKnownBy, fault_of}
use Rattle.fleet_commands.specs.StatusText.{run_lines}
use Rattle.fleet_commands.specs.declared.handover_fault.HandoverFault.{HandoverFault}
use Rattle.fleet_commands.specs.declared.handover_fault.HandoverFault.TheVariants.{Planned, NoSuchAgent, SameNumber, BadTape, NotOneRun, OutOfMemory}

module _
    {M P : Type 0} (map_left : M → Option (List ℕ)) (plan_left : P → Option (List ℕ)) (old_map new_map : Counted M) (old_plan new_plan : Counted P)
    (Comes : PlanAtHand → Result Plan HandoverFault → Type 0) (it : PlanAtHand) (is : IsAtHand map_left plan_left old_map new_map old_plan new_plan it)
    (read : (fault : PlannedFault) → Comes it (Err (Planned fault)) → ⊥) where
  pub then-comes : (answer : Result Plan HandoverFault) → Comes it answer → ReadsThen map_left plan_left old_map new_map old_plan new_plan Comes answer
  then-comes (Ok p) comes = (it, is, comes)
  then-comes (Err (Planned fault)) comes = absurd (read fault comes)
  then-comes (Err NoSuchAgent) comes = (it, is, comes)
  then-comes (Err SameNumber) comes = (it, is, comes)
  then-comes (Err (BadTape i)) comes = (it, is, comes)
  then-comes (Err NotOneRun) comes = (it, is, comes)
  then-comes (Err OutOfMemory) comes = (it, is, comes)

-- a plan with a fault isn't valid
pub refused : (m : Grid) (p : Plan) (fault : PlanFault) → IsRefusedFor m p fault → IsJudgedSo m p (Err (fault_of fault))
refused m p (plan_fault.BadStart i) least = λ valid. valid (plan_fault.BadStart i) least.has
refused m p (plan_fault.BadMove i step) least = λ valid. valid (plan_fault.BadMove i step) least.has
refused m p (plan_fault.Vertex i j time cell) least = λ valid. valid (plan_fault.Vertex i j time cell) least.has
refused m p (plan_fault.Swap i j step) least = λ valid. valid (plan_fault.Swap i j step) least.has
refused m p plan_fault.OutOfMemory least = tt

-- what was asked may be done
module _ (WasDone : FileDeed → Type 0) (without : Option ℕ) (number : ℕ) (it : PlanAtHand) (may : MayBeAnew it without number) where
  -- why not all are known
  pub unknown-as : (fault : HandoverFault) → IsNotKnownBy WasDone it.dependencies without fault → IsBegunAnew WasDone without number it (Err fault)
  unknown-as (Planned fault) known = absurd known
  unknown-as NoSuchAgent known = absurd known
  unknown-as SameNumber known = absurd known
  unknown-as (BadTape i) known = (may, known)
  unknown-as NotOneRun known = (may, inl known)
  unknown-as OutOfMemory known = tt

  -- what was checked is what is left
  pub left-as : (found : List Found) (left : Plan) → AreReadAs WasDone it.dependencies without found []
      → left ≡ left_plan it.plan it.dependencies found without number
      → (answer : Result Plan HandoverFault) → IsJudgedSo it.map left answer → IsBegunAnew WasDone without number it answer
  left-as found left are is (Ok p) checked = (may, (found, are, checked.0 ∙ is, subst (IsValid it.map) (sym checked.0) checked.1))
  left-as found left are is (Err (Planned fault)) checked = absurd checked
  left-as found left are is (Err NoSuchAgent) checked = absurd checked
  left-as found left are is (Err SameNumber) checked = absurd checked
  left-as found left are is (Err (BadTape i)) checked = absurd checked
  left-as found left are is (Err NotOneRun) checked = (may, inr (found, are, λ valid. checked (subst (IsValid it.map) (sym is) valid)))
  left-as found left are is (Err OutOfMemory) checked = tt

-- tapes that were read, and are not those of one run
pub held-unknown : (WasDone : FileDeed → Type 0) (table : Timetable) (without : Option ℕ) (found : List Found) → AreFoundIn WasDone table found → AreAllKnown without found
    → (fault : HandoverFault) → IsHeldToOneRun table without found (Err fault) → IsNotKnownBy WasDone table without fault
held-unknown WasDone table without found are known NotOneRun held = (found, run_lines table without held.0 found, (are, known, (held.0, held.1, refl)), held.2)
held-unknown WasDone table without found are known OutOfMemory held = tt
held-unknown WasDone table without found are known NoSuchAgent held = absurd held
held-unknown WasDone table without found are known SameNumber held = absurd held
held-unknown WasDone table without found are known (BadTape i) held = absurd held
held-unknown WasDone table without found are known (Planned fault) held = absurd held
