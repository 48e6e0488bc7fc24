-- What `mapf anew` does and answers.
use Rattle.std.specs.Prelude.{◌≡◌, ◌≢◌, ◌⊎◌, ℕ, nat_le, Bool, true, false, ⊤}
use Rattle.std.specs.Prelude.{List, [], length, Option, option_map, unwrap_or, Result, Ok, Err}
use Rattle.text_io.specs.declared.counted.Counted.{Counted}
use Rattle.model.specs.Plan.{Plan, IsValid}
use Rattle.model.specs.Timetable.{Timetable}
use Rattle.planned.specs.declared.reading.PlanAtHand.{PlanAtHand}
use Rattle.ending.specs.Ending.{End}
use Rattle.agent_commands.specs.FileDeeds.{FileDeed}
use Rattle.fleet_commands.specs.FoundTapes.{Found, AreFoundIn}
use Rattle.fleet_commands.specs.HandoverCommand.{AreReadAs, IsFirstUnknown, IsNotOneRun}
use Rattle.fleet_commands.specs.HandoverCommand.{ReadsThen, EndsByPlan}
use Rattle.fleet_commands.specs.LeftPlan.{left_plan}
use Rattle.fleet_commands.specs.declared.handover_fault.HandoverFault.{HandoverFault}
use Rattle.fleet_commands.specs.declared.handover_fault.HandoverFault.TheVariants.{NoSuchAgent}
use Rattle.fleet_commands.specs.declared.handover_fault.HandoverFault.TheVariants.{SameNumber}
use Rattle.fleet_commands.specs.declared.handover_fault.HandoverFault.TheVariants.{BadTape}
use Rattle.fleet_commands.specs.declared.handover_fault.HandoverFault.TheVariants.{NotOneRun}
use Rattle.fleet_commands.specs.declared.handover_fault.HandoverFault.TheVariants.{OutOfMemory}

-- the agent that is to be left out is none of the plan
abbrev pub lacks_agent : Timetable → Option ℕ → Bool
lacks_agent tt without = unwrap_or (option_map (λ i. nat_le (length tt.tracks) i) without) false

-- there is such an agent, or none is to be left out, and the number is a new one
abbrev pub MayBeAnew : PlanAtHand → Option ℕ → ℕ → Type 0
MayBeAnew it without number =
    (lacks_agent it.dependencies without ≡ false) × (number ≢ it.plan.number)

-- The tapes were read, and this is what is left of the plan, which is valid, under another number;
-- or the first of these stands: there is no such agent, the number is the plan's, no agent is
-- opened on a tape, or the tapes are not those of one run, or what is left isn't valid. Memory may
-- be refused at any time.
abbrev pub IsBegunAnew : (FileDeed → Type 0) → Option ℕ → ℕ → PlanAtHand
    → Result Plan HandoverFault → Type 0
IsBegunAnew WasDone without number it (Ok left) =
    MayBeAnew it without number
    × ((found : List Found) × AreReadAs WasDone it.dependencies without found []
    × (left ≡ left_plan it.plan it.dependencies found without number) × IsValid it.map left)
IsBegunAnew WasDone without number it (Err NoSuchAgent) =
    lacks_agent it.dependencies without ≡ true
IsBegunAnew WasDone without number it (Err SameNumber) =
    (lacks_agent it.dependencies without ≡ false) × (number ≡ it.plan.number)
IsBegunAnew WasDone without number it (Err (BadTape i)) =
    MayBeAnew it without number × ((found : List Found) × AreFoundIn WasDone it.dependencies found
    × IsFirstUnknown without found i)
IsBegunAnew WasDone without number it (Err NotOneRun) =
    MayBeAnew it without number × (IsNotOneRun WasDone it.dependencies without
    ⊎ ((found : List Found) × AreReadAs WasDone it.dependencies without found []
    × (IsValid it.map (left_plan it.plan it.dependencies found without number) → ⊥)))
IsBegunAnew WasDone without number it (Err OutOfMemory) = ⊤
IsBegunAnew WasDone without number it (Err _) = ⊥

pub record AnswersAnew
    {M P W : Type 0} (map_left : M → Option (List ℕ)) (plan_left : P → Option (List ℕ))
    (WasDone : FileDeed → Type 0) (contents : W → Option (List ℕ))
    (without : Option ℕ) (number : ℕ)
    (old_map new_map : Counted M) (old_plan new_plan : Counted P) (old_out new_out : Counted W)
    (end : End) : Type 0 where
  pub answer : Result Plan HandoverFault
  pub reads : ReadsThen map_left plan_left old_map new_map old_plan new_plan
      (IsBegunAnew WasDone without number) answer
  pub ends : EndsByPlan contents old_out new_out end answer
