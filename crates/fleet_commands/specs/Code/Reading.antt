-- What is read, as the code has it.
use Rattle.std.specs.Prelude.{◌≡◌, ◌≢◌, ℕ, ⊤, List, [], Option, Result, Ok, Err}
use Rattle.grid.specs.Map.{Grid}
use Rattle.model.specs.declared.plan_fault.PlanFault.{PlanFault}
use Rattle.model.specs.declared.plan_fault.PlanFault.TheVariants.{OutOfMemory as NoMemory}
use Rattle.model.specs.Plan.{Plan, IsValid}
use Rattle.model.specs.Timetable.{Timetable}
use Rattle.depgraph.specs.Rotations.{Turn, AreRotations}
use Rattle.agent_commands.specs.FileDeeds.{FileDeed}
use Rattle.fleet_commands.specs.FoundTapes.{Found, AreFoundIn}
use Rattle.fleet_commands.specs.HandoverCommand.{IsFirstUnknown, IsNotOneRun}
use Rattle.fleet_commands.specs.StatusText.{run_lines}
use Rattle.fleet_commands.specs.declared.handover_fault.HandoverFault.{HandoverFault}
use Rattle.fleet_commands.specs.declared.handover_fault.HandoverFault.TheVariants.{BadTape}
use Rattle.fleet_commands.specs.declared.handover_fault.HandoverFault.TheVariants.{NotOneRun}
use Rattle.fleet_commands.specs.declared.handover_fault.HandoverFault.TheVariants.{OutOfMemory}

-- the tapes were read, and not all are known, or they are not those of one run, or memory was
-- refused
abbrev pub IsNotKnownBy
    : (FileDeed → Type 0) → Timetable → Option ℕ → HandoverFault → Type 0
IsNotKnownBy WasDone tt without (BadTape i) =
    (found : List Found) × AreFoundIn WasDone tt found × IsFirstUnknown without found i
IsNotKnownBy WasDone tt without NotOneRun = IsNotOneRun WasDone tt without
IsNotKnownBy WasDone tt without OutOfMemory = ⊤
IsNotKnownBy WasDone tt without _ = ⊥

-- nothing shows that the tapes are not those of one run, or something does, or memory was refused
abbrev pub IsHeldToOneRun
    : Timetable → Option ℕ → List Found → Result Unit HandoverFault → Type 0
IsHeldToOneRun tt without found (Ok done) =
    (turns : List Turn) × AreRotations tt turns × (run_lines tt without turns found ≡ [])
IsHeldToOneRun tt without found (Err NotOneRun) =
    (turns : List Turn) × AreRotations tt turns × (run_lines tt without turns found ≢ [])
IsHeldToOneRun tt without found (Err OutOfMemory) = ⊤
IsHeldToOneRun tt without found (Err _) = ⊥

abbrev pub fault_of : PlanFault → HandoverFault
fault_of NoMemory = OutOfMemory
fault_of _ = NotOneRun

-- the plan is valid, or it isn't, or memory was refused
abbrev pub IsJudgedSo : Grid → Plan → Result Plan HandoverFault → Type 0
IsJudgedSo m left (Ok p) = (p ≡ left) × IsValid m left
IsJudgedSo m left (Err NotOneRun) = IsValid m left → ⊥
IsJudgedSo m left (Err OutOfMemory) = ⊤
IsJudgedSo m left (Err _) = ⊥
