-- What the parts of the opening of a tape file owe each other.
use Rattle.std.specs.Prelude.{◌≡◌, ◌≤◌, true, length}
use Rattle.model.specs.History.{record_length}
use Rattle.model.specs.Plan.{Plan}
use Rattle.agent.specs.Agents.{AgentOn}
use Rattle.agent_commands.specs.AgentCommand.{IsClaimed, IsNotBeside}
use Rattle.agent_commands.specs.FileDeeds.{FileDeed}
use Rattle.agent_commands.specs.FileDeeds.FileDeed.{finds_none, cannot_open}
use Rattle.agent_commands.specs.declared.agent_fault.AgentFault.{AgentFault}
use Rattle.agent_commands.specs.declared.agent_fault.AgentFault.TheVariants.{OpenFailed}
use Rattle.agent_commands.specs.declared.agent_fault.AgentFault.TheVariants.{TapeExists}
use Rattle.agent_commands.specs.declared.agent_fault.AgentFault.TheVariants.{NoTape}
use Rattle.agent_commands.specs.declared.agent_fault.AgentFault.TheVariants.{File}
use Rattle.agent_commands.specs.declared.agent_fault.AgentFault.TheVariants.{PlanDamaged}
use Rattle.agent_commands.specs.declared.agent_fault.AgentFault.TheVariants.{TapeEmptied}
use Rattle.agent_commands.specs.declared.agent_fault.AgentFault.TheVariants.{OtherPlan}
use Rattle.robot.specs.FileTape.{file_state}
use Rattle.robot.specs.declared.file_tape.FileTape.{FileTape}
use Rattle.robot.specs.declared.guarded_tape.GuardedTape.{GuardedTape}
use Rattle.robot.specs.declared.file_tape.FileTapeFault.{FileTapeFault}
use Rattle.robot.specs.declared.file_tape.FileTapeFault.TheVariants.{TapeFailed, OutOfMemory}
use Rattle.tape_claim.specs.declared.TapeClaim.{TapeClaim}
use Rattle.tape_claim.specs.declared.TapeClaim.TheVariants.{New, Kept}

-- the system failed, or memory
abbrev pub IsLost : FileTapeFault → Type 0
IsLost TapeFailed = Unit {0}
IsLost OutOfMemory = Unit {0}
IsLost _ = ⊥

-- an agent over a tape in a file, whatever guards that
abbrev pub unguarded : {F G : Type 0} → AgentOn (GuardedTape F G) → AgentOn (FileTape F)
unguarded a = record { part = a.part; tape = a.tape.tape; heard = a.heard; broken = a.broken }

-- the same tape, which may have been synced since
pub record IsSameTape {F : Type 0} (old new : FileTape F) : Type 0 where
  pub state : file_state new ≡ file_state old
  pub synced : old.disk.synced ≡ true → new.disk.synced ≡ true

-- a tape is taken of which the claim holds
abbrev pub IsTakenTape
    : {F : Type 0} → (FileDeed → Type 0) → TapeClaim → Plan → FileTape F → FileTape F → Type 0
IsTakenTape WasDone claim p tape taken = IsSameTape tape taken × IsClaimed WasDone claim p taken

-- why a tape that was opened is not taken
abbrev pub IsNotTaken
    : {F : Type 0} → (FileDeed → Type 0) → TapeClaim → Plan → FileTape F → AgentFault → Type 0
IsNotTaken WasDone claim p tape TapeExists =
    (claim ≡ New) × (record_length ≤ length (file_state tape).contents)
IsNotTaken WasDone claim p tape NoTape = (claim ≡ Kept) × WasDone finds_none
IsNotTaken WasDone claim p tape OpenFailed = WasDone cannot_open
IsNotTaken WasDone claim p tape (File fault) = IsLost fault
IsNotTaken WasDone claim p tape PlanDamaged = IsNotBeside WasDone claim p tape PlanDamaged
IsNotTaken WasDone claim p tape TapeEmptied = IsNotBeside WasDone claim p tape TapeEmptied
IsNotTaken WasDone claim p tape (OtherPlan apart) =
    IsNotBeside WasDone claim p tape (OtherPlan apart)
IsNotTaken WasDone claim p tape _ = ⊥
