-- What is done to files under names. Which file a name stands for no clause can say.
use Rattle.std.specs.Prelude.{◌≡◌, ℕ, List, Option}
use Rattle.tape_claim.specs.declared.TapeClaim.{TapeClaim}
use Rattle.tape_claim.specs.declared.TapeClaim.TheVariants.{Kept}
use Rattle.agent_commands.specs.declared.agent_fault.AgentFault.{AgentFault}
use Rattle.agent_commands.specs.declared.agent_fault.AgentFault.TheVariants.{OpenFailed, NoTape}

pub data FileDeed : Type 0 where
  -- there was no file
  finds_none : FileDeed
  -- a file could not be opened, or is none like others
  cannot_open : FileDeed
  -- a file was opened, of which nothing was read before, and had these bytes, if they are known
  opens_file : Option (List ℕ) → FileDeed
  -- a new file was made, and held these
  makes_draft : Option (List ℕ) → FileDeed
  -- it was synced, when it held these, and stands beside the tape since
  puts_draft : Option (List ℕ) → FileDeed
  -- the file beside the tape was marked and synced
  sets_mark : FileDeed
  -- or only synced
  syncs_beside : FileDeed
  -- the folder was synced that has the name of the tape
  keeps_name : FileDeed
  -- the name stood for the file of the tape
  names_tape : FileDeed

-- a file was opened, and what it had is so
abbrev pub FindsFile : (FileDeed → Type 0) → (Option (List ℕ) → Type 0) → Type 0
FindsFile WasDone Has = (all : Option (List ℕ)) × WasDone (opens_file all) × Has all

-- why a file was not opened that has to be there
abbrev pub IsUnopened : (FileDeed → Type 0) → AgentFault → Type 0
IsUnopened WasDone NoTape = WasDone finds_none
IsUnopened WasDone OpenFailed = WasDone cannot_open
IsUnopened WasDone _ = ⊥

-- why a tape's file was not opened, which is made where there is none, unless it was to be kept
abbrev pub IsUntaken : (FileDeed → Type 0) → TapeClaim → AgentFault → Type 0
IsUntaken WasDone claim NoTape = (claim ≡ Kept) × WasDone finds_none
IsUntaken WasDone claim OpenFailed = WasDone cannot_open
IsUntaken WasDone claim _ = ⊥
