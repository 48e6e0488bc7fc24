-- How the end of a run is put.
use Rattle.std.specs.Prelude.{ℕ, List, [], Result, Ok, Err}
use Rattle.model.specs.declared.version.Version.{Version}
use Rattle.model.specs.History.{History}
use Rattle.model.specs.Timetable.{Timetable}
use Rattle.runner.specs.declared.completion.Completion.{Completion}
use Rattle.runner.specs.declared.run_fault.RunFault.{RunFault}
use Rattle.runner.specs.declared.run_fault.RunFault.TheVariants as run_fault
use Rattle.runner.specs.Completing.{SpellsEnding}

-- so the run ends, and this is what came of the text that says it
abbrev pub SaysEnding : Version → Timetable → History → (List ℕ → Type 0) → Completion → Type 0
SaysEnding version tt h CameOf completion =
    (text : List ℕ) × SpellsEnding version tt h completion text × CameOf text

-- the text of how the run ends was put, or broken off; where memory was refused, nothing was put
abbrev pub PutsEnding : Version → Timetable → History → (List ℕ → Type 0) → (List ℕ → Type 0)
    → Result Completion RunFault → Type 0
PutsEnding version tt h Whole Broken (Ok completion) = SaysEnding version tt h Whole completion
PutsEnding version tt h Whole Broken (Err run_fault.WriteFailed) =
    (completion : Completion) × SaysEnding version tt h Broken completion
PutsEnding version tt h Whole Broken (Err run_fault.OutOfMemory) = Whole []
PutsEnding version tt h Whole Broken (Err (run_fault.Planned fault)) = ⊥
PutsEnding version tt h Whole Broken (Err (run_fault.Events fault)) = ⊥
