-- The words of why a plan is not accepted.
use Rattle.std.specs.Prelude.{◌∷◌, [], codes}
use Rattle.text_io.specs.FaultWords.{Words, text_fault}
use Rattle.depgraph.specs.Rotations.{Turn}
use Rattle.fitting.specs.FaultWords.{fit_fault_words}
use Rattle.planned.specs.FaultWords.{planned_fault_words}
use Rattle.scenario.specs.FaultWords.{scen_fault_words}
use Rattle.check_commands.specs.declared.check_fault.CheckFault.{CheckFault}
use Rattle.check_commands.specs.declared.check_fault.CheckFault.TheVariants as check_fault

-- those of the fault that a text or the plan has
abbrev pub check_fault_words : CheckFault → Words
check_fault_words (check_fault.Planned fault) = planned_fault_words fault
check_fault_words (check_fault.Scen fault) = scen_fault_words fault
check_fault_words (check_fault.Unfit fault) = fit_fault_words fault

-- what is explained of a rotation: its step
abbrev pub turn_words : Turn → Words
turn_words turn = text_fault (codes "Rotation") (turn.step ∷ [])
