-- The words of why an agent does not answer its input to the end.
use Rattle.std.specs.Prelude.{[], codes}
use Rattle.text_io.specs.declared.failure.Failure.TheVariants as failure
use Rattle.text_io.specs.FaultWords.{Words, text_fault, failed}
use Rattle.agent.specs.FaultWords.{open_fault_words}
use Rattle.robot.specs.FaultWords.{file_tape_fault_words, talk_fault_words}
use Rattle.planned.specs.FaultWords.{planned_fault_words}
use Rattle.agent_commands.specs.declared.agent_fault.AgentFault.{AgentFault}
use Rattle.agent_commands.specs.declared.agent_fault.AgentFault.TheVariants.{Planned}
use Rattle.agent_commands.specs.declared.agent_fault.AgentFault.TheVariants.{OpenFailed}
use Rattle.agent_commands.specs.declared.agent_fault.AgentFault.TheVariants.{TapeExists}
use Rattle.agent_commands.specs.declared.agent_fault.AgentFault.TheVariants.{NoTape}
use Rattle.agent_commands.specs.declared.agent_fault.AgentFault.TheVariants.{PlanDamaged}
use Rattle.agent_commands.specs.declared.agent_fault.AgentFault.TheVariants.{TapeEmptied}
use Rattle.agent_commands.specs.declared.agent_fault.AgentFault.TheVariants.{OtherPlan}
use Rattle.agent_commands.specs.declared.agent_fault.AgentFault.TheVariants.{File}
use Rattle.agent_commands.specs.declared.agent_fault.AgentFault.TheVariants.{Tape}
use Rattle.agent_commands.specs.declared.agent_fault.AgentFault.TheVariants.{Dialogue}

-- those of the fault of the texts, of the tape or of the dialogue
abbrev pub agent_fault_words : AgentFault → Words
agent_fault_words (Planned f) = planned_fault_words f
agent_fault_words OpenFailed = failed failure.OpenFailed
agent_fault_words TapeExists = text_fault (codes "TapeExists") []
agent_fault_words NoTape = text_fault (codes "NoTape") []
agent_fault_words PlanDamaged = text_fault (codes "PlanDamaged") []
agent_fault_words TapeEmptied = text_fault (codes "TapeEmptied") []
agent_fault_words (OtherPlan apart) = text_fault (codes "OtherPlan") []
agent_fault_words (File f) = file_tape_fault_words f
agent_fault_words (Tape f) = open_fault_words f
agent_fault_words (Dialogue f) = talk_fault_words f
