use Rattle.agent_commands.specs.Code.Reports.{outcome_of}
use Rattle.agent_commands.proofs.tape_command.perform.Goals as goal

pub returns : goal.returns
returns g c = record { answer = outcome_of c.inspect-answer.result; inspects = c.inspect-answer.ensures; ends = c.show.ensures }
