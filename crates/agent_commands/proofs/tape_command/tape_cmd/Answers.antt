use Rattle.ending.specs.Ending.{end_of}
use Rattle.agent_commands.proofs.tape_command.tape_cmd.Goals as goal

pub returns : goal.returns
returns g c = record { end = end_of c.perform.result; ends = c.perform.ensures; concludes = c.conclude.ensures }
