use Rattle.ending.specs.Ending.{end_of}
use Rattle.text_commands.proofs.map_command.map_cmd.Goals as goal

pub returns : goal.returns
returns g c = record { end = end_of c.perform.result; ends = c.perform.ensures; concludes = c.conclude.ensures }
