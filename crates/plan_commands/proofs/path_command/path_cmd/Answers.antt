use Rattle.ending.specs.Ending.{end_of}
use Rattle.plan_commands.proofs.path_command.path_cmd.Goals as goal

pub returns : goal.returns
returns g c = record { end = end_of c.perform.result; ends = c.perform.ensures; concludes = c.conclude.ensures }
