use Rattle.std.proofs.Common.{◌∙◌, Ok, Err, ap, refl}
use Rattle.ending.specs.Ending.{gave_up}
use Rattle.plan_commands.proofs.continues_command.perform.Goals as goal

pub returns-in-Ok : goal.returns-in-Ok
returns-in-Ok g c = record { answer = Ok c.in-Ok.continuation; reads = c.in-Ok.ensures; ends = c.tell.ensures }

pub returns-in-Err : goal.returns-in-Err
returns-in-Err g c = record { answer = Err c.in-Err.fault; reads = c.in-Err.ensures; ends = (c.gave_up.ensures ∙ ap gave_up c.words.ensures, refl) }
