use Rattle.std.proofs.Common.{◌∙◌, Ok, Err, ap, refl}
use Rattle.ending.specs.Ending.{gave_up}
use Rattle.plan_commands.specs.declared.path_fault.PathFault.TheVariants.{Planned}
use Rattle.plan_commands.proofs.path_command.perform.Goals as goal

pub returns-in-Ok : goal.returns-in-Ok
returns-in-Ok g c = record {
  read = Ok _;
  reads = c.in-Ok.ensures.reads;
  answer = c.show.ensures.answer;
  shows = c.show.ensures.shows;
  ends = c.show.ensures.ends;
}

pub returns-in-Err : goal.returns-in-Err
returns-in-Err g c = record {
  read = Err c.in-Err.fault;
  reads = c.in-Err.ensures.reads;
  answer = Err (Planned c.in-Err.fault);
  shows = refl;
  ends = (c.gave_up.ensures ∙ ap gave_up c.words.ensures, refl);
}
