use Rattle.std.proofs.Common.{inl}
use Rattle.mapf_cmd.proofs.program.run.Goals as goal

pub returns-in-Ok : goal.returns-in-Ok
returns-in-Ok g c = inl (c.in-Ok.asked, c.in-Ok.ensures.command, c.answer.ensures)
