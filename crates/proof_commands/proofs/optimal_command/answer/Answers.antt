-- What the proof came to, and the answer to that.
use Rattle.std.proofs.Common.{Ok, Err}
use Rattle.proof_commands.proofs.optimal_command.answer.Goals as goal

pub returns-in-Ok : goal.returns-in-Ok
returns-in-Ok g c = (Ok c.in-Ok.claim, c.in-Ok.ensures.reads, (c.in-Ok.ensures.holds, c.compare.ensures))

pub returns-in-Err : goal.returns-in-Err
returns-in-Err g c = (Err c.in-Err.fault, c.in-Err.ensures.reads, c.refuse.ensures)
