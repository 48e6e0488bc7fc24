use Rattle.std.proofs.Common.{inl, inr, refl, rules}
use Rattle.command_line.proofs.command_line.LineFault.bad_command.Goals as goal

pub returns-in-Ok : goal.returns-in-Ok
returns-in-Ok c = inr (c.in-Ok.text, refl, search rules)

pub returns-in-Err : goal.returns-in-Err
returns-in-Err c = inl refl
