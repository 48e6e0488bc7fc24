use Rattle.std.proofs.Common.{rules, append_assoc}
use Rattle.check_commands.proofs.verdict.verdict_line.Goals as goal

pub returns-in-Accepted : goal.returns-in-Accepted
returns-in-Accepted c = rw (c.in-Accepted.is, c.if-json.false) (simp append_assoc (search rules))
