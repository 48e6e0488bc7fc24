use Rattle.std.proofs.Common.{rules}
use Rattle.check_commands.proofs.PlainText.{rejection_is_plain}
use Rattle.check_commands.proofs.check_fault.CheckFault.text.Goals as goal

pub returns-clause-plain : goal.returns-clause-plain
returns-clause-plain c = search (rules, rejection_is_plain c.args.self c.requires)
