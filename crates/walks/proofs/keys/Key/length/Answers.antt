use Rattle.std.proofs.Common.{sym, ap, ◌∙◌}
use Rattle.walks.specs.Code.KeyParts.{length_of_number}
use Rattle.walks.proofs.KeyNumbers.{length_of_none}
use Rattle.walks.proofs.keys.Key.length.Goals as goal

pub returns-in-None : goal.returns-in-None
returns-in-None c = sym (length_of_none c.args.self.value c.in-None.ensures)

pub returns-in-Some : goal.returns-in-Some
returns-in-Some c = c.length_of.ensures ∙ ap length_of_number c.in-Some.ensures.0
