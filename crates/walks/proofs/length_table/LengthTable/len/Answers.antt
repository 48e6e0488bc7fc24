use Rattle.std.proofs.Common.{length, ap, ◌∙◌}
use Rattle.walks.proofs.length_table.LengthTable.len.Goals as goal

pub returns : goal.returns
returns c = c.len.ensures ∙ ap length c.self.view_is
