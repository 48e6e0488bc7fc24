use Rattle.std.proofs.Common.{get_or, None, ap, ◌∙◌}
use Rattle.walks.proofs.length_table.LengthTable.entry.Goals as goal

pub returns : goal.returns
returns c = c.entry.ensures ∙ ap (λ l. get_or l c.args.place None) c.self.view_is
