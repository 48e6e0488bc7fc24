-- Without rows.
use Rattle.std.proofs.Common.{◌∙◌, ap}
use Rattle.grid.specs.declared.cell.Cell.{Cell}
use Rattle.least_costs.specs.Code.Marks.{mark_of}
use Rattle.least_costs.proofs.MarkLemmas.{no_marks}
use Rattle.least_costs.proofs.marks.Marks.new.Goals as goal

pub returns : goal.returns
returns c = λ (cell : Cell). ap (λ rows. mark_of rows cell) c.new.ensures.items ∙ no_marks cell
