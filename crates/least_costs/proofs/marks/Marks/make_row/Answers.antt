-- One row more, without marks.
use Rattle.std.proofs.Common.{◌≡◌, ◌∙◌, ◌+◌, ◌≤◌, ◌++◌, ◌∷◌, [], length, arith, ap}
use Rattle.std.proofs.lemmas.List.{length-append}
use Rattle.grid.specs.declared.cell.Cell.{Cell}
use Rattle.least_costs.specs.declared.marks.MarkRow.{MarkRow}
use Rattle.least_costs.specs.Code.Marks.{mark_of}
use Rattle.least_costs.proofs.MarkLemmas.{added}
use Rattle.least_costs.proofs.marks.Marks.make_row.Goals as goal

pub loop-at-preserved : goal.loop-at-preserved
loop-at-preserved c =
    let rows = c.loop-at.self.rows.items in
    let row : MarkRow = record { marks = c.new.result } in
    let grown : c.push.new.self.items ≡ rows ++ row ∷ [] = c.in_ok-push.ensures.items in
    let count : c.loop-at._at + 1 ≤ length c.push.new.self.items = omega (arith, c.loop-at.invariant.0, ap length grown, length-append rows (row ∷ [])) in
    (count, λ (cell : Cell). ap (λ l. mark_of l cell) grown ∙ added rows row c.new.ensures.items cell ∙ c.loop-at.invariant.1 cell)
