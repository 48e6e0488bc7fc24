-- Two numerals more are the text of a cell more.
use Rattle.std.proofs.Common.{◌≡◌, Some, arith, length, refl, subst, ◌∙◌}
use Rattle.std.specs.Prelude.{slice_get}
use Rattle.std.proofs.lemmas.Option.{slice_get_read}
use Rattle.plan_commands.proofs.CellLemmas.{text_more}
use Rattle.plan_commands.proofs.cell_text.line_up.Goals as goal

pub loop-cell-preserved : goal.loop-cell-preserved
loop-cell-preserved c =
    let texts = c.args.numerals.now in
    let was = c.loop-cell.invariant in
    let short = was.short in
    let column = c.write-len.ensures in
    let row = c.write-len-in-loop-cell.ensures in
    let end_of_column = column.end in
    let end_of_row = row.end in
    let at_x = subst (λ n. slice_get texts n ≡ Some c.index-numerals-x.result) c.from-x.ensures
    (slice_get_read texts (length texts) c.from-x.result c.index-numerals-x.result refl c.if-x-numerals.false c.index-numerals-x.is) in
    let at_y = subst (λ n. slice_get texts n ≡ Some c.index-numerals-y.result) c.from-y.ensures
    (slice_get_read texts (length texts) c.from-y.result c.index-numerals-y.result refl c.if-y-numerals.false c.index-numerals-y.is) in
    record {
      short = omega (arith, short, end_of_column, end_of_row);
      room = row.count ∙ column.count ∙ was.room;
      text = text_more c.args.cells.now texts c.loop-cell.cell-index c.loop-cell.len c.write-len.result c.write-len-in-loop-cell.result c.loop-cell.bytes c.write-len.new.bytes
          c.write-len-in-loop-cell.new.bytes c.index-numerals-x.result c.index-numerals-y.result c.loop-cell-test.true c.requires.numerals at_x at_y was.text column.text row.text;
    }
