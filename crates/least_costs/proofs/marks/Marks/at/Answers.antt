-- The mark of the cell's place, if there is one.
use Rattle.std.proofs.Common.{◌≡◌, ◌∙◌, ◌<◌, ◌≤◌, length, Some, arith, refl, sym, subst}
use Rattle.std.specs.Prelude.{slice_get}
use Rattle.std.proofs.lemmas.Option.{same_Some, slice_get_read}
use Rattle.least_costs.specs.declared.marks.MarkRow.{MarkRow}
use Rattle.least_costs.proofs.MarkLemmas.{read, read_none, read_off}
use Rattle.least_costs.proofs.marks.Marks.at.Goals as goal
use Rattle.least_costs.proofs.marks.Marks.at.Goals.{else-row-len-via-then-row-len+else-column-len, else-row-len-via-else-row-len}

pub returns-then-column-len-clause-mark : goal.returns-then-column-len-clause-mark
returns-then-column-len-clause-mark c =
    let rows = c.args.self.now.rows.items in
    let cell = c.args.cell in
    let first = c.index.result.now in
    let row = c.index-then-column-len.result.now in
    let mark = c.index-then-column-len-2.result.now in
    let within : c.from-row.result < length rows = omega (arith, c.if-row-len.true, c.len.ensures, c.args.self.now.rows.ok.0) in
    let one = slice_get_read rows (length rows) c.from-row.result first refl within c.index.ensures in
    let two = slice_get_read rows (length rows) c.from-row.result row refl within c.index-then-column-len.ensures in
    let same : first ≡ row = same_Some first row (sym one ∙ two) in
    let inside : c.from-column.result < length first.marks.items = omega (arith, c.if-column-len.true, c.len-then-row-len.ensures, first.marks.ok.0) in
    let has = subst (λ (r : MarkRow). c.from-column.result < length r.marks.items) same inside in
    let there = subst (λ k. slice_get rows k ≡ Some row) c.from-row.ensures two in
    let is = slice_get_read row.marks.items (length row.marks.items) c.from-column.result mark refl has c.index-then-column-len-2.ensures in
    sym (read rows cell row mark there (subst (λ k. slice_get row.marks.items k ≡ Some mark) c.from-column.ensures is))

pub returns-else-row-len-clause-mark : goal.returns-else-row-len-clause-mark
returns-else-row-len-clause-mark c =
    let rows = c.args.self.now.rows.items in
    let cell = c.args.cell in
    elim c.else-row-len.branch [
      | else-row-len-via-then-row-len+else-column-len w ↦
          let row = w.index.result.now in
          let within : c.from-row.result < length rows = omega (arith, w.if-row-len.true, c.len.ensures, c.args.self.now.rows.ok.0) in
          let one = slice_get_read rows (length rows) c.from-row.result row refl within w.index.ensures in
          let there = subst (λ k. slice_get rows k ≡ Some row) c.from-row.ensures one in
          let past : length row.marks.items ≤ cell.x = omega (arith, w.if-column-len.false, w.len-then-row-len.ensures, row.marks.ok.0, c.from-column.ensures) in
          sym (read_none rows cell row there past)
      | else-row-len-via-else-row-len w ↦
          let past : length rows ≤ cell.y = omega (arith, w.if-row-len.false, c.len.ensures, c.args.self.now.rows.ok.0, c.from-row.ensures) in
          sym (read_off rows cell past)
    ]
