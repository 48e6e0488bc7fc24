-- The row has room, or it is given some.
use Rattle.std.proofs.Common.{◌≡◌, ◌∙◌, ◌<◌, ◌≤◌, length, arith, refl, sym, ap, subst}
use Rattle.std.specs.Prelude.{slice_get}
use Rattle.std.proofs.lemmas.Option.{same_Some, slice_get_read}
use Rattle.least_costs.specs.declared.marks.MarkRow.{MarkRow}
use Rattle.least_costs.specs.Code.Marks.{mark_or_none}
use Rattle.text_io.specs.Laws.Lists.{set_here}
use Rattle.least_costs.proofs.MarkLemmas.{resized, same_row}
use Rattle.least_costs.proofs.marks.Marks.make_room.Goals as goal

pub returns-then-column-len-clause-room : goal.returns-then-column-len-clause-room
returns-then-column-len-clause-room c =
    let rows = c.make_row.new.self.rows.items in
    let row = c.index.result.now in
    let inside : c.args.column < length row.marks.items = omega (arith, c.if-column-len.true, c.len.ensures, row.marks.ok.0) in
    (row, slice_get_read rows (length rows) c.args.row row refl c.in_ok-make_row.ensures.row c.index.ensures, inside)

pub returns-clause-same : goal.returns-clause-same
returns-clause-same c = λ cell.
    let rows = c.make_row.new.self.rows.items in
    let first = c.index.result.now in
    let row = c.index_mut.result.now in
    let new : MarkRow = record { marks = c.resize.new.self } in
    let one = slice_get_read rows (length rows) c.args.row first refl c.in_ok-make_row.ensures.row c.index.ensures in
    let two = slice_get_read rows (length rows) c.args.row row refl c.in_ok-make_row.ensures.row c.index_mut.ensures.value in
    let same : first ≡ row = same_Some first row (sym one ∙ two) in
    let short : length first.marks.items ≤ c.args.column = omega (arith, c.if-column-len.false, c.len.ensures, first.marks.ok.0) in
    let few : length row.marks.items ≤ c.args.column = subst (λ (r : MarkRow). length r.marks.items ≤ c.args.column) same short in
    let more : row.marks.len ≤ c.max-width.result = omega (arith, few, c.max-width.ensures, row.marks.ok.0) in
    let count : row.marks.len ≡ length row.marks.items = omega (arith, row.marks.ok.0) in
    same_row rows c.args.row row new two (resized row.marks.items c.resize.new.self.items c.max-width.result row.marks.len count more c.in_ok-resize.ensures.items) cell
    ∙ c.make_row.ensures.same cell

pub returns-clause-room : goal.returns-clause-room
returns-clause-room c =
    let rows = c.make_row.new.self.rows.items in
    let new : MarkRow = record { marks = c.resize.new.self } in
    let inside : c.args.column < length c.resize.new.self.items = omega (arith, c.in_ok-resize.ensures.len, c.max-width.ensures, c.resize.new.self.ok.0) in
    (new, set_here rows c.args.row new c.in_ok-make_row.ensures.row, inside)

pub returns-in_err-resize-clause-same : goal.returns-in_err-resize-clause-same
returns-in_err-resize-clause-same c = λ cell.
    let rows = c.make_row.new.self.rows.items in
    let row = c.index_mut.result.now in
    let new : MarkRow = record { marks = c.resize.new.self } in
    let there = slice_get_read rows (length rows) c.args.row row refl c.in_ok-make_row.ensures.row c.index_mut.ensures.value in
    same_row rows c.args.row row new there (λ x. ap (λ l. mark_or_none (slice_get l x)) c.in_err-resize.ensures.items) cell ∙ c.make_row.ensures.same cell
