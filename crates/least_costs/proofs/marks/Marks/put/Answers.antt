-- The mark comes into the row of its cell, once that has room.
use Rattle.std.proofs.Common.{◌≡◌, ◌∙◌, ◌<◌, length, arith, refl, sym, subst}
use Rattle.std.proofs.lemmas.Option.{same_Some, slice_get_read, slice_get_within}
use Rattle.least_costs.specs.declared.marks.MarkRow.{MarkRow}
use Rattle.least_costs.specs.declared.marks.Marks.{Marks}
use Rattle.least_costs.specs.Code.Marks.{AreSameMarks, HasMarkRoom}
use Rattle.least_costs.proofs.MarkLemmas.{put_after, put_in_row}
use Rattle.least_costs.proofs.marks.Marks.put.Goals as goal
use Rattle.least_costs.proofs.marks.Marks.put.Goals.{then-row-len+in_ok-make_room, else-row-len+else-column-len}

pub returns-clause-put : goal.returns-clause-put
returns-clause-put c =
    let old = c.args.self.now in
    let middle = c.if-row-len.self in
    let y = c.from-row.result in
    let x = c.from-column.result in
    let same : AreSameMarks old middle = elim c.if-row-len.branch [
      | then-row-len+in_ok-make_room w ↦ subst (AreSameMarks old) (sym w.self-is) w.make_room.ensures.same
      | else-row-len+else-column-len w ↦ subst (AreSameMarks old) (sym w.self-is) (λ _. refl)
    ] in
    let room : HasMarkRoom middle y x = elim c.if-row-len.branch [
      | then-row-len+in_ok-make_room w ↦ subst (λ (s : Marks). HasMarkRoom s y x) (sym w.self-is) w.in_ok-make_room.ensures.room
      | else-row-len+else-column-len w ↦
          let row = w.index.result.now in
          let within : y < length old.rows.items = omega (arith, w.if-row-len.false, c.len.ensures, old.rows.ok.0) in
          let inside : x < length row.marks.items = omega (arith, w.if-column-len.false, w.len-else-row-len.ensures, row.marks.ok.0) in
          let there = slice_get_read old.rows.items (length old.rows.items) y row refl within w.index.ensures in
          subst (λ (s : Marks). HasMarkRoom s y x) (sym w.self-is) (row, there, inside)
    ] in
    let row = c.index_mut.result.now in
    let within = slice_get_within middle.rows.items y room.0 room.1 in
    let there = slice_get_read middle.rows.items (length middle.rows.items) y row refl within c.index_mut.ensures.value in
    let is : room.0 ≡ row = same_Some room.0 row (sym room.1 ∙ there) in
    let inside = subst (λ (r : MarkRow). x < length r.marks.items) is room.2 in
    put_after old middle c.args.cell c.args.mark _ same
    (put_in_row middle _ c.args.cell c.args.mark y x row _ c.from-row.ensures c.from-column.ensures there inside refl refl)
