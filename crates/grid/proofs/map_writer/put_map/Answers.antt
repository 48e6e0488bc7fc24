-- The header, the rows, and then what is held back.
use Rattle.std.proofs.Common.{[], ◌++◌, map, refl, ◌∙◌, append-nil}
use Rattle.std.proofs.lemmas.Result.{err_from_is_err_and}
use Rattle.text_io.specs.Text.{ended}
use Rattle.grid.specs.Terrain.{character_of}
use Rattle.grid.specs.MapText.{rows_of, header_lines}
use Rattle.text_io.specs.Laws.Putting.{Puts-trans, Puts-then, Breaks-then, Breaks-text, Breaks-text-after}
use Rattle.grid.proofs.RowLemmas.{canonical_map_text-parts}
use Rattle.grid.proofs.map_writer.put_map.Goals as goal

pub returns-in_err-put_header-clause-err : goal.returns-in_err-put_header-clause-err
returns-in_err-put_header-clause-err g c =
    let p = err_from_is_err_and c.from_residual.result c.from_residual.ensures.1 in
    let m = c.args.map.now in
    rw p.1 (Breaks-text g.W.Write.contents _ _ (ended (header_lines c.width.result c.height.result)) (ended (rows_of m.height m.width (map character_of m.terrain))) _
    (canonical_map_text-parts m _ _ m.width m.height _ c.width.ensures.width c.height.ensures.height refl refl refl) c.in_err-put_header.ensures.err)

pub returns-in_err-put_rows-clause-err : goal.returns-in_err-put_rows-clause-err
returns-in_err-put_rows-clause-err g c =
    let p = err_from_is_err_and c.from_residual-in_err-put_rows.result c.from_residual-in_err-put_rows.ensures.1 in
    let header = ended (header_lines c.width.result c.height.result) in
    let rows = ended (rows_of c.height-2.result c.width-2.result c.characters.result.now) in
    rw p.1 (Breaks-text-after g.W.Write.contents _ _ _ header rows [] _
    (append-nil (header ++ rows) ∙ canonical_map_text-parts c.args.map.now _ _ _ _ _ c.width.ensures.width c.height.ensures.height c.width-2.ensures.width
    c.height-2.ensures.height c.characters.ensures) c.in_ok-put_header.ensures.ok c.in_err-put_rows.ensures.err)

pub returns-clause-ok : goal.returns-clause-ok
returns-clause-ok g c =
    let header = ended (header_lines c.width.result c.height.result) in
    let rows = ended (rows_of c.height-2.result c.width-2.result c.characters.result.now) in
    let both = Puts-trans g.W.Write.contents _ _ _ header rows c.in_ok-put_header.ensures.ok c.in_ok-put_rows.ensures.ok in
    Puts-then g.W.Write.contents _ _ _ (header ++ rows) [] _ c.hand_on.result
    (append-nil (header ++ rows) ∙ canonical_map_text-parts c.args.map.now _ _ _ _ _ c.width.ensures.width c.height.ensures.height c.width-2.ensures.width
    c.height-2.ensures.height c.characters.ensures) both c.hand_on.ensures.ok

pub returns-clause-err : goal.returns-clause-err
returns-clause-err g c =
    let header = ended (header_lines c.width.result c.height.result) in
    let rows = ended (rows_of c.height-2.result c.width-2.result c.characters.result.now) in
    let both = Puts-trans g.W.Write.contents _ _ _ header rows c.in_ok-put_header.ensures.ok c.in_ok-put_rows.ensures.ok in
    Breaks-then g.W.Write.contents _ _ _ (header ++ rows) [] _ c.hand_on.result
    (append-nil (header ++ rows) ∙ canonical_map_text-parts c.args.map.now _ _ _ _ _ c.width.ensures.width c.height.ensures.height c.width-2.ensures.width
    c.height-2.ensures.height c.characters.ensures) both c.hand_on.ensures.err
