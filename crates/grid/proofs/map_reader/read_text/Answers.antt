-- The header, the rows and what follows them, or where the text stops the reader.
use Rattle.std.proofs.Common.{◌≡◌, zero, ◌+◌, ◌*◌, ◌++◌, length, map, min, ap, ◌∙◌, arith, length-append}
use Rattle.std.proofs.lemmas.Result.{err_from_is_err_and}
use Rattle.text_io.specs.Counted.{greatest}
use Rattle.grid.specs.Terrain.{kind_of}
use Rattle.grid.specs.Map.{Grid}
use Rattle.grid.specs.MapFault.{type_due, rows_due}
use Rattle.text_io.specs.Text.{IsLine}
use Rattle.grid.proofs.TakenLines.{TakesLines-append, TakesRight-append, StopsReading-after, all-append}
use Rattle.grid.proofs.MapTaken.{reads_stop, reads_map, map_of_lines, header_from_Leads, blank_from_Leads, length-rows, terrain_of_rows, same_reader_of_stop, same_reader_of_lines, rows_right}
use Rattle.grid.proofs.map_reader.read_text.Goals as goal

pub returns-in_err-width-clause-reads : goal.returns-in_err-width-clause-reads
returns-in_err-width-clause-reads g c =
    let p = err_from_is_err_and c.from_residual.result c.from_residual.ensures.1 in
    rw (p.1, p.2) (reads_stop g.R.Read.remaining _ _ c.requires.fresh.0 c.requires.fresh.1 c.in_err-width.field-0.0 c.in_err-width.ensures)

pub returns-in_err-characters-clause-same_reader : goal.returns-in_err-characters-clause-same_reader
returns-in_err-characters-clause-same_reader g c =
    let header = c.in_ok-width.ensures in
    let four = header.2 in
    same_reader_of_stop g.R.Read.remaining _ _ type_due 0 c.in_err-characters.field-0.0
    (StopsReading-after g.R.Read.remaining _ _ _ type_due (rows_due c.in_ok-width.width c.in_ok-width.height) header.1 0 4 c.in_err-characters.field-0.0 (omega (arith, four)) header.3
    c.in_err-characters.ensures)

pub returns-in_err-characters-clause-reads : goal.returns-in_err-characters-clause-reads
returns-in_err-characters-clause-reads g c =
    let p = err_from_is_err_and c.from_residual-in_err-characters.result c.from_residual-in_err-characters.ensures.1 in
    let header = c.in_ok-width.ensures in
    let four = header.2 in
    rw (p.1, p.2) (reads_stop g.R.Read.remaining _ _ c.requires.fresh.0 c.requires.fresh.1 c.in_err-characters.field-0.0
    (StopsReading-after g.R.Read.remaining _ _ _ type_due (rows_due c.in_ok-width.width c.in_ok-width.height) header.1 0 4 c.in_err-characters.field-0.0 (omega (arith, four)) header.3
    c.in_err-characters.ensures))

pub returns-in_err-read_rest-clause-same_reader : goal.returns-in_err-read_rest-clause-same_reader
returns-in_err-read_rest-clause-same_reader g c =
    let header = c.in_ok-width.ensures in
    let lines = header.1 in
    let rows = c.in_ok-characters.ensures in
    let w = c.in_ok-width.width in
    let h = c.in_ok-width.height in
    let below = rows_right g.R.Read.remaining _ _ w h c.in_ok-characters.characters.items rows in
    let above = TakesRight-append g.R.Read.remaining _ _ _ type_due (rows_due w h) (rows_due w zero) lines rows.lines header.3 below in
    let four = header.2 in
    let count = rows.length_is in
    let many : 4 + h ≡ 0 + length (lines ++ rows.lines) = omega (arith, length-append lines rows.lines, four, count) in
    let from = c.from.ensures in
    let limit = header.0.height_limit in
    let number : c.from.result + 5 ≡ min (4 + h + 1) greatest = omega arith in
    let stop = StopsReading-after g.R.Read.remaining _ _ _ type_due (rows_due w zero) (lines ++ rows.lines) 0 (4 + h) c.in_err-read_rest.field-0.0 many above
    (c.in_err-read_rest.ensures (4 + h) number) in
    same_reader_of_stop g.R.Read.remaining _ _ type_due 0 c.in_err-read_rest.field-0.0 stop

pub returns-in_err-read_rest-clause-reads : goal.returns-in_err-read_rest-clause-reads
returns-in_err-read_rest-clause-reads g c =
    let p = err_from_is_err_and c.from_residual-in_err-read_rest.result c.from_residual-in_err-read_rest.ensures.1 in
    let header = c.in_ok-width.ensures in
    let lines = header.1 in
    let rows = c.in_ok-characters.ensures in
    let w = c.in_ok-width.width in
    let h = c.in_ok-width.height in
    let below = rows_right g.R.Read.remaining _ _ w h c.in_ok-characters.characters.items rows in
    let above = TakesRight-append g.R.Read.remaining _ _ _ type_due (rows_due w h) (rows_due w zero) lines rows.lines header.3 below in
    let four = header.2 in
    let count = rows.length_is in
    let many : 4 + h ≡ 0 + length (lines ++ rows.lines) = omega (arith, length-append lines rows.lines, four, count) in
    let from = c.from.ensures in
    let limit = header.0.height_limit in
    let number : c.from.result + 5 ≡ min (4 + h + 1) greatest = omega arith in
    let stop = StopsReading-after g.R.Read.remaining _ _ _ type_due (rows_due w zero) (lines ++ rows.lines) 0 (4 + h) c.in_err-read_rest.field-0.0 many above
    (c.in_err-read_rest.ensures (4 + h) number) in
    rw (p.1, p.2) (reads_stop g.R.Read.remaining _ _ c.requires.fresh.0 c.requires.fresh.1 c.in_err-read_rest.field-0.0 stop)

pub from_characters-requires-clause-count : goal.from_characters-requires-clause-count
from_characters-requires-clause-count g c =
    let rows = c.in_ok-characters.ensures in
    let v = c.in_ok-characters.characters in
    let cells = length-rows c.in_ok-width.width v.items rows.lines rows.rows ∙ ap (λ n. c.in_ok-width.width * n) rows.length_is in
    omega (arith, cells)

pub from_characters-requires-clause-terrain : goal.from_characters-requires-clause-terrain
from_characters-requires-clause-terrain g c =
    let rows = c.in_ok-characters.ensures in
    terrain_of_rows c.in_ok-width.width c.in_ok-characters.characters.items rows.lines rows.rows

pub returns-clause-same_reader : goal.returns-clause-same_reader
returns-clause-same_reader g c =
    let header = c.in_ok-width.ensures in
    let lines = header.1 in
    let rows = c.in_ok-characters.ensures in
    let w = c.in_ok-width.width in
    let h = c.in_ok-width.height in
    let below = rows_right g.R.Read.remaining _ _ w h c.in_ok-characters.characters.items rows in
    let above = TakesRight-append g.R.Read.remaining _ _ _ type_due (rows_due w h) (rows_due w zero) lines rows.lines header.3 below in
    let rest = c.in_ok-read_rest.ensures in
    same_reader_of_lines g.R.Read.remaining _ _ ((lines ++ rows.lines) ++ rest.1) (TakesLines-append g.R.Read.remaining _ _ _ (lines ++ rows.lines) rest.1 above.taken rest.2.taken)

pub returns-clause-reads : goal.returns-clause-reads
returns-clause-reads g c =
    let header = c.in_ok-width.ensures in
    let lines = header.1 in
    let rows = c.in_ok-characters.ensures in
    let w = c.in_ok-width.width in
    let h = c.in_ok-width.height in
    let below = rows_right g.R.Read.remaining _ _ w h c.in_ok-characters.characters.items rows in
    let above = TakesRight-append g.R.Read.remaining _ _ _ type_due (rows_due w h) (rows_due w zero) lines rows.lines header.3 below in
    let rest = c.in_ok-read_rest.ensures in
    let all = (lines ++ rows.lines) ++ rest.1 in
    let m : Grid = record { width = w; height = h; terrain = map kind_of c.in_ok-characters.characters.items } in
    rw c.from_characters.ensures (reads_map g.R.Read.remaining _ _ c.requires.fresh.0 c.requires.fresh.1 m all (all-append IsLine (lines ++ rows.lines) rest.1 above.are_lines rest.2.are_lines)
    (TakesLines-append g.R.Read.remaining _ _ _ (lines ++ rows.lines) rest.1 above.taken rest.2.taken) rest.0 rest.2.well
    (λ text is. map_of_lines text lines rows.lines rest.1 w h c.in_ok-characters.characters.items is (header_from_Leads lines w h header.2 header.3.right) header.0
    rows.rows rows.length_is (blank_from_Leads w w rest.1 rest.2.right)))
