-- The square in each column is that of the cell in that column of the row.
use Rattle.std.proofs.Common.{◌≡◌, ◌+◌, ◌*◌, get_or, set, map, arith, sym, ap, subst, ◌∙◌}
use Rattle.grid.specs.Terrain.{character_of}
use Rattle.grid.specs.declared.cell.Cell.{Cell}
use Rattle.checker.specs.Code.Standing.{IsOnGrid, place_in}
use Rattle.checker.specs.Code.Squares.{ground_in, ground_by, wide_of, place_on, HasGround, IsLaid}
use Rattle.checker.proofs.BoardLemmas.{within_board}
use Rattle.checker.proofs.SquareLemmas.{ground_here, laid-more}
use Rattle.checker.proofs.board.lay_row.Goals as goal

pub loop-column-preserved : goal.loop-column-preserved
loop-column-preserved c =
    let m = c.args.map.now in
    let row = c.args.row in
    let column = c.loop-column.column in
    let width = c.width-width.ensures.width in
    let less = c.loop-column-test.true in
    let in_row = c.requires.row in
    let squares = c.loop-column.squares in
    let cell : Cell = record { x = column; y = row } in
    let on : IsOnGrid m cell = record { column = omega (arith, less, width); row = in_row } in
    let rows : row * (c.width-width.result + 2) ≡ row * wide_of m = ap (λ w. row * (w + 2)) width in
    let at : place_on m cell ≡ row * (c.width-width.result + 2) + c.width-width.result + 3 + column = omega (arith, rows, width) in
    let size = c.loop-column.invariant.board.size in
    let within = within_board m cell on in
    let place : row * c.width-width.result + column ≡ place_in m.width cell = ap (λ w. row * w + column) width in
    let ground : ground_in c.new.result ≡ ground_by (get_or (map character_of m.terrain) (place_in m.width cell) 0) =
    c.new.ensures.ground ∙ c.ground_by.ensures
    ∙ ap (λ l. ground_by (get_or l (row * c.width-width.result + column) 0)) c.characters-characters.ensures
    ∙ ap (λ p. ground_by (get_or (map character_of m.terrain) p 0)) place in
    subst (λ p. IsLaid m (set squares p c.new.result) (row * m.width + (column + 1))) at
    (subst (IsLaid m (set squares (place_on m cell) c.new.result)) (omega arith)
    (laid-more m squares cell c.new.result c.loop-column.invariant (omega (arith, size, within))
    (subst (HasGround m cell) (sym ground) (ground_here m cell c.width-width.ensures.map on)) c.new.ensures.mark))

pub returns : goal.returns
returns c =
    let m = c.args.map.now in
    let row = c.args.row in
    let width = c.width-width.ensures.width in
    let past = c.loop-column-test.false in
    let within = c.loop-column.auto.column-end in
    let all : c.loop-column.column ≡ m.width = omega (arith, past, within, width) in
    subst (IsLaid m c.loop-column.squares) (ap (λ n. row * m.width + n) all ∙ omega arith) c.loop-column.invariant
