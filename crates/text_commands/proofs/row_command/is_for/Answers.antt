-- A row for a map of this size has its start and goal on the map.
use Rattle.std.proofs.Common.{◌≡◌, ℕ, ◌+◌, ◌*◌, ◌<◌, inl, inr, None, sym, ◌∙◌, arith}
use Rattle.std.specs.Prelude.{nat_lt, slice_get}
use Rattle.std.proofs.lemmas.Bool.{and_from, cond-true, eqb-true, lt-ltb}
use Rattle.std.proofs.lemmas.Nat.{mul-le}
use Rattle.std.proofs.lemmas.Option.{slice_get_cases}
use Rattle.grid.specs.declared.cell.Cell.{Cell}
use Rattle.grid.specs.Map.{Grid, IsMap}
use Rattle.walks.specs.Certificate.{AreOn}
use Rattle.scenario.specs.Query.{Query, IsQuery}
use Rattle.walks.specs.Walk.{IsOn}
use Rattle.text_commands.specs.RowCommand.{HasSizeOf}
use Rattle.text_commands.proofs.row_command.is_for.Goals as goal

-- a place in the rows of a map is one of its cells
place_within : (x y width height : ℕ) → x < width → y < height → y * width + x < width * height
place_within x y width height column row =
    let above = mul-le (y + 1) width height width (omega arith) (omega arith) in omega (arith, above, column)

-- a cell within the map's size has a terrain
on_map : (m : Grid) (c : Cell) → IsMap m → c.x < m.width → c.y < m.height → IsOn m c
on_map m c is column row none =
    let within = and_from (nat_lt c.x m.width) (nat_lt c.y m.height) (lt-ltb c.x m.width column) (lt-ltb c.y m.height row) in
    let place : c.y * m.width + c.x < m.width * m.height = place_within c.x c.y m.width m.height column row in
    let found : slice_get m.terrain (c.y * m.width + c.x) ≡ None = sym (cond-true _ _ _ within) ∙ none in
    elim (slice_get_cases m.terrain (c.y * m.width + c.x)).1 [
      | inl some ↦ let bad = sym some.2 ∙ found in cc
      | inr past ↦ absurd (omega (arith, past.0, place, is.cells))
    ]

are_on : (m : Grid) (q : Query) → IsMap m → IsQuery q → HasSizeOf m q → AreOn m q.start q.goal
are_on m q is within size =
    let start_column : q.start.x < m.width = omega (arith, within.start_column, size.0) in
    let start_row : q.start.y < m.height = omega (arith, within.start_row, size.1) in
    let goal_column : q.goal.x < m.width = omega (arith, within.goal_column, size.0) in
    let goal_row : q.goal.y < m.height = omega (arith, within.goal_row, size.1) in
    (on_map m q.start is start_column start_row, on_map m q.goal is goal_column goal_row)

pub returns-then-width-clause-on_map : goal.returns-then-width-clause-on_map
returns-then-width-clause-on_map c =
    λ same.
    let height : c.height.result ≡ c.height-then-width.result = eqb-true c.height.result c.height-then-width.result same in
    let size : HasSizeOf c.args.map.now c.args.row.now = (
      omega (arith, c.width.ensures.width, c.width-2.ensures.width, c.if-width.true),
      omega (arith, c.height.ensures.height, c.height-then-width.ensures.height, height),
    ) in
    are_on c.args.map.now c.args.row.now c.width-2.ensures.map c.width.ensures.within size
