-- The squares of a board: the cells of a map, and a rim around them.
use Rattle.std.specs.Prelude.{◌≡◌, ℕ, ◌+◌, ◌*◌, ◌/◌, ◌%◌, ◌<◌, ◌≤◌}
use Rattle.std.specs.Prelude.{◌⊎◌, List, length, get_or, cond, ◌==◌, Some}
use Rattle.grid.specs.declared.cell.Cell.{Cell}
use Rattle.grid.specs.Map.{Grid, terrain_at}
use Rattle.grid.specs.declared.terrain.Terrain.{Terrain}
use Rattle.grid.specs.Terrain.{character_of}
use Rattle.checker.specs.declared.board.Square.{Square}
use Rattle.checker.specs.Code.Standing.{IsOnGrid, place_in}
use Rattle.grid.specs.Code.Joining.{is_land_character}

-- ---- a square

abbrev pub most_marks : ℕ
most_marks = 64

abbrev pub ground_in : Square → ℕ
ground_in s = s.code % 4

abbrev pub mark_in : Square → ℕ
mark_in s = s.code / 4

-- no ground: a square that there isn't is blocked
abbrev pub square_at : List Square → ℕ → Square
square_at squares place = get_or squares place (record { code = 0 })

-- the mark is one of the step whose marks begin with the first
pub record IsOfStep (first mark : ℕ) : Type 0 where
  pub from : first ≤ mark
  pub to : mark < first + 5

-- ---- the ground of a cell: 1 for land and swamp, 2 for water, 0 for what is blocked

abbrev pub ground_by : ℕ → ℕ
ground_by b = cond (b == 87) 2 (cond (is_land_character b) 1 0)

-- a walker may go there: it is land or water, and nobody holds it
abbrev pub IsOpen : ℕ → Type 0
IsOpen ground = (ground ≡ 1) ⊎ (ground ≡ 2)

-- how far it is from a square to the one below it
abbrev pub wide_of : Grid → ℕ
wide_of m = m.width + 2

-- the rim is a row above and one below, and a column on either side
abbrev pub place_on : Grid → Cell → ℕ
place_on m c = c.y * wide_of m + (c.x + (wide_of m + 1))

-- the cell is one of the map, with this ground
pub record HasGround (m : Grid) (c : Cell) (number : ℕ) : Type 0 where
  pub on_map : IsOnGrid m c
  pub terrain : Terrain
  pub has : terrain_at m c ≡ Some terrain
  pub ground : number ≡ ground_by (character_of terrain)

-- the square is that of a cell with its ground
pub record IsSquareOf (m : Grid) (place number : ℕ) : Type 0 where
  pub cell : Cell
  pub at : place ≡ place_on m cell
  pub ground : HasGround m cell number

-- a square to which a walker may go is that of a cell
pub record IsBoard (m : Grid) (squares : List Square) : Type 0 where
  pub size : length squares ≡ (m.height + 2) * wide_of m
  pub cells : (place : ℕ) → IsOpen (ground_in (square_at squares place))
      → IsSquareOf m place (ground_in (square_at squares place))

-- each of the first so many cells, row by row, is told by its square: a cell that is open is not
-- taken for one that is blocked
abbrev pub ShowsCells : Grid → List Square → ℕ → Type 0
ShowsCells m squares count =
    (cell : Cell) (number : ℕ) → place_in m.width cell < count → HasGround m cell number
    → ground_in (square_at squares (place_on m cell)) ≡ number

-- nobody came to any square
abbrev pub AreUnmarked : List Square → Type 0
AreUnmarked squares = (place : ℕ) → mark_in (square_at squares place) ≡ 0

-- a board on which the first so many cells are laid, and nobody is yet
pub record IsLaid (m : Grid) (squares : List Square) (count : ℕ) : Type 0 where
  pub board : IsBoard m squares
  pub cells : ShowsCells m squares count
  pub unmarked : AreUnmarked squares
