-- How a table is tested to be tight: row by row, by blocks of four cells that share a corner.
use Rattle.std.specs.Prelude.{bit_and, ℕ, ◌≡◌, ◌+◌, ◌-◌, ◌<◌, ◌≤◌}
use Rattle.std.specs.Prelude.{Bool, true, false, slice_index, Option, Some, None}
use Rattle.grid.specs.declared.terrain.Terrain.{Terrain}
use Rattle.grid.specs.Terrain.{Class, land, swamp, water, blocked, class_of}
use Rattle.grid.specs.Map.{Grid, terrain_at}
use Rattle.walks.specs.declared.tightness.Corner.{Corner}
use Rattle.walks.specs.declared.tightness.Corners.{Corners}

-- what steps hang on: land and swamp are one ground, since each joins each
pub data Ground : Type 0 where
  open_land open_water no_ground : Ground

abbrev pub ground_of_class : Class → Ground
ground_of_class land = open_land
ground_of_class swamp = open_land
ground_of_class water = open_water
ground_of_class blocked = no_ground

-- off the map there is none
abbrev pub ground_of : Option Terrain → Ground
ground_of None = no_ground
ground_of (Some t) = ground_of_class (class_of t)

abbrev pub is_land : Ground → Bool
is_land open_land = true
is_land _ = false

abbrev pub is_water : Ground → Bool
is_water open_water = true
is_water _ = false

-- a bit for each kind of ground
abbrev pub number_of : Ground → ℕ
number_of open_land = 1
number_of open_water = 2
number_of no_ground = 0

-- what the map and the numbers of a table say of a cell
abbrev pub corner_at : Grid → (ℕ → ℕ → ℕ) → ℕ → ℕ → Corner
corner_at m numbers x y =
    record {
      grounds = number_of (ground_of (terrain_at m (record { x = x; y = y })));
      key = numbers x y;
    }

-- both cells are land, or both are water
abbrev pub AreSame : Corner → Corner → Type 0
AreSame p q = bit_and p.grounds q.grounds ≡ 0 → ⊥

-- neither key is more than the other and a step
abbrev pub AreWithinStep : (step p q : ℕ) → Type 0
AreWithinStep step p q = (p ≤ q + step) × (q ≤ p + step)

-- two cells that share a side
abbrev pub KeepsSide : Corner → Corner → Type 0
KeepsSide p q = AreSame p q → AreWithinStep 6625109 p.key q.key

-- the diagonal steps of four cells that share a corner: upper left and right, lower left and right
abbrev pub KeepsDiagonals : Corner → Corner → Corner → Corner → Type 0
KeepsDiagonals a b c d =
    AreSame a b × AreSame a c × AreSame a d → AreWithinStep 9369319 a.key d.key
    × AreWithinStep 9369319 b.key c.key

-- of four such cells, the steps from the upper left one and the diagonal ones
abbrev pub KeepsBlock : Corner → Corner → Corner → Corner → Type 0
KeepsBlock a b c d = KeepsSide a b × KeepsSide a c × KeepsDiagonals a b c d

-- four cells that share a corner, by the upper left one
abbrev pub KeepsBlockAt : Grid → (ℕ → ℕ → ℕ) → (x y : ℕ) → Type 0
KeepsBlockAt m numbers x y =
    KeepsBlock (corner_at m numbers x y) (corner_at m numbers (x + 1) y)
    (corner_at m numbers x (y + 1)) (corner_at m numbers (x + 1) (y + 1))

-- what a row holds of a column of its strip
abbrev pub corner_in : Corners → ℕ → Corner
corner_in corners i =
    record { grounds = slice_index corners.grounds i; key = slice_index corners.keys i }

-- four cells that share a corner, by the place of the upper left one in two rows one below another
abbrev pub KeepsBlockIn : Corners → Corners → ℕ → Type 0
KeepsBlockIn upper lower i =
    KeepsBlock (corner_in upper i) (corner_in upper (i + 1)) (corner_in lower i)
    (corner_in lower (i + 1))

-- the first so many blocks of two rows
abbrev pub KeepsRows : ℕ → Corners → Corners → Type 0
KeepsRows count upper lower = (i : ℕ) → i < count → KeepsBlockIn upper lower i

-- the columns of a strip, from one to before another
abbrev pub IsStrip : Grid → (left right : ℕ) → Type 0
IsStrip m left right = (left < right) × (right ≤ left + 64) × (right ≤ m.width)

-- The one tells of a cell what the other does. A key tells nothing where no step may enter.
abbrev pub TellsSame : Corner → Corner → Type 0
TellsSame p c = (p.grounds ≡ c.grounds) × ((c.grounds ≡ 0 → ⊥) → p.key ≡ c.key)

-- what the cells of a row say, from one column to another
abbrev pub AreCorners : Grid → (ℕ → ℕ → ℕ) → (left right y : ℕ) → Corners → Type 0
AreCorners m numbers left right y corners =
    (x : ℕ) → left ≤ x → x ≤ right
    → TellsSame (corner_in corners (x - left)) (corner_at m numbers x y)

-- each block whose upper left cell is in a band of rows, and in a column from one to before another
abbrev pub KeepsPatch : Grid → (ℕ → ℕ → ℕ) → (left right top : ℕ) → Type 0
KeepsPatch m numbers left right top =
    (y : ℕ) → top ≤ y → y < top + 64 → y < m.height → (x : ℕ) → left ≤ x → x < right
    → KeepsBlockAt m numbers x y

-- each block whose upper left cell is in a band of rows
abbrev pub KeepsBand : Grid → (ℕ → ℕ → ℕ) → (top : ℕ) → Type 0
KeepsBand m numbers top =
    (y : ℕ) → top ≤ y → y < top + 64 → y < m.height → (x : ℕ) → x < m.width
    → KeepsBlockAt m numbers x y
