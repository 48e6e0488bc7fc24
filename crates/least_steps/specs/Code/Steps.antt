-- The eight steps by their numbers: to the north, the west, the east and the south, and the
-- diagonal ones to the northwest, the northeast, the southwest and the southeast. A set of steps is
-- a byte, with a bit for each.
use Rattle.std.specs.Prelude.{◌≡◌, ◌==◌, ℕ, ◌+◌, ◌-◌, ◌*◌, ◌<◌}
use Rattle.std.specs.Prelude.{◌↔◌, Bool, true, IsTrue, if◌then◌else◌, nat_lt}
use Rattle.std.specs.Int.{bit_at}
use Rattle.std.specs.Int.Bits.{bit_and, bit_or}
use Rattle.grid.specs.declared.cell.Cell.{Cell}
use Rattle.grid.specs.Map.{Grid, IsStraightStep}
use Rattle.least_steps.specs.Code.Reaching.{IsMove}

-- where a step leads from a cell
abbrev pub cell_behind : ℕ → Cell → Cell
cell_behind n c =
    if n == 0 then record { x = c.x; y = c.y - 1 }
    else if n == 1 then record { x = c.x - 1; y = c.y }
    else if n == 2 then record { x = c.x + 1; y = c.y }
    else if n == 3 then record { x = c.x; y = c.y + 1 }
    else if n == 4 then record { x = c.x - 1; y = c.y - 1 }
    else if n == 5 then record { x = c.x + 1; y = c.y - 1 }
    else if n == 6 then record { x = c.x - 1; y = c.y + 1 }
    else record { x = c.x + 1; y = c.y + 1 }

-- by how much it changes a column and a row, where sums wrap
pub record Lead : Type 0 where
  pub column : ℕ
  pub row : ℕ

abbrev pub lead : ℕ → Lead
lead n =
    if n == 0 then record { column = 0; row = 65535 }
    else if n == 1 then record { column = 65535; row = 0 }
    else if n == 2 then record { column = 1; row = 0 }
    else if n == 3 then record { column = 0; row = 1 }
    else if n == 4 then record { column = 65535; row = 65535 }
    else if n == 5 then record { column = 1; row = 65535 }
    else if n == 6 then record { column = 65535; row = 1 }
    else record { column = 1; row = 1 }

-- the number of a step, which is not its place in this order
abbrev pub weight : ℕ → ℕ
weight step = if nat_lt step 4 then 6625109 else 9369319

-- it is legal
abbrev pub IsLegalStep : Grid → Cell → ℕ → Type 0
IsLegalStep m c step = IsMove m true c (cell_behind step c) (weight step)

-- the set has it
abbrev pub HasStep : ℕ → ℕ → Type 0
HasStep steps step = bit_at steps step ≡ 1

-- the set of those that are legal
abbrev pub AreLegal : Grid → Cell → ℕ → Type 0
AreLegal m c steps = (step : ℕ) → step < 8 → HasStep steps step ↔ IsLegalStep m c step

-- the set of these of four steps
abbrev pub set_with : Bool → Bool → Bool → Bool → ℕ
set_with a b c d =
    (if a then 1 else 0) + 2 * (if b then 1 else 0) + 4 * (if c then 1 else 0) + 8
    * (if d then 1 else 0)

-- the test says whether a straight step leads into the column of the other cell, in the row of the
-- first
abbrev pub IsAlongRow : Grid → Cell → Cell → Bool → Type 0
IsAlongRow m u v b = IsTrue b ↔ IsStraightStep m u (record { x = v.x; y = u.y })

-- and into its row, in the column of the first
abbrev pub IsAlongColumn : Grid → Cell → Cell → Bool → Type 0
IsAlongColumn m u v b = IsTrue b ↔ IsStraightStep m u (record { x = u.x; y = v.y })

-- ---- which steps go on behind one

-- those that always do, and to each side the steps that do so only where a third one is not legal
pub record StepTurn : Type 0 where
  pub always : ℕ
  pub first_unless : ℕ
  pub first : ℕ
  pub second_unless : ℕ
  pub second : ℕ

abbrev pub turn_behind : ℕ → StepTurn
turn_behind n =
    if n == 0 then record {
      always = 1;
      first_unless = 64;
      first = 18;
      second_unless = 128;
      second = 36;
    }
    else if n == 1 then record {
      always = 2;
      first_unless = 32;
      first = 17;
      second_unless = 128;
      second = 72;
    }
    else if n == 2 then record {
      always = 4;
      first_unless = 16;
      first = 33;
      second_unless = 64;
      second = 136;
    }
    else if n == 3 then record {
      always = 8;
      first_unless = 16;
      first = 66;
      second_unless = 32;
      second = 132;
    }
    else if n == 4 then record {
      always = 19;
      first_unless = 0;
      first = 0;
      second_unless = 0;
      second = 0;
    }
    else if n == 5 then record {
      always = 37;
      first_unless = 0;
      first = 0;
      second_unless = 0;
      second = 0;
    }
    else if n == 6 then record {
      always = 74;
      first_unless = 0;
      first = 0;
      second_unless = 0;
      second = 0;
    }
    else if n == 7 then record {
      always = 140;
      first_unless = 0;
      first = 0;
      second_unless = 0;
      second = 0;
    }
    else record { always = 255; first_unless = 0; first = 0; second_unless = 0; second = 0 }

abbrev pub side_of : ℕ → ℕ → ℕ → ℕ
side_of legal unless side = if bit_and legal unless == 0 then side else 0

-- of the legal steps those that go on behind a step; behind 8, which is none, all do
abbrev pub onward_of : ℕ → ℕ → ℕ
onward_of by legal =
    let t = turn_behind by in
    bit_and legal (bit_or (bit_or t.always (side_of legal t.first_unless t.first))
    (side_of legal t.second_unless t.second))

-- the straight ones that don't lead back
abbrev pub not_back : ℕ → ℕ
not_back n =
    if n == 0 then 7
    else if n == 1 then 11
    else if n == 2 then 13
    else if n == 3 then 14
    else 15
