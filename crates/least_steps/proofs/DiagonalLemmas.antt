-- Diagonal steps, by the straight ones beside them.
use Rattle.std.proofs.Common.{ℕ, Some, None, inl, inr, arith, refl, sym}
use Rattle.std.specs.Prelude.{IsTrue, Option}
use Rattle.std.proofs.lemmas.Bool.{false≢true}
use Rattle.grid.specs.declared.cell.Cell.{Cell}
use Rattle.grid.specs.declared.terrain.Terrain.{Terrain}
use Rattle.grid.specs.Terrain.{Class, blocked, class_of, joins, land, swamp, water}
use Rattle.grid.specs.Map.{AreJoined, AreNext, Grid, IsDiagonalStep, IsStraightStep, ShareSide, terrain_at}

class_on : (a b c : Class) → IsTrue (joins a b) → IsTrue (joins a c) → IsTrue (joins b c)
class_on land land land h k = k
class_on land land swamp h k = k
class_on land land water h k = absurd (false≢true k)
class_on land land blocked h k = absurd (false≢true k)
class_on land swamp land h k = k
class_on land swamp swamp h k = k
class_on land swamp water h k = absurd (false≢true k)
class_on land swamp blocked h k = absurd (false≢true k)
class_on land water c h k = absurd (false≢true h)
class_on land blocked c h k = absurd (false≢true h)
class_on swamp land land h k = k
class_on swamp land swamp h k = k
class_on swamp land water h k = absurd (false≢true k)
class_on swamp land blocked h k = absurd (false≢true k)
class_on swamp swamp land h k = k
class_on swamp swamp swamp h k = k
class_on swamp swamp water h k = absurd (false≢true k)
class_on swamp swamp blocked h k = absurd (false≢true k)
class_on swamp water c h k = absurd (false≢true h)
class_on swamp blocked c h k = absurd (false≢true h)
class_on water land c h k = absurd (false≢true h)
class_on water swamp c h k = absurd (false≢true h)
class_on water water c h k = k
class_on water blocked c h k = absurd (false≢true h)
class_on blocked b c h k = absurd (false≢true h)

-- two that one joins join each other
joined_on : (a b c : Option Terrain) → AreJoined a b → AreJoined a c → AreJoined b c
joined_on None b c h k = absurd h
joined_on (Some a) None c h k = absurd h
joined_on (Some a) (Some b) None h k = absurd k
joined_on (Some a) (Some b) (Some c) h k = class_on (class_of a) (class_of b) (class_of c) h k

not_next : (a : ℕ) → AreNext a a → ⊥
not_next a (inl e) = omega (arith, e)
not_next a (inr e) = omega (arith, e)

in_column : (x y z : ℕ) → ShareSide (record { x = x; y = y }) (record { x = x; y = z }) → AreNext y z
in_column x y z (inl h) = h.1
in_column x y z (inr h) = absurd (not_next x h.1)

in_row : (x y z : ℕ) → ShareSide (record { x = x; y = y }) (record { x = z; y = y }) → AreNext x z
in_row x y z (inl h) = absurd (not_next y h.1)
in_row x y z (inr h) = h.1

pub aslant_step : (m : Grid) (u v : Cell) → IsStraightStep m u (record { x = v.x; y = u.y }) → IsStraightStep m u (record { x = u.x; y = v.y })
    → AreJoined (terrain_at m u) (terrain_at m v) → IsDiagonalStep m u v
aslant_step m u v row column corner =
    let columns = in_row u.x u.y v.x row.side in
    let rows = in_column u.x u.y v.y column.side in
    record {
      columns = columns;
      rows = rows;
      first = column;
      first_on = record { side = inr (refl, columns); joined = joined_on (terrain_at m u) (terrain_at m (record { x = u.x; y = v.y })) (terrain_at m v) column.joined corner };
      second = row;
      second_on = record { side = inl (refl, rows); joined = joined_on (terrain_at m u) (terrain_at m (record { x = v.x; y = u.y })) (terrain_at m v) row.joined corner };
    }

-- joined are joined in turn

class_turned : (a b : Class) → IsTrue (joins a b) → IsTrue (joins b a)
class_turned land land h = h
class_turned land swamp h = h
class_turned land water h = absurd (false≢true h)
class_turned land blocked h = absurd (false≢true h)
class_turned swamp land h = h
class_turned swamp swamp h = h
class_turned swamp water h = absurd (false≢true h)
class_turned swamp blocked h = absurd (false≢true h)
class_turned water land h = absurd (false≢true h)
class_turned water swamp h = absurd (false≢true h)
class_turned water water h = h
class_turned water blocked h = absurd (false≢true h)
class_turned blocked b h = absurd (false≢true h)

turned : (a b : Option Terrain) → AreJoined a b → AreJoined b a
turned None b h = absurd h
turned (Some a) None h = absurd h
turned (Some a) (Some b) h = class_turned (class_of a) (class_of b) h

-- what a diagonal step tells of the corner
pub corner_joined : (m : Grid) (u v : Cell) → IsDiagonalStep m u v → AreJoined (terrain_at m u) (terrain_at m v)
corner_joined m u v step =
    let w : Cell = record { x = u.x; y = v.y } in
    joined_on (terrain_at m w) (terrain_at m u) (terrain_at m v) (turned (terrain_at m u) (terrain_at m w) step.first.joined) step.first_on.joined

next_turned : (a b : ℕ) → AreNext a b → AreNext b a
next_turned a b (inl e) = inr e
next_turned a b (inr e) = inl e

side_turned : (u v : Cell) → ShareSide u v → ShareSide v u
side_turned u v (inl h) = inl (sym h.0, next_turned u.y v.y h.1)
side_turned u v (inr h) = inr (sym h.0, next_turned u.x v.x h.1)

-- a straight step leads back
pub back : (m : Grid) (u v : Cell) → IsStraightStep m u v → IsStraightStep m v u
back m u v step = record { side = side_turned u v step.side; joined = turned (terrain_at m u) (terrain_at m v) step.joined }

-- round four cells: where a diagonal step leads from one of them past the next, one leads from that past the first
pub across_row : (m : Grid) (u c : Cell) → IsDiagonalStep m u c → IsDiagonalStep m (record { x = c.x; y = u.y }) (record { x = u.x; y = c.y })
across_row m u c step = record {
  columns = next_turned u.x c.x step.columns;
  rows = step.rows;
  first = step.second_on;
  first_on = back m (record { x = u.x; y = c.y }) c step.first_on;
  second = back m u (record { x = c.x; y = u.y }) step.second;
  second_on = step.first;
}

pub across_column : (m : Grid) (u c : Cell) → IsDiagonalStep m u c → IsDiagonalStep m (record { x = u.x; y = c.y }) (record { x = c.x; y = u.y })
across_column m u c step = record {
  columns = step.columns;
  rows = next_turned u.y c.y step.rows;
  first = back m u (record { x = u.x; y = c.y }) step.first;
  first_on = step.second;
  second = step.first_on;
  second_on = back m (record { x = c.x; y = u.y }) c step.second_on;
}
