-- Where agents may start, and where acts lead.
use Rattle.std.specs.Prelude.{◌≡◌, ◌≢◌, ℕ, ◌+◌, ◌-◌, ◌<◌, List}
use Rattle.std.specs.Prelude.{length, get_or, Option, Some, MatchOption, slice_get}
use Rattle.grid.specs.declared.cell.Cell.{Cell}
use Rattle.grid.specs.Map.{Grid}
use Rattle.model.specs.declared.act.Act.{Act}
use Rattle.model.specs.declared.act.Act.TheVariants.{N, E, S, W, Wait}
use Rattle.model.specs.Plan.{Course, position_of, position_at, moved}
use Rattle.model.specs.Plan.{IsLegal, IsPassable, IsBadMove}

-- the cell is one of the map
pub record IsOnGrid (m : Grid) (c : Cell) : Type 0 where
  pub column : c.x < m.width
  pub row : c.y < m.height

-- the first number of a kind
pub record IsFirst (Kind : ℕ → Type 0) (i : ℕ) : Type 0 where
  pub is_one : Kind i
  pub first : (j : ℕ) → j < i → Kind j → ⊥

abbrev pub ArePassable : Grid → List Course → Type 0
ArePassable m courses =
    (i : ℕ) (course : Course) → slice_get courses i ≡ Some course → IsPassable m course.start

abbrev pub HasBadStart : Grid → List Course → ℕ → Type 0
HasBadStart m courses i =
    MatchOption (slice_get courses i) ⊥ (λ course. IsPassable m course.start → ⊥)

-- at each time the agent is in a cell of the map, and none of its moves is bad
pub record KeepsToGround (m : Grid) (course : Course) : Type 0 where
  pub cells : (t : ℕ) → (c : Cell) × (position_of c ≡ position_at course t) × IsOnGrid m c
  pub good : (step : ℕ) → IsBadMove m course step → ⊥

-- the same of each agent
abbrev pub KeepToGround : Grid → List Course → Type 0
KeepToGround m courses =
    (i : ℕ) (course : Course) → slice_get courses i ≡ Some course → KeepsToGround m course

-- the act leads to a cell of the map, by no step or a legal one
pub record LeadsTo (m : Grid) (from : Cell) (act : Act) (to : Cell) : Type 0 where
  pub place : position_of to ≡ moved act (position_of from)
  pub on_map : IsOnGrid m to
  pub legal : act ≢ Wait → IsLegal m (position_of from) (moved act (position_of from))

-- where the act leads, if it may lead there
abbrev pub IsMoved : Grid → Cell → Act → Option Cell → Type 0
IsMoved m from act answer =
    MatchOption answer ((act ≢ Wait) × (IsLegal m (position_of from) (moved act (position_of from))
    → ⊥)) (LeadsTo m from act)

-- the cell to which an act leads; beyond the west and the north there is none, and anything may
-- stand for it
abbrev pub cell_by : Act → Cell → Cell
cell_by N c = record { x = c.x; y = c.y - 1 }
cell_by E c = record { x = c.x + 1; y = c.y }
cell_by S c = record { x = c.x; y = c.y + 1 }
cell_by W c = record { x = c.x - 1; y = c.y }
cell_by Wait c = c

-- how many steps a block has
abbrev pub block_steps : ℕ
block_steps = 64

-- the acts are those of a block from the step on, with waits behind the last
pub record IsStretch (acts : List Act) (step : ℕ) (stretch : List Act) : Type 0 where
  pub count : length stretch ≡ block_steps
  pub each : (k : ℕ) → k < block_steps → get_or stretch k Wait ≡ get_or acts (step + k) Wait
