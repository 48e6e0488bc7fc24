-- Blocks of steps: their acts, turned from a row for each agent into a row for each step, and who
-- is under way in them.
use Rattle.std.specs.Prelude.{◌≡◌, ℕ, ◌+◌, ◌<◌, ◌≤◌, ◌⊎◌, List}
use Rattle.std.specs.Prelude.{[], length, get_or, Some, slice_get, true, false}
use Rattle.model.specs.declared.act.Act.{Act}
use Rattle.model.specs.declared.act.Act.TheVariants.{Wait}
use Rattle.model.specs.Plan.{Course}
use Rattle.checker.specs.declared.board.Square.{Square}
use Rattle.checker.specs.declared.crowd.Walker.{Walker}
use Rattle.checker.specs.Code.Walking.{has_act}
use Rattle.checker.specs.Code.Squares.{ground_in, mark_in, square_at}
use Rattle.checker.specs.Code.Crowd.{act_at, walker_at}
use Rattle.checker.specs.Code.UnderWay.{AreActs}
pub use Rattle.checker.specs.Moving.{block_steps, IsStretch}

-- ---- a row for each step

abbrev pub row_of_step : List (List Act) → ℕ → List Act
row_of_step rows s = get_or rows s []

-- a row for each step of a block, with room for so many agents
pub record AreActRows (count : ℕ) (rows : List (List Act)) : Type 0 where
  pub steps : length rows ≡ block_steps
  pub each : (s : ℕ) → s < block_steps → length (row_of_step rows s) ≡ count

-- the acts of so many walkers are turned at once
abbrev pub group_size : ℕ
group_size = 32

-- in each step of the block, the acts of the group from the place on
abbrev pub AreGroupActs : List Course → ℕ → List Walker → ℕ → List (List Act) → Type 0
AreGroupActs courses step group first rows =
    (s k : ℕ) (course : Course) → s < block_steps → k < length group
    → slice_get courses (walker_at group k).agent ≡ Some course
    → act_at (row_of_step rows s) (first + k) ≡ get_or course.acts (step + s) Wait

-- the acts of the walkers in each step from this one on
abbrev pub AreBlockActs : List Course → ℕ → List Walker → List (List Act) → Type 0
AreBlockActs courses step walkers rows =
    (s : ℕ) → s < block_steps → AreActs courses (step + s) walkers (row_of_step rows s)

-- an agent holds the square, and nobody came there lately
pub record IsHeldSquare (square : Square) : Type 0 where
  pub ground : ground_in square ≡ 3
  pub unmarked : mark_in square ≡ 0

-- the walker has no act in the step, and this is its square
abbrev pub HasNoAct : List Course → ℕ → List Walker → ℕ → ℕ → Type 0
HasNoAct courses step walkers k place =
    (has_act courses step (walker_at walkers k).agent ≡ false)
    × ((walker_at walkers k).place ≡ place)

-- the squares of the walkers without an act in the step are held, and the others are as they were
pub record HoldsSquares (courses : List Course) (step : ℕ) (walkers : List Walker)
    (old new : List Square) : Type 0 where
  pub count : length new ≡ length old
  pub held : (k : ℕ) → k < length walkers → has_act courses step (walker_at walkers k).agent ≡ false
      → IsHeldSquare (square_at new (walker_at walkers k).place)
  pub others : (place : ℕ)
      → ((k : ℕ) × (k < length walkers) × HasNoAct courses step walkers k place)
      ⊎ (square_at new place ≡ square_at old place)

-- those of the walkers that have an act in the step, in any order
pub record IsLinedUp (courses : List Course) (step : ℕ) (old new : List Walker) : Type 0 where
  pub each : (k : ℕ) → k < length new
      → (j : ℕ) × (j < length old) × (walker_at new k ≡ walker_at old j)
      × (has_act courses step (walker_at new k).agent ≡ true)
  pub all : (j : ℕ) → j < length old → has_act courses step (walker_at old j).agent ≡ true → (k : ℕ)
      × (k < length new) × (walker_at new k ≡ walker_at old j)
  pub fewer : length new ≤ length old
