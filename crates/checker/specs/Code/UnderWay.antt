-- Which agents of a plan are under way, and where.
use Rattle.std.specs.Prelude.{◌≡◌, ℕ, ◌<◌, ◌≤◌, ◌⊎◌, List, length, get_or, Some, slice_get}
use Rattle.grid.specs.declared.cell.Cell.{Cell}
use Rattle.grid.specs.Map.{Grid}
use Rattle.model.specs.declared.act.Act.{Act}
use Rattle.model.specs.declared.act.Act.TheVariants.{Wait}
use Rattle.model.specs.Plan.{Course, position_of, position_at}
use Rattle.checker.specs.declared.board.Square.{Square}
use Rattle.checker.specs.declared.crowd.Walker.{Walker}
use Rattle.checker.specs.Code.Squares.{ground_in, square_at, place_on, IsOpen, HasGround, IsBoard}
use Rattle.checker.specs.Code.Crowd.{walker_at, act_at}

-- the walker is an agent, in the square of the cell where it stands at the time, on its ground
pub record IsWalker (m : Grid) (courses : List Course) (t : ℕ) (walker : Walker) : Type 0 where
  pub course : Course
  pub is_agent : slice_get courses walker.agent ≡ Some course
  pub cell : Cell
  pub at : position_of cell ≡ position_at course t
  pub place : walker.place ≡ place_on m cell
  pub ground : HasGround m cell walker.ground
  pub may_go : IsOpen walker.ground

abbrev pub AreWalkers : Grid → List Course → ℕ → List Walker → Type 0
AreWalkers m courses t walkers =
    (k : ℕ) → k < length walkers → IsWalker m courses t (walker_at walkers k)

-- the agent's acts are over, and it holds its square
pub record IsAtRest (m : Grid) (course : Course) (t : ℕ) (squares : List Square) : Type 0 where
  pub over : length course.acts ≤ t
  pub cell : Cell
  pub at : position_of cell ≡ position_at course t
  pub held : ground_in (square_at squares (place_on m cell)) ≡ 3

abbrev pub IsAmong : List Walker → ℕ → Type 0
IsAmong walkers i = (k : ℕ) × (k < length walkers) × ((walker_at walkers k).agent ≡ i)

-- each agent is one of the walkers or at rest
pub record AreUnderWay (m : Grid) (courses : List Course) (t : ℕ) (walkers : List Walker)
    (squares : List Square) : Type 0 where
  pub board : IsBoard m squares
  pub walkers_are : AreWalkers m courses t walkers
  pub agents : (i : ℕ) (course : Course) → slice_get courses i ≡ Some course → IsAmong walkers i
      ⊎ IsAtRest m course t squares

-- the acts are those of the walkers in the step, and waits behind their last
abbrev pub AreActs : List Course → ℕ → List Walker → List Act → Type 0
AreActs courses step walkers acts =
    (k : ℕ) (course : Course) → k < length walkers → slice_get courses (walker_at walkers k).agent
    ≡ Some course → act_at acts k ≡ get_or course.acts step Wait

-- each agent is the walker of its number
pub record AreAllAgents (count : ℕ) (walkers : List Walker) : Type 0 where
  pub all : length walkers ≡ count
  pub each : (k : ℕ) → k < count → (walker_at walkers k).agent ≡ k
