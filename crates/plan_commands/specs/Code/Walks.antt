-- Agents on their way, with their acts in blocks of steps.
use Rattle.std.specs.Prelude.{◌≡◌, ℕ, ◌-◌, ◌%◌, ◌<◌, List, [], length, get_or}
use Rattle.grid.specs.declared.cell.Cell.{Cell}
use Rattle.model.specs.declared.act.Act.{Act}
use Rattle.model.specs.declared.act.Act.TheVariants.{Wait}
use Rattle.model.specs.Plan.{Course}
use Rattle.checker.specs.Moving.{block_steps, IsStretch}

-- the cell is one that a map may have
pub record IsCellInRange (c : Cell) : Type 0 where
  pub column : c.x < 65536
  pub row : c.y < 65536

-- the acts of the agent with the course; past the last, anything may stand for them
abbrev pub acts_of_agent : List Course → ℕ → List Act
acts_of_agent courses i =
    (get_or courses i (record { start = record { x = 0; y = 0 }; acts = [] })).acts

-- the act of an agent in a step of its block
abbrev pub act_in : List (List Act) → ℕ → ℕ → Act
act_in stretches i step = get_or (get_or stretches i []) step Wait

-- each agent's acts in the block from the step on
pub record AreStretches (courses : List Course) (step : ℕ)
    (stretches : List (List Act)) : Type 0 where
  pub count : length stretches ≡ length courses
  pub each : (i : ℕ) → i < length courses
      → IsStretch (acts_of_agent courses i) step (get_or stretches i [])

-- the first step of the block that a step is in
abbrev pub begun : ℕ → ℕ
begun step = step - step % block_steps
