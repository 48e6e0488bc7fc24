-- What was found for one agent.
use Rattle.std.specs.Prelude.{◌≡◌, ℕ, List, Some, slice_get}
use Rattle.grid.specs.Map.{Grid}
use Rattle.least_steps.specs.LeastSteps.{IsLeastSteps}
use Rattle.model.specs.Timetable.{Track}
use Rattle.bounding.specs.Bounding.{last_cell}

-- what the agent with the number needs at least by itself
abbrev pub IsBoundAt : Grid → List Track → ℕ → ℕ → Type 0
IsBoundAt m tracks i b =
    (track : Track) × (slice_get tracks i ≡ Some track)
    × IsLeastSteps m track.start (last_cell track) (Some b)
