-- When an agent has made so many moves.
use Rattle.std.specs.Prelude.{ℕ, ◌≤◌}
use Rattle.model.specs.Timetable.{Track, moves_before}

-- it is the first time at which the agent has made them
pub record IsEndOf (track : Track) (made time : ℕ) : Type 0 where
  pub has : made ≤ moves_before track time
  pub first : (sooner : ℕ) → made ≤ moves_before track sooner → time ≤ sooner
