-- Where walks may be at a time.
use Rattle.std.specs.Prelude.{◌≡◌, ℕ, List, Some, slice_get}
use Rattle.grid.specs.declared.cell.Cell.{Cell}
use Rattle.least_costs.specs.declared.states.State.{State}

-- a state is in the cell at the time
abbrev pub HasState : List State → Cell → ℕ → Type 0
HasState states c t =
    (k : ℕ) × (s : State) × (slice_get states k ≡ Some s) × (s.cell ≡ c) × (s.time ≡ t)
