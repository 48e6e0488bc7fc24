-- The slots by which each state is closed once.
use Rattle.std.specs.Prelude.{◌≡◌, ℕ, ◌≤◌, List, Some, slice_get}
use Rattle.least_costs.specs.declared.states.Slot.{Slot}
use Rattle.least_costs.specs.declared.states.State.{State}
use Rattle.least_costs.specs.Code.States.{HasState}

-- no turn is past the one at hand, and where a slot has that one, a state is in its cell at its
-- time
pub record AreSlots (turn : ℕ) (slots : List Slot) (states : List State) : Type 0 where
  pub most : (k : ℕ) (s : Slot) → slice_get slots k ≡ Some s → s.turn ≤ turn
  pub held : (k : ℕ) (s : Slot) → slice_get slots k ≡ Some s → s.turn ≡ turn
      → HasState states s.cell s.time
