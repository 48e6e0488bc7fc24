-- When a fleet is safe, by what its agents themselves hold and answer.
use Rattle.std.specs.Prelude.{◌≡◌, ℕ, ◌+◌, ◌==◌, if◌then◌else◌, List, []}
use Rattle.std.specs.Prelude.{◌∷◌, ◌++◌, length, Some, Ok, MatchOption}
use Rattle.grid.specs.declared.cell.Cell.{Cell}
use Rattle.model.specs.declared.held.Held.TheVariants.{Between}
use Rattle.model.specs.Safety.{IsIn, IsBeginningOf}
use Rattle.model.specs.Timetable.{Track, Timetable, path, track_of}
use Rattle.agent.specs.States.{State, held_by_tape}
use Rattle.fleet.specs.Deeds.{Deed, opens, starts}
use Rattle.fleet.specs.Fleets.{Log, deeds_of}

-- the agent holds the cell: where it is moving it holds both its cells
abbrev pub HoldsBy : Timetable → (ℕ → State) → ℕ → Cell → Type 0
HoldsBy tt states i c =
    MatchOption (track_of tt i) ⊥ (λ track. IsIn c (held_by_tape track (states i)))

-- the agent is moving from the one cell to the other
abbrev pub IsMovingBy : Timetable → (ℕ → State) → ℕ → Cell → Cell → Type 0
IsMovingBy tt states i u v =
    MatchOption (track_of tt i) ⊥ (λ track. held_by_tape track (states i) ≡ Between u v)

-- the cells that its drive was told to enter, by the answer to a start or, where that was lost, by
-- what was found when the tape was opened
abbrev pub walked_on : Deed → List Cell → List Cell
walked_on (starts (Ok c)) cells = cells ++ c ∷ []
walked_on (opens (Between u c) count) cells =
    if length cells == count + 1 then cells ++ c ∷ [] else cells
walked_on _ cells = cells

abbrev pub walked_through : List Deed → List Cell → List Cell
walked_through [] cells = cells
walked_through (deed ∷ deeds) cells = walked_through deeds (walked_on deed cells)

abbrev pub walked : Track → List Deed → List Cell
walked track deeds = walked_through deeds (track.start ∷ [])

-- No two agents hold a common cell, no two exchange cells, and each walk is a beginning of its
-- agent's path.
pub record IsFleetSafe (tt : Timetable) (log : Log) (states : ℕ → State) : Type 0 where
  pub apart : (i j : ℕ) (c : Cell) → HoldsBy tt states i c → HoldsBy tt states j c → i ≡ j
  pub no_exchange
      : (i j : ℕ) (u v : Cell) → IsMovingBy tt states i u v → IsMovingBy tt states j v u → i ≡ j
  pub walks : (i : ℕ) (track : Track) → track_of tt i ≡ Some track
      → IsBeginningOf (walked track (deeds_of log i)) (path track)
