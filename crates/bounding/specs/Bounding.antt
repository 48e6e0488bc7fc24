-- What plans cost at least: no less than the least steps of each agent by itself, from its start to
-- its last cell.
use Rattle.std.specs.Prelude.{◌≡◌, ℕ, ◌≤◌, List, [], ◌∷◌, Some, max, sum}
use Rattle.grid.specs.declared.cell.Cell.{Cell}
use Rattle.grid.specs.Map.{Grid}
use Rattle.least_steps.specs.LeastSteps.{IsLeastSteps}
use Rattle.model.specs.Costs.{cost, makespan, sum_of_costs}
use Rattle.model.specs.Plan.{IsTimetableOf, IsValid, Plan}
use Rattle.model.specs.Timetable.{Timetable, Track, cell_at}

-- the cell in which a track ends
abbrev pub last_cell : Track → Cell
last_cell track = cell_at track (cost track)

-- what each agent needs at least by itself, from its start to its last cell
abbrev pub AreBounds : Grid → List Track → List ℕ → Type 0
AreBounds m [] bounds = bounds ≡ []
AreBounds m (track ∷ tracks) bounds =
    (bound : ℕ) × (others : List ℕ) × (bounds ≡ bound ∷ others)
    × IsLeastSteps m track.start (last_cell track) (Some bound) × AreBounds m tracks others

-- each agent, by its number, goes from the same start to the same last cell
abbrev pub HaveSameEnds : List Track → List Track → Type 0
HaveSameEnds [] others = others ≡ []
HaveSameEnds (track ∷ tracks) others =
    (other : Track) × (rest : List Track) × (others ≡ other ∷ rest)
    × (other.start ≡ track.start) × (last_cell other ≡ last_cell track) × HaveSameEnds tracks rest

-- the greatest of the numbers; 0 where there is none
abbrev pub greatest_bound : List ℕ → ℕ
greatest_bound [] = 0
greatest_bound (n ∷ numbers) = max n (greatest_bound numbers)

-- No valid plan on the map whose agents have these ends has a lesser sum of costs than the sum of
-- the bounds, nor a lesser makespan than the greatest of them.
abbrev pub BoundsAll : Grid → List Track → List ℕ → Type 0
BoundsAll m tracks bounds =
    (p : Plan) (tt : Timetable) → IsValid m p → IsTimetableOf p tt → HaveSameEnds tracks tt.tracks
    → (sum bounds ≤ sum_of_costs tt) × (greatest_bound bounds ≤ makespan tt)
