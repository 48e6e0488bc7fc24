-- What an agent costs at least, under what is asked of it: it walks by itself, whoever else there
-- is.
use Rattle.std.specs.Prelude.{◌≡◌, ℕ, ◌+◌, ◌≤◌, ◌⊎◌, List, [], ◌∷◌}
use Rattle.grid.specs.declared.cell.Cell.{Cell}
use Rattle.grid.specs.Map.{Grid, IsStraightStep}
use Rattle.model.specs.Costs.{cost}
use Rattle.model.specs.Plan.{IsPassable}
use Rattle.model.specs.Timetable.{Track, cell_at}
use Rattle.optimality.specs.declared.constraint.Constraint.{Constraint}
use Rattle.optimality.specs.declared.constraint.Ends.{Ends}
use Rattle.optimality.specs.Constraints.{MeetsAll}

-- an agent stays, or takes a legal straight step
abbrev pub MayFollow : Grid → Cell → Cell → Type 0
MayFollow m u v = (v ≡ u) ⊎ IsStraightStep m u v

-- the walk goes from the start to the goal on the map, and stays there
pub record IsAgentWalk (m : Grid) (ends : Ends) (track : Track) : Type 0 where
  pub from_start : track.start ≡ ends.start
  pub passable : IsPassable m track.start
  pub steps : (t : ℕ) → MayFollow m (cell_at track t) (cell_at track (t + 1))
  pub to_goal : cell_at track (cost track) ≡ ends.goal

-- no walk that is as it is asked costs less; where there is no such walk, this is so of every
-- number
abbrev pub CostsAtLeast : Grid → Ends → List Constraint → ℕ → Type 0
CostsAtLeast m ends asked n =
    (track : Track) → IsAgentWalk m ends track → MeetsAll asked track → n ≤ cost track

-- and one costs so much
pub record IsLeastCost (m : Grid) (ends : Ends) (asked : List Constraint) (n : ℕ) : Type 0 where
  pub least : CostsAtLeast m ends asked n
  pub track : Track
  pub walker : IsAgentWalk m ends track
  pub meets : MeetsAll asked track
  pub costs : cost track ≡ n

-- the walk along these cells, a cell a time from 0 on
abbrev pub along : List Cell → Track
along [] = record { start = record { x = 0; y = 0 }; later = [] }
along (c ∷ cells) = record { start = c; later = cells }
