-- The track that a path and its times tell.
use Rattle.std.specs.Prelude.{ℕ, ◌-◌, List, [], ◌∷◌, ◌++◌, replicate, take, drop}
use Rattle.grid.specs.declared.cell.Cell.{Cell}
use Rattle.model.specs.Timetable.{Track, Timetable}

-- the cells after a time, of an agent that is in a cell at that time and comes into others at
-- theirs
abbrev pub later_by : Cell → ℕ → List Cell → List ℕ → List Cell
later_by c t [] times = []
later_by c t (d ∷ cells) [] = []
later_by c t (d ∷ cells) (u ∷ times) = replicate (u - t - 1) c ++ d ∷ later_by d u cells times

-- the track of an agent that comes into these cells at these times; the first time is 0
abbrev pub track_by : List Cell → List ℕ → Track
track_by [] times = record { start = record { x = 0; y = 0 }; later = [] }
track_by (c ∷ cells) [] = record { start = c; later = [] }
track_by (c ∷ cells) (t ∷ times) = record { start = c; later = later_by c 0 cells times }

-- the tracks of agents whose paths stand one behind another, the first from a place on, and each up
-- to its end
abbrev pub tracks_from : ℕ → List ℕ → List Cell → List ℕ → List Track
tracks_from begin [] cells times = []
tracks_from begin (end ∷ ends) cells times =
    track_by (take (end - begin) (drop begin cells)) (take (end - begin) (drop begin times))
    ∷ tracks_from end ends cells times

abbrev pub tracks_by : List Cell → List ℕ → List ℕ → List Track
tracks_by cells times ends = tracks_from 0 ends cells times

-- the timetable that a plan's number and paths tell
abbrev pub timetable_by : ℕ → List Cell → List ℕ → List ℕ → Timetable
timetable_by number cells times ends =
    record { number = number; tracks = tracks_by cells times ends }
