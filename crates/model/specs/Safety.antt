-- What a safe run is.
use Rattle.std.specs.Prelude.{◌≡◌, ℕ, ◌+◌, ◌<◌, ◌≤◌, ◌==◌, ◌&&◌, ◌⊎◌}
use Rattle.std.specs.Prelude.{if◌then◌else◌, List, [], ◌∷◌, ◌++◌, length, Some, MatchOption}
use Rattle.grid.specs.declared.cell.Cell.{Cell}
use Rattle.model.specs.declared.event.Event.{Event}
use Rattle.model.specs.declared.event.Event.TheVariants.{Start, Restart}
use Rattle.model.specs.declared.held.Held.{Held}
use Rattle.model.specs.declared.held.Held.TheVariants.{At, Between}
use Rattle.model.specs.Timetable.{Track, Timetable, path, track_of}
use Rattle.model.specs.Dependency.{need, IsMet}
use Rattle.model.specs.History.{Answer, moving, between, History, done, is_moving}
use Rattle.model.specs.Rules.{path_cell}

-- what the agent holds: the cell of its path to which it has come, and where it is moving the next
-- one too
abbrev pub held : Track → History → ℕ → Held
held track h i =
    if is_moving h i then Between (path_cell track (done h i)) (path_cell track (done h i + 1)) else
    At (path_cell track (done h i))

abbrev pub IsIn : Cell → Held → Type 0
IsIn c (At u) = u ≡ c
IsIn c (Between u v) = (u ≡ c) ⊎ (v ≡ c)

-- the agent holds the cell
abbrev pub Holds : Timetable → History → ℕ → Cell → Type 0
Holds tt h i c = MatchOption (track_of tt i) ⊥ (λ track. IsIn c (held track h i))

-- the agent is moving from the one cell to the other
abbrev pub IsBetween : Timetable → History → ℕ → Cell → Cell → Type 0
IsBetween tt h i u v = MatchOption (track_of tt i) ⊥ (λ track. held track h i ≡ Between u v)

-- the cells that the agent's drive was told to enter, by an answer or, where that was lost, by that
-- to a restart
abbrev pub walk_after : Event → Answer → ℕ → List Cell → List Cell
walk_after (Start j) (moving c) i walked = if j == i then walked ++ c ∷ [] else walked
walk_after (Restart j) (between u c k) i walked =
    if (j == i) && (length walked == k + 1) then walked ++ c ∷ [] else walked
walk_after _ _ i walked = walked

abbrev pub walk : Track → History → ℕ → List Cell
walk track [] i = track.start ∷ []
walk track (now ∷ h) i = walk_after now.event now.answer i (walk track h i)

-- the one list begins the other
abbrev pub IsBeginningOf : List Cell → List Cell → Type 0
IsBeginningOf front whole = (rest : List Cell) × (whole ≡ front ++ rest)

-- Nobody holds a cell that another holds, no two exchange cells, and each walk is a beginning of
-- its agent's path.
pub record IsSafe (tt : Timetable) (h : History) : Type 0 where
  pub apart : (i j : ℕ) (c : Cell) → Holds tt h i c → Holds tt h j c → i ≡ j
  pub no_exchange : (i j : ℕ) (u v : Cell) → IsBetween tt h i u v → IsBetween tt h j v u → i ≡ j
  pub walks : (i : ℕ) (track : Track) → track_of tt i ≡ Some track
      → IsBeginningOf (walk track h i) (path track)

-- ---- by numbers of moves alone

-- Each agent has begun what it has finished, and each move that it has begun has its need met by
-- what is finished.
pub record HaveNeedsMet (tt : Timetable) (begun finished : ℕ → ℕ) : Type 0 where
  pub order : (i : ℕ) (track : Track) → track_of tt i ≡ Some track → finished i ≤ begun i
  pub met : (i : ℕ) (track : Track) (k : ℕ) → track_of tt i ≡ Some track → k < begun i
      → IsMet finished (need tt i track k)

-- the agent may be in the cell: it is one of its path, from that of the last move that it has
-- finished to that of the last one that it has begun
abbrev pub MayBeIn : Timetable → (begun finished : ℕ → ℕ) → ℕ → Cell → Type 0
MayBeIn tt begun finished i c =
    (track : Track) × (n : ℕ) × (track_of tt i ≡ Some track) × (n < length (path track))
    × (path_cell track n ≡ c) × (finished i ≤ n) × (n ≤ begun i)
