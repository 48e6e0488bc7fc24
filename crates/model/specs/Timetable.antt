-- Who stands where and when, by a plan that stays on its map (Stern et al. 2019, "Problem
-- definition": a single-agent plan, and an agent that stays at its target).
use Rattle.std.specs.Prelude.{◌≡◌, ◌≢◌, ℕ, ◌+◌, ◌-◌, ◌&&◌}
use Rattle.std.specs.Prelude.{◌==◌, zero, suc, Bool, if◌then◌else◌, List}
use Rattle.std.specs.Prelude.{[], ◌∷◌, length, Option, MatchOption, slice_get}
use Rattle.grid.specs.declared.cell.Cell.{Cell}

-- an agent's cell at time 0, and at each time after that
pub record Track : Type 0 where
  pub start : Cell
  pub later : List Cell

-- a plan's number, and the track of each agent, agent 0 first
pub record Timetable : Type 0 where
  pub number : ℕ
  pub tracks : List Track

abbrev pub same_cell : Cell → Cell → Bool
same_cell u v = (u.x == v.x) && (u.y == v.y)

-- the cell at a time, of an agent that begins in a cell and goes on to others; it stays in the last
-- for ever
abbrev pub cell_after : Cell → List Cell → ℕ → Cell
cell_after c [] t = c
cell_after c (d ∷ cells) zero = c
cell_after c (d ∷ cells) (suc t) = cell_after d cells t

abbrev pub cell_at : Track → ℕ → Cell
cell_at track t = cell_after track.start track.later t

-- How many moves the agent makes in the steps before a time. Step t leads from time t to time t +
-- 1, and is a move where the two cells differ.
abbrev pub moves_after : Cell → List Cell → ℕ → ℕ
moves_after c [] t = 0
moves_after c (d ∷ cells) zero = 0
moves_after c (d ∷ cells) (suc t) =
    if same_cell c d then moves_after d cells t else moves_after d cells t + 1

abbrev pub moves_before : Track → ℕ → ℕ
moves_before track t = moves_after track.start track.later t

-- how many moves it makes in all
abbrev pub moves : Track → ℕ
moves track = moves_before track (length track.later)

-- the cells one after another, equal neighbours taken for one
abbrev pub collapsed : Cell → List Cell → List Cell
collapsed c [] = c ∷ []
collapsed c (d ∷ cells) = if same_cell c d then collapsed d cells else c ∷ collapsed d cells

-- an agent's path
abbrev pub path : Track → List Cell
path track = collapsed track.start track.later

-- The step of the move with a number, from 0 on; a number past the last move has none, and anything
-- may stand for it.
abbrev pub step_after : Cell → List Cell → ℕ → ℕ
step_after c [] k = 0
step_after c (d ∷ cells) k =
    if same_cell c d then step_after d cells k + 1
    else (if k == 0 then 0 else step_after d cells (k - 1) + 1)

abbrev pub step_of : Track → ℕ → ℕ
step_of track k = step_after track.start track.later k

-- the agent's track, if there is such an agent
abbrev pub track_of : Timetable → ℕ → Option Track
track_of tt i = slice_get tt.tracks i

-- the agent stands in the cell at the time
abbrev pub Stands : Timetable → ℕ → ℕ → Cell → Type 0
Stands tt i t c = MatchOption (track_of tt i) ⊥ (λ track. cell_at track t ≡ c)

-- no two agents are ever in one cell (Stern et al. 2019, "Vertex conflict")
abbrev pub IsConflictFree : Timetable → Type 0
IsConflictFree tt = (i j t : ℕ) (c : Cell) → Stands tt i t c → Stands tt j t c → i ≡ j

-- no two agents ever exchange cells in a step (Stern et al. 2019, "Swapping conflict")
abbrev pub IsSwapFree : Timetable → Type 0
IsSwapFree tt =
    (i j t : ℕ) (u v : Cell) → u ≢ v → Stands tt i t u → Stands tt i (t + 1) v → Stands tt j t v
    → Stands tt j (t + 1) u → ⊥
