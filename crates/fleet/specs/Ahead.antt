-- Where the drives of a fleet may be that go ahead of their agents' tapes.
use Rattle.std.specs.Prelude.{◌≡◌, ℕ, ◌+◌, ◌<◌, ◌==◌, ◌&&◌, ◌||◌, Bool, true, false}
use Rattle.std.specs.Prelude.{List, [], ◌∷◌, Some, max}
use Rattle.grid.specs.declared.cell.Cell.{Cell}
use Rattle.model.specs.Safety.{MayBeIn}
use Rattle.model.specs.Timetable.{Track, Timetable, track_of}
use Rattle.agent.specs.States.{State, finished_moves, begun_moves}
use Rattle.fleet.specs.Deeds.{Deed, looks, stops}
use Rattle.fleet.specs.Fleets.{Log, deeds_of}
use Rattle.fleet.specs.OwnPlans.{DoneBy, Doings, SharesMoves}

abbrev pub is_stop : Deed → Bool
is_stop stops = true
is_stop _ = false

-- how many moves a drive may have begun by what a deed tells of its free way
abbrev pub told_free : Deed → ℕ
told_free (looks begun most count) = begun + count
told_free _ = 0

-- the same by a deed behind others: what was told before holds no longer once the drive stops
abbrev pub free_behind : ℕ → Deed → ℕ
free_behind free stops = 0
free_behind free deed = max free (told_free deed)

abbrev pub free_after : ℕ → List Deed → ℕ
free_after free [] = free
free_after free (deed ∷ deeds) = free_after (free_behind free deed) deeds

-- by all that was told of it since it stopped last
abbrev pub most_free : List Deed → ℕ
most_free deeds = free_after 0 deeds

-- how many moves each drive may have begun, of which the tape has a record or not
abbrev pub reach : Log → (ℕ → State) → ℕ → ℕ
reach log states i = max (begun_moves (states i)) (most_free (deeds_of log i))

-- No two drives are in one cell, wherever each is on its agent's path, from the last move that is
-- finished by the tape to the furthest that it may have begun.
abbrev pub IsSafeAhead : Timetable → Log → (ℕ → State) → Type 0
IsSafeAhead tt log states =
    (i j : ℕ) (c : Cell) → MayBeIn tt (reach log states) (λ k. finished_moves (states k)) i c
    → MayBeIn tt (reach log states) (λ k. finished_moves (states k)) j c → i ≡ j

-- each move that was told to be free was so by a timetable in which everybody is, up to the end of
-- that move, where the last one has them
abbrev pub LooksWithin : Timetable → DoneBy → Type 0
LooksWithin last now =
    (k : ℕ) (track : Track) → k < told_free now.deed → track_of now.by now.agent ≡ Some track
    → SharesMoves last now.by now.agent track (k + 1)

-- the drive of the agent stopped among these
abbrev pub has_stopped : Doings → ℕ → Bool
has_stopped [] i = false
has_stopped (now ∷ doings) i = (now.agent == i && is_stop now.deed) || has_stopped doings i

-- the same of each move that was told to be free and whose drive did not stop since, where these
-- came behind
abbrev pub AreLooksWithin : Timetable → Doings → Doings → Type 0
AreLooksWithin last since [] = Unit {0}
AreLooksWithin last since (now ∷ doings) =
    (has_stopped since now.agent ≡ false → LooksWithin last now)
    × AreLooksWithin last (now ∷ since) doings

-- every drive has stopped since it was told last that its way is free
abbrev pub HaveStopped : Log → Type 0
HaveStopped log = (i : ℕ) → most_free (deeds_of log i) ≡ 0
