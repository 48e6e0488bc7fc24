-- What a whole fleet did: agents that each run by themselves, over tapes that were empty at first.
use Rattle.std.specs.Prelude.{◌≡◌, ℕ, ◌^◌, ◌<◌, ◌==◌, false, if◌then◌else◌, List}
use Rattle.std.specs.Prelude.{[], ◌∷◌, ◌++◌, length, None, Some, Ok, slice_get}
use Rattle.model.specs.declared.version.Version.{Version}
use Rattle.model.specs.declared.version.Version.TheVariants.{One, Two}
use Rattle.model.specs.Timetable.{Track, Timetable, moves, track_of}
use Rattle.agent.specs.States.{State}
use Rattle.fleet.specs.Deeds.{Deed, says, tells, hears, DoesAll}

-- a deed, and whose it is
pub record Logged : Type 0 where
  pub agent : ℕ
  pub deed : Deed

-- the newest first
abbrev pub Log : Type 0
Log = List Logged

-- what one agent did, in order
abbrev pub deeds_of : Log → ℕ → List Deed
deeds_of [] i = []
deeds_of (now ∷ log) i = if now.agent == i then deeds_of log i ++ now.deed ∷ [] else deeds_of log i

-- an empty tape, and nothing heard
abbrev pub fresh : State
fresh = record { records = 0; heard = []; broken = false }

-- ---- messages

abbrev pub bytes_of : Deed → List (List ℕ)
bytes_of (says (Ok bytes)) = bytes ∷ []
bytes_of (tells (Ok bytes)) = bytes ∷ []
bytes_of _ = []

-- the messages that were said, as bytes, in order
abbrev pub spoken : Log → List (List ℕ)
spoken [] = []
spoken (now ∷ log) = spoken log ++ bytes_of now.deed

-- An agent hears only what somebody said before: once, often or never, and in any order. What it
-- refuses may come from anywhere.
abbrev pub IsHonest : List (List ℕ) → Deed → Type 0
IsHonest before (hears bytes (Ok answer)) = (m : ℕ) × (slice_get before m ≡ Some bytes)
IsHonest before _ = Unit {0}

-- each deed of the log is so, beside the messages that were said before it
abbrev pub AreAll : (List (List ℕ) → Deed → Type 0) → Log → Type 0
AreAll Is [] = Unit {0}
AreAll Is (now ∷ log) = Is (spoken log) now.deed × AreAll Is log

-- ---- the fleet

-- A fleet did this, and its agents are in these states: what each of them did leads it there from
-- an empty tape, and nothing was heard that was not said. Each message is of either version.
pub record IsFleet (tt : Timetable) (log : Log) (states : ℕ → State) : Type 0 where
  pub own : (i : ℕ) (track : Track) → track_of tt i ≡ Some track
      → DoesAll tt i track fresh (deeds_of log i) (states i)
  pub nobody_else : (i : ℕ) → track_of tt i ≡ None → deeds_of log i ≡ []
  pub honest : AreAll IsHonest log

-- the states but for that of one agent
abbrev pub with_state : (ℕ → State) → ℕ → State → ℕ → State
with_state states i s k = if i == k then s else states k

-- messages are of the one version alone
abbrev pub IsOfVersion : Version → List (List ℕ) → Deed → Type 0
IsOfVersion version before (says answer) = version ≡ One
IsOfVersion version before (tells answer) = version ≡ Two
IsOfVersion version before _ = Unit {0}

-- the numbers of its messages are such as their bytes can spell: those of every plan that the
-- checker accepts are
pub record IsTellable (tt : Timetable) : Type 0 where
  pub number : tt.number < 2 ^ 32
  pub agents : length tt.tracks < 2 ^ 16
  pub each_moves : (i : ℕ) (track : Track) → track_of tt i ≡ Some track → moves track < 2 ^ 32
