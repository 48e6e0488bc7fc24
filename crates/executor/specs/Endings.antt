-- How a runner's run ends, or what blocks it.
use Rattle.std.specs.Prelude.{◌≡◌, ℕ, ◌<◌, List, [], Some, Vec, Result, Ok, Err, slice_get, ⊤}
use Rattle.model.specs.declared.event.Event.{Event}
use Rattle.model.specs.declared.version.Version.{Version}
use Rattle.model.specs.Completion.{HasArrived, IsCompletion, IsUnfinished}
use Rattle.model.specs.History.{History}
use Rattle.model.specs.Timetable.{Track, Timetable, track_of}
use Rattle.depgraph.specs.Rotations.{Turn, AreRotations}
use Rattle.executor.specs.declared.complete_fault.CompleteFault.{CompleteFault}
use Rattle.executor.specs.declared.complete_fault.CompleteFault.TheVariants.{Rotation, OutOfMemory}

-- every agent has finished all its moves, and stands
abbrev pub HaveArrived : Timetable → History → Type 0
HaveArrived tt h = (i : ℕ) (track : Track) → track_of tt i ≡ Some track → HasArrived h i track

-- Of all rotations as they are listed, the one with this number has a move that isn't finished, and
-- none before it has.
pub record IsBlockedBy (tt : Timetable) (h : History) (number : ℕ) : Type 0 where
  pub turns : List Turn
  pub are_all : AreRotations tt turns
  pub turn : Turn
  pub is_turn : slice_get turns number ≡ Some turn
  pub unfinished : IsUnfinished tt h turn.step turn.agents
  pub least : (before : ℕ) (other : Turn) → before < number → slice_get turns before ≡ Some other
      → IsUnfinished tt h other.step other.agents → ⊥

-- the events complete the run; where every agent is at its end already, there is none
pub record IsEndedBy (version : Version) (tt : Timetable) (h : History)
    (events : List Event) : Type 0 where
  pub completes : IsCompletion version tt h events
  pub none_needless : HaveArrived tt h → events ≡ []

-- the events end the run, or the rotation blocks it; want of memory says nothing
abbrev pub IsEnding
    : {A : Type 0} → Version → Timetable → History → Result (Vec Event A) CompleteFault → Type 0
IsEnding version tt h (Ok events) = IsEndedBy version tt h events.items
IsEnding version tt h (Err (Rotation n)) = IsBlockedBy tt h n
IsEnding version tt h (Err OutOfMemory) = ⊤
