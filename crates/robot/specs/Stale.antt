-- When a message shows that the tape of its hearer is an older one: no message can truly say that
-- an agent has finished more moves than its own tape has.
use Rattle.std.specs.Prelude.{◌≡◌, ℕ, nat_lt, Bool, true, false}
use Rattle.std.specs.Prelude.{if◌then◌else◌, List, Option, None, Some}
use Rattle.model.specs.Messages.{told}
use Rattle.model.specs.Timetable.{Timetable}
use Rattle.agent.specs.declared.refusal.HearFault.{HearFault}
use Rattle.agent.specs.States.{State, finished_moves, telling_refusal}
use Rattle.agent.specs.Tellings.{Telling, BytesTell}

-- a number that is told, where nothing refuses what is told, and it is more than this one
abbrev pub more_told : Option HearFault → (done number : ℕ) → Option ℕ
more_told (Some fault) done number = None
more_told None done number = if nat_lt done number then Some number else None

-- how many moves an agent that has finished so many is told to have finished, by what it would
-- take, where those are more
abbrev pub stale_number : Timetable → (i done : ℕ) → Telling → Option ℕ
stale_number tt i done t = more_told (telling_refusal tt t) done (told t.message i)

-- The bytes are a message that the agent would take, of this sender, which says that the agent has
-- finished so many moves, and its tape has fewer.
pub record IsStale (tt : Timetable) (i : ℕ) (s : State) (bytes : List ℕ)
    (sender number : ℕ) : Type 0 where
  pub sound : s.broken ≡ false
  pub telling : Telling
  pub tell : BytesTell bytes telling
  pub is_sender : telling.message.sender ≡ sender
  pub more : stale_number tt i (finished_moves s) telling ≡ Some number

-- no message that the agent would take says so
abbrev pub IsFresh : Timetable → ℕ → State → List ℕ → Type 0
IsFresh tt i s bytes =
    s.broken ≡ false → (t : Telling) → BytesTell bytes t
    → stale_number tt i (finished_moves s) t ≡ None

-- the same where it is heeded
abbrev pub IsHeeded : Bool → Timetable → ℕ → State → List ℕ → Type 0
IsHeeded true tt i s bytes = IsFresh tt i s bytes
IsHeeded false tt i s bytes = Unit {0}
