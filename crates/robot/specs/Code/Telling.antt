-- What a message tells its hearer of the hearer's own moves.
use Rattle.std.specs.Prelude.{◌≡◌, ℕ, nat_lt, if◌then◌else◌, List, Option, None, Some}
use Rattle.model.specs.Messages.{own_message, told}
use Rattle.model.specs.Timetable.{Timetable}
use Rattle.agent.specs.declared.finished.Finished.{Finished}
use Rattle.agent.specs.declared.refusal.HearFault.{HearFault}
use Rattle.agent.specs.States.{telling_refusal}
use Rattle.agent.specs.Tellings.{Telling, BytesTell}
use Rattle.robot.specs.Stale.{stale_number}
use Rattle.robot.specs.declared.stale.StaleWord.{StaleWord}

-- a number, where nothing refuses it
abbrev pub unless_refused : Option HearFault → ℕ → Option ℕ
unless_refused (Some fault) number = None
unless_refused None number = Some number

-- how many moves of an agent are told by what it would take
abbrev pub number_taken : Timetable → ℕ → Telling → Option ℕ
number_taken tt i t = unless_refused (telling_refusal tt t) (told t.message i)

-- a number that is more than this one
abbrev pub if_more : ℕ → Option ℕ → Option ℕ
if_more done None = None
if_more done (Some number) = if nat_lt done number then Some number else None

-- what a sender says of its hearer
abbrev pub stale_word_of : ℕ → ℕ → StaleWord
stale_word_of sender number = record { sender = sender; number = number }

-- what a message of version 1 tells
abbrev pub telling_one : Finished → Telling
telling_one f = record { plan = f.plan; message = own_message f.from f.done }

-- the bytes say more of the agent than it has finished
abbrev pub IsMoreIn : Timetable → (i done : ℕ) → List ℕ → StaleWord → Type 0
IsMoreIn tt i done bytes w =
    (t : Telling) × BytesTell bytes t × (t.message.sender ≡ w.sender)
    × (stale_number tt i done t ≡ Some w.number)

-- or no more
abbrev pub IsNoMoreIn : Timetable → (i done : ℕ) → List ℕ → Type 0
IsNoMoreIn tt i done bytes = (t : Telling) → BytesTell bytes t → stale_number tt i done t ≡ None
