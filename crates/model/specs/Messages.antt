-- Messages: a sender, and of some agents how many moves they have finished.
use Rattle.std.specs.Prelude.{◌≡◌, ℕ, ◌+◌, ◌/◌, ◌%◌, ◌<◌, ◌≤◌, ◌==◌, zero}
use Rattle.std.specs.Prelude.{suc, if◌then◌else◌, List, [], ◌∷◌, ◌++◌, length, max, flat_map}
use Rattle.model.specs.declared.entry.Entry.{Entry}
use Rattle.model.specs.declared.version.Version.{Version}
use Rattle.model.specs.declared.version.Version.TheVariants.{One, Two}

pub record Message : Type 0 where
  pub sender : ℕ
  pub entries : List Entry

-- the greatest number that the entries tell of an agent
abbrev pub told_by : List Entry → ℕ → ℕ
told_by [] j = 0
told_by (entry ∷ entries) j =
    if entry.agent == j then max entry.done (told_by entries j) else told_by entries j

abbrev pub told : Message → ℕ → ℕ
told message j = told_by message.entries j

-- what an agent says of itself
abbrev pub own_message : ℕ → ℕ → Message
own_message i done = record { sender = i; entries = record { agent = i; done = done } ∷ [] }

-- ---- all that an agent knows

-- of so many agents from one on, those with a number above 0, in order
abbrev pub entries_from : (ℕ → ℕ) → (first count : ℕ) → List Entry
entries_from number first zero = []
entries_from number first (suc count) =
    if number first == 0 then entries_from number (first + 1) count
    else record { agent = first; done = number first } ∷ entries_from number (first + 1) count

-- what an agent tells of each: of itself how many moves it has finished, never what it heard of
-- itself, and of another what it knows
abbrev pub number_told : (i done : ℕ) → (ℕ → ℕ) → ℕ → ℕ
number_told i done known j = if j == i then done else known j

-- what an agent says of itself and of all others, where there are so many agents
abbrev pub whole_message : (agents i done : ℕ) → (ℕ → ℕ) → Message
whole_message agents i done known =
    record { sender = i; entries = entries_from (number_told i done known) 0 agents }

-- what an agent says, by the version of its messages
abbrev pub message_said : Version → (agents i done : ℕ) → (ℕ → ℕ) → Message
message_said One agents i done known = own_message i done
message_said Two agents i done known = whole_message agents i done known

-- ---- the bytes of messages

-- so many bytes of a number, the first the highest
abbrev pub big_endian : ℕ → ℕ → List ℕ
big_endian zero n = []
big_endian (suc count) n = big_endian count (n / 256) ++ (n % 256) ∷ []

-- The twelve bytes that say, under a plan's number, how many moves an agent has finished: the byte
-- 0x46, the version, and the numbers of the agent, the plan and the moves.
abbrev pub message_bytes : (plan agent done : ℕ) → List ℕ
message_bytes plan agent done =
    0x46 ∷ 1 ∷ (big_endian 2 agent ++ big_endian 4 plan ++ big_endian 4 done)

-- the bytes spell the message
pub record IsMessage (plan agent done : ℕ) (bytes : List ℕ) : Type 0 where
  pub spelled : bytes ≡ message_bytes plan agent done

-- the six bytes of an entry: the numbers of the agent and of its moves
abbrev pub entry_bytes : Entry → List ℕ
entry_bytes entry = big_endian 2 entry.agent ++ big_endian 4 entry.done

-- The bytes of a message of version 2, under a plan's number: the byte 0x46, the version, the
-- numbers of the sender and the plan, how many entries there are, and the entries.
abbrev pub told_bytes : (plan : ℕ) → Message → List ℕ
told_bytes plan message =
    0x46 ∷ 2 ∷ (big_endian 2 message.sender ++ big_endian 4 plan
    ++ big_endian 2 (length message.entries) ++ flat_map entry_bytes message.entries)

-- each agent is greater than the one before, the first at least this one, and each number is above
-- 0
abbrev pub AreRising : ℕ → List Entry → Type 0
AreRising least [] = Unit {0}
AreRising least (entry ∷ entries) =
    (least ≤ entry.agent) × (0 < entry.done) × AreRising (entry.agent + 1) entries

-- the bytes spell the message of version 2
pub record IsTold (plan : ℕ) (message : Message) (bytes : List ℕ) : Type 0 where
  pub spelled : bytes ≡ told_bytes plan message
  pub rising : AreRising 0 message.entries

-- what an agent says, as bytes, by the version
abbrev pub bytes_said : Version → (plan agents i done : ℕ) → (ℕ → ℕ) → List ℕ
bytes_said One plan agents i done known = message_bytes plan i done
bytes_said Two plan agents i done known = told_bytes plan (whole_message agents i done known)
