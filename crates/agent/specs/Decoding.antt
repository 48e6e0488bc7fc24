-- Which bytes are no message, and why.
use Rattle.std.specs.Prelude.{ℕ, ◌+◌, ◌*◌, ◌==◌, ◌&&◌, ◌||◌, nat_lt, if◌then◌else◌, List}
use Rattle.std.specs.Prelude.{[], ◌∷◌, length, drop, get_or, Option, None, Some, option_map}
use Rattle.model.specs.declared.entry.Entry.{Entry}
use Rattle.model.specs.declared.msg_fault.MsgFault.{MsgFault}
use Rattle.model.specs.declared.msg_fault.MsgFault.TheVariants.{BadLength, BadMagic}
use Rattle.model.specs.declared.msg_fault.MsgFault.TheVariants.{BadVersion, BadEntry}

-- at version 1, the first test that the bytes don't pass: both of the first two bytes, the first,
-- the second, twelve in all
abbrev pub message_fault : List ℕ → Option MsgFault
message_fault bytes =
    if nat_lt (length bytes) 2 then Some BadLength
    else (if get_or bytes 0 0 == 0x46
    then (if get_or bytes 1 0 == 1
    then (if length bytes == 12 then None else Some BadLength)
    else Some BadVersion)
    else Some BadMagic)

-- ---- version 2

-- the number of two bytes, the first the higher
abbrev pub pair_value : ℕ → ℕ → ℕ
pair_value b0 b1 = 256 * b0 + b1

-- the entries that bytes spell, six each: the agent in two, and the number of its moves in four
abbrev pub entries_in : List ℕ → List Entry
entries_in (a0 ∷ a1 ∷ d0 ∷ d1 ∷ d2 ∷ d3 ∷ bytes) =
    record { agent = pair_value a0 a1; done = 65536 * pair_value d0 d1 + pair_value d2 d3 }
    ∷ entries_in bytes
entries_in _ = []

-- how many entries a message of version 2 says that it has
abbrev pub count_told : List ℕ → ℕ
count_told bytes = pair_value (get_or bytes 8 0) (get_or bytes 9 0)

-- The number of the first entry, from one on, that has the number 0, or whose agent is not greater
-- than the one before: it is below the least that may come.
abbrev pub wrong_entry : (number least : ℕ) → List Entry → Option ℕ
wrong_entry number least [] = None
wrong_entry number least (entry ∷ entries) =
    if (entry.done == 0) || nat_lt entry.agent least then Some number else wrong_entry (number + 1)
    (entry.agent + 1) entries

-- the first test that the bytes of a message of version 2 don't pass: ten, those of all its entries
-- and no more, its entries
abbrev pub told_fault : List ℕ → Option MsgFault
told_fault bytes =
    if nat_lt (length bytes) 10 then Some BadLength
    else (if length bytes == 10 + 6 * count_told bytes
    then option_map (λ number. BadEntry number) (wrong_entry 0 0 (entries_in (drop 10 bytes)))
    else Some BadLength)

-- the same at either version: what begins as a message of version 2 is judged as one
abbrev pub any_fault : List ℕ → Option MsgFault
any_fault bytes =
    if (get_or bytes 0 0 == 0x46) && (get_or bytes 1 0 == 2) then told_fault bytes else
    message_fault bytes
