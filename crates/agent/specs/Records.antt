-- The records of a tape. By its whole records an agent has finished so many moves, and is moving or
-- stands.
use Rattle.std.specs.Prelude.{◌≡◌, ℕ, ◌+◌, ◌*◌, ◌/◌, ◌%◌, ◌<◌, List, ◌∷◌, ◌++◌, take, drop}
use Rattle.model.specs.History.{record_length}
use Rattle.model.specs.Messages.{big_endian}

-- The record with a number, from 0 on: the byte 0x50, the kind, and the numbers of the plan, the
-- agent and the finished moves. Record 2k says that the agent is moving (kind 1) with k moves
-- finished, and record 2k + 1 that it stands (kind 2) with k + 1.
abbrev pub due_record : (plan agent n : ℕ) → List ℕ
due_record plan agent n =
    0x50 ∷ (n % 2 + 1) ∷ (big_endian 4 plan ++ big_endian 2 agent ++ big_endian 2 ((n + 1) / 2))

-- the record with a number that stands on a tape
abbrev pub record_at : List ℕ → ℕ → List ℕ
record_at contents n = take record_length (drop (record_length * n) contents)

-- the first records are those that are due
abbrev pub AreDue : (plan agent : ℕ) → List ℕ → ℕ → Type 0
AreDue plan agent contents count =
    (n : ℕ) → n < count → record_at contents n ≡ due_record plan agent n

-- ---- a record beside the one that is due, part by part

-- the first byte, the kind and the number of finished moves
abbrev pub SaysDue : List ℕ → List ℕ → Type 0
SaysDue due bytes = (take 2 bytes ≡ take 2 due) × (take 2 (drop 8 bytes) ≡ take 2 (drop 8 due))

-- the number of the plan
abbrev pub SaysPlan : List ℕ → List ℕ → Type 0
SaysPlan due bytes = take 4 (drop 2 bytes) ≡ take 4 (drop 2 due)

-- the number of the agent
abbrev pub SaysAgent : List ℕ → List ℕ → Type 0
SaysAgent due bytes = take 2 (drop 6 bytes) ≡ take 2 (drop 6 due)
