-- The records that an agent writes, one behind the other.
use Rattle.std.proofs.Common.{◌≡◌, ℕ, ◌*◌, zero, suc, List, [], ◌++◌, length, arith}
use Rattle.std.proofs.lemmas.List.{length-append}
use Rattle.agent.specs.Records.{due_record}

-- the bytes of the first so many
abbrev pub due_records : (plan agent count : ℕ) → List ℕ
due_records plan agent zero = []
due_records plan agent (suc n) = due_records plan agent n ++ due_record plan agent n

-- ten bytes each
pub length-due_records : (plan agent count : ℕ) → length (due_records plan agent count) ≡ 10 * count
length-due_records plan agent zero = omega arith
length-due_records plan agent (suc n) =
    (let counted = length-due_records plan agent n in let both =
    length-append (due_records plan agent n) (due_record plan agent n) in
    omega (arith, counted, both))
