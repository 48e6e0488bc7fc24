-- What a sender seals, and what it comes to where it can't.
use Rattle.std.specs.Prelude.{◌≡◌, ℕ, List}
use Rattle.signing.specs.declared.sealer.SealFault.{SealFault}
use Rattle.signing.specs.declared.sealer.SealFault.TheVariants.{CountFailed, OutOfMemory}
use Rattle.signing.specs.Counting.{Counting, CountsOn, CountsNone}
use Rattle.signing.specs.Letters.{sealed}

-- a sender: its number and key, the number of the run, and how it counts
pub record Sender : Type 0 where
  pub number : ℕ
  pub key : List ℕ
  pub run : ℕ
  pub counting : Counting

-- the same sender
pub record IsStill (old new : Sender) : Type 0 where
  pub number : new.number ≡ old.number
  pub key : new.key ≡ old.key
  pub run : new.run ≡ old.run

-- A message was sealed by the sender's key, in its name, for its run, with the next count.
pub record Seals (old new : Sender) (message letter : List ℕ) : Type 0 where
  pub still : IsStill old new
  pub count : ℕ
  pub takes : CountsOn old.counting new.counting count
  pub is_sealed
      : letter
      ≡ sealed old.key (record { sender = old.number; run = old.run; count = count }) message

-- none was: no count could be reserved; or memory was refused, and a count is used for nothing
abbrev pub SealsNone : Sender → Sender → SealFault → Type 0
SealsNone old new CountFailed = IsStill old new × CountsNone old.counting new.counting
SealsNone old new OutOfMemory =
    IsStill old new × ((count : ℕ) × CountsOn old.counting new.counting count)
