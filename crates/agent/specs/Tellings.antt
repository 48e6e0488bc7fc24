-- What bytes tell, as messages of either version.
use Rattle.std.specs.Prelude.{◌≡◌, ℕ, ◌^◌, ◌<◌, ◌⊎◌, List, length}
use Rattle.std.specs.List.{AllByRecursion}
use Rattle.model.specs.Messages.{Message, own_message, IsMessage, AreRising, IsTold}

-- a message, and the number of its plan
pub record Telling : Type 0 where
  pub plan : ℕ
  pub message : Message

-- its numbers are such as bytes can spell
pub record IsInRange (t : Telling) : Type 0 where
  pub plan : t.plan < 2 ^ 32
  pub sender : t.message.sender < 2 ^ 16
  pub count : length t.message.entries < 2 ^ 16
  pub agents : AllByRecursion (λ entry. entry.agent < 2 ^ 16) t.message.entries
  pub numbers : AllByRecursion (λ entry. entry.done < 2 ^ 32) t.message.entries

-- the bytes are those of version 1, of an agent that says how many moves it has finished
abbrev pub IsOne : List ℕ → Telling → Type 0
IsOne bytes t =
    (done : ℕ) × (t.message ≡ own_message t.message.sender done)
    × IsMessage t.plan t.message.sender done bytes

-- or those of version 2
abbrev pub IsTwo : List ℕ → Telling → Type 0
IsTwo bytes t = IsTold t.plan t.message bytes

-- the bytes tell this, at one version or the other
pub record BytesTell (bytes : List ℕ) (t : Telling) : Type 0 where
  pub in_range : IsInRange t
  pub spelled : IsOne bytes t ⊎ IsTwo bytes t

-- in range, and with entries that rise
pub record IsWhole (t : Telling) : Type 0 where
  pub in_range : IsInRange t
  pub rising : AreRising 0 t.message.entries
