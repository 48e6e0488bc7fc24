-- What a tape is, and what a read and a write of it may come to.
use Rattle.std.specs.Prelude.{◌≡◌, ℕ, ◌+◌, ◌/◌, ◌<◌, ◌≤◌, ◌⊎◌, Bool, true}
use Rattle.std.specs.Prelude.{false, List, ◌++◌, length, take, drop, Option, None, Some}
use Rattle.text_io.specs.Counted.{greatest}
use Rattle.model.specs.History.{record_length}

-- the bytes that a tape has, how many it has room for, and how often a call on it has failed
pub record TapeState : Type 0 where
  pub contents : List ℕ
  pub room : ℕ
  pub failures : ℕ

-- how many whole records a tape has; what stands behind them counts as nothing
abbrev pub whole_records : TapeState → ℕ
whole_records t = length t.contents / record_length

-- the failures have risen, or can rise no more
abbrev pub HasFailed : ℕ → ℕ → Type 0
HasFailed old new = (old < new) ⊎ (old ≡ greatest)

-- a record at the place is one of the tape's
abbrev pub MayRead : TapeState → ℕ → Type 0
MayRead t at = at + record_length ≤ length t.contents

-- A record at the place is the first that is not whole, and there is room for it.
pub record MayWrite (t : TapeState) (at : ℕ) : Type 0 where
  pub within : at ≤ length t.contents
  pub past : length t.contents < at + record_length
  pub room : at + record_length ≤ t.room

-- reads leave a tape's contents and room
pub record IsKept (old new : TapeState) : Type 0 where
  pub contents : new.contents ≡ old.contents
  pub room : new.room ≡ old.room

-- A read of the record at a place: it gives the bytes or fails, and the tape keeps its contents.
pub record IsRead (old new : TapeState) (at : ℕ) (succeeds : Bool) (bytes : List ℕ) : Type 0 where
  pub contents : new.contents ≡ old.contents
  pub room : new.room ≡ old.room
  pub gives : succeeds ≡ true → bytes ≡ take record_length (drop at old.contents)
  pub counts : succeeds ≡ true → new.failures ≡ old.failures
  pub fails : succeeds ≡ false → HasFailed old.failures new.failures

-- A write of a record at a place, over what stood there: all of it, or where it fails fewer than
-- ten bytes of any kind, or all of it.
pub record IsWrite (old new : TapeState) (at : ℕ) (bytes : List ℕ) (succeeds : Bool) : Type 0 where
  pub room : new.room ≡ old.room
  pub stores : succeeds ≡ true → new.contents ≡ take at old.contents ++ bytes
  pub tears : succeeds ≡ false → (tail : List ℕ) × (new.contents ≡ take at old.contents ++ tail)
      × ((length tail < record_length) ⊎ (tail ≡ bytes))
  pub counts : succeeds ≡ true → new.failures ≡ old.failures
  pub fails : succeeds ≡ false → HasFailed old.failures new.failures

-- A write of a tape that is told where to tear: it succeeds where nothing is armed, and else it
-- stores so many bytes, fails and disarms.
abbrev pub IsTorn : Option ℕ → Option ℕ → TapeState → TapeState → ℕ → List ℕ → Bool → Type 0
IsTorn None armed old new at bytes succeeds = (succeeds ≡ true) × (armed ≡ None)
IsTorn (Some n) armed old new at bytes succeeds =
    (succeeds ≡ false) × (armed ≡ None) × (new.contents ≡ take at old.contents ++ take n bytes)
