-- What a source of bytes holds, and what a call on it takes.
use Rattle.std.specs.Prelude.{◌≡◌, ℕ, ◌+◌, ◌-◌, ◌*◌, ◌≤◌, Bool, true, false, List}
use Rattle.std.specs.Prelude.{[], ◌++◌, length, slice_range, Option, None, Some, is_some, ⊤}
use Rattle.std.specs.Io.KnownBytes.{Consumes, IsAtEnd as IsSpent}
use Rattle.text_io.specs.declared.counted.Counted.{Counted}
use Rattle.text_io.specs.declared.source.Source.{Source}
use Rattle.text_io.specs.declared.source.Stop.{Stop}
use Rattle.text_io.specs.declared.source.Stop.TheVariants.{End, Failure}
use Rattle.text_io.specs.Counted.{greatest, Rises}

-- the bytes that were read and not yet taken
abbrev pub at_hand : {R : Type 0} {ahead : ℕ} → Source R ahead → List ℕ
at_hand s = slice_range s.piece s.start s.end

-- the counted reader behind the source
abbrev pub source_reader : {R : Type 0} {ahead : ℕ} → Source R ahead → Counted R
source_reader s = s.reader.now

abbrev pub is_end : Option Stop → Bool
is_end None = false
is_end (Some End) = true
is_end (Some Failure) = false

abbrev pub is_failure : Option Stop → Bool
is_failure None = false
is_failure (Some End) = false
is_failure (Some Failure) = true

-- whether the reader's end came, and whether the reader failed
abbrev pub has_ended : {R : Type 0} {ahead : ℕ} → Source R ahead → Bool
has_ended s = is_end s.stop

abbrev pub has_failed : {R : Type 0} {ahead : ℕ} → Source R ahead → Bool
has_failed s = is_failure s.stop

-- an end that came is the end of the known bytes, and stays
abbrev pub EndsAt : Bool → Bool → Option (List ℕ) → Option (List ℕ) → Type 0
EndsAt false false old new = ⊤
EndsAt false true old new = IsSpent new
EndsAt true false old new = ⊥
EndsAt true true old new = IsSpent old → IsSpent new

-- the reader failed in one call at the most, and was not called again
abbrev pub FailsOnce : Bool → Bool → ℕ → ℕ → Type 0
FailsOnce false false old new = new ≡ old
FailsOnce false true old new = Rises old new
FailsOnce true false old new = ⊥
FailsOnce true true old new = new ≡ old

abbrev pub is_stopped : {R : Type 0} {ahead : ℕ} → Source R ahead → Bool
is_stopped s = is_some s.stop

-- how many more bytes can come at the most, with one for each call
abbrev pub most_left : {R : Type 0} {ahead : ℕ} → Source R ahead → ℕ
most_left {ahead = ahead} s = (greatest - s.reader.now.calls) * (ahead + 1) + length (at_hand s)

-- From old to new the source gave the bytes taken, in order, and none was lost.
pub record Takes {R : Type 0} {ahead : ℕ} (remaining : R → Option (List ℕ))
    (old new : Source R ahead) (taken : List ℕ) : Type 0 where
  pub same_reader : new.reader.ghost_name ≡ old.reader.ghost_name
  pub read : List ℕ
  pub in_order : at_hand old ++ read ≡ taken ++ at_hand new
  pub delivered : Consumes (remaining (source_reader old).inner)
      (remaining (source_reader new).inner) read
  pub ends : EndsAt (has_ended old) (has_ended new) (remaining (source_reader old).inner)
      (remaining (source_reader new).inner)
  pub fails : FailsOnce (has_failed old) (has_failed new) (source_reader old).failures
      (source_reader new).failures
  -- a reader whose end came, or that failed, is not called again
  pub stays : is_stopped old ≡ true → (read ≡ []) × (new.stop ≡ old.stop)
      × (source_reader new ≡ source_reader old)
  pub less_left : most_left new + length taken ≤ most_left old

-- the reader's end came, and all its bytes were taken
abbrev pub IsAtEnd : {R : Type 0} {ahead : ℕ} → Source R ahead → Type 0
IsAtEnd s = (has_ended s ≡ true) × (at_hand s ≡ [])

-- the reader's end did not come yet, and it did not fail
abbrev pub GoesOn : {R : Type 0} {ahead : ℕ} → Source R ahead → Type 0
GoesOn s = is_stopped s ≡ false

-- why no byte came
abbrev pub StopsBy : {R : Type 0} {ahead : ℕ} → (R → Option (List ℕ)) → Source R ahead
    → Source R ahead → Stop → Type 0
StopsBy remaining old new stop =
    Takes remaining old new [] × (new.stop ≡ Some stop) × (at_hand new ≡ [])
