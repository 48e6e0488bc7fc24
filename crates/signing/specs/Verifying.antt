-- Which letters are taken, and why others are dropped.
use Rattle.std.specs.Prelude.{◌≡◌, ◌≢◌, ℕ, ◌<◌, List, take, drop, Option, None, Some}
use Rattle.std.specs.Prelude.{MatchOption, Result, Ok, Err, slice_index_or, slice_set, ⊤}
use Rattle.model.specs.Messages.{big_endian}
use Rattle.signing.specs.declared.letter.Head.{Head}
use Rattle.signing.specs.declared.verifier.Dropped.{Dropped}
use Rattle.signing.specs.declared.verifier.Dropped.TheVariants.{NotSigned, OtherRun}
use Rattle.signing.specs.declared.verifier.Dropped.TheVariants.{UnknownSender, BadTag}
use Rattle.signing.specs.declared.verifier.Dropped.TheVariants.{NotItsSender, NotNewer}
use Rattle.signing.specs.Hmac.{hmac}
use Rattle.signing.specs.Letters.{sealed, signed_text, IsLetter}

-- what letters are judged by: the number of the run, the key of each sender that has one, and the
-- last count that was taken of each
pub record Judge : Type 0 where
  pub run : ℕ
  pub keys : List (Option (List ℕ))
  pub taken : List (Option ℕ)

abbrev pub key_for : Judge → ℕ → Option (List ℕ)
key_for judge sender = slice_index_or judge.keys sender None

abbrev pub last_taken : Judge → ℕ → Option ℕ
last_taken judge sender = slice_index_or judge.taken sender None

-- behind a letter that was taken
abbrev pub behind : Judge → Head → Judge
behind judge h = record judge { taken = slice_set judge.taken h.sender (Some h.count) }

-- the count is above the last one of the sender
abbrev pub IsNewer : Option ℕ → ℕ → Type 0
IsNewer last count = MatchOption last ⊤ (λ n. n < count)

-- the message names the sender in its third and fourth bytes, as those of both versions do
abbrev pub NamesSender : (message : List ℕ) → (sender : ℕ) → Type 0
NamesSender message sender = take 2 (drop 2 message) ≡ big_endian 2 sender

-- The letter is that of a sender of this run, sealed by its key.
pub record IsSealed (judge : Judge) (h : Head) (message letter : List ℕ) : Type 0 where
  pub this_run : h.run ≡ judge.run
  pub key : List ℕ
  pub has_key : key_for judge h.sender ≡ Some key
  pub is_sealed : letter ≡ sealed key h message

-- why a letter is dropped: the first of these that stands
abbrev pub IsDroppedFor : Judge → (letter : List ℕ) → Dropped → Type 0
IsDroppedFor judge letter NotSigned =
    (h : Head) (message tag : List ℕ) → IsLetter h message tag letter → ⊥
IsDroppedFor judge letter OtherRun =
    (h : Head) × (message : List ℕ) × (tag : List ℕ) × IsLetter h message tag letter
    × (h.run ≢ judge.run)
IsDroppedFor judge letter UnknownSender =
    (h : Head) × (message : List ℕ) × (tag : List ℕ) × IsLetter h message tag letter
    × (h.run ≡ judge.run) × (key_for judge h.sender ≡ None)
IsDroppedFor judge letter BadTag =
    (h : Head) × (message : List ℕ) × (tag : List ℕ) × IsLetter h message tag letter
    × (h.run ≡ judge.run) × ((key : List ℕ) × (key_for judge h.sender ≡ Some key)
    × (tag ≢ hmac key (signed_text h message)))
IsDroppedFor judge letter NotItsSender =
    (h : Head) × (message : List ℕ) × IsSealed judge h message letter
    × (NamesSender message h.sender → ⊥)
IsDroppedFor judge letter NotNewer =
    (h : Head) × (message : List ℕ) × IsSealed judge h message letter
    × NamesSender message h.sender × (IsNewer (last_taken judge h.sender) h.count → ⊥)

-- A letter is taken, and then its message is heard: it was sealed by the key of the sender that the
-- message names, for this run, behind all that was taken of that one.
pub record IsAccepted (judge : Judge) (h : Head) (message letter : List ℕ) : Type 0 where
  pub is_sealed : IsSealed judge h message letter
  pub names : NamesSender message h.sender
  pub newer : IsNewer (last_taken judge h.sender) h.count

-- what a letter comes to, and what the next one is judged by
abbrev pub Opens : Judge → Judge → (letter : List ℕ) → Result (List ℕ) Dropped → Type 0
Opens judge next letter (Ok message) =
    (h : Head) × IsAccepted judge h message letter × (next ≡ behind judge h)
Opens judge next letter (Err why) = IsDroppedFor judge letter why × (next ≡ judge)
