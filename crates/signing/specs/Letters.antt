-- What is sent of a message that is signed.
use Rattle.std.specs.Prelude.{◌≡◌, ℕ, List, ◌∷◌, ◌++◌, length}
use Rattle.model.specs.Messages.{big_endian}
use Rattle.signing.specs.declared.letter.Head.{Head}
use Rattle.signing.specs.Hmac.{hmac}

-- The sixteen bytes before a message: two with which no other message begins, the numbers of the
-- sender and of the run, and how far the sender has counted.
abbrev pub head_bytes : Head → List ℕ
head_bytes h =
    0x53 ∷ 1 ∷ (big_endian 2 h.sender ++ big_endian 4 h.run ++ big_endian 8 h.count)

-- what is signed
abbrev pub signed_text : Head → (message : List ℕ) → List ℕ
signed_text h message = head_bytes h ++ message

-- what is sent: this, and its tag by the sender's key
abbrev pub sealed : (key : List ℕ) → Head → (message : List ℕ) → List ℕ
sealed key h message = signed_text h message ++ hmac key (signed_text h message)

-- the bytes have the form of what is sent, with some tag
pub record IsLetter (h : Head) (message tag letter : List ℕ) : Type 0 where
  pub bytes : letter ≡ signed_text h message ++ tag
  pub tag_length : length tag ≡ 32
