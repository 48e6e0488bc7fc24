-- What is put of pieces.
use Rattle.std.proofs.Common.{◌≡◌, ◌∙◌, ℕ, List, Result, OnOk, OnErr, subst}
use Rattle.std.specs.Prelude.{Option}
use Rattle.text_io.specs.declared.sink.Sink.{Sink}
use Rattle.text_io.specs.Sink.{Puts, Breaks}
use Rattle.ending.specs.declared.pieces.Piece.{Piece}

module _ {E W : Type 0} (contents : W → Option (List ℕ)) (old new : Sink W) (answer : Result Unit E)
    (given text : List ℕ) (is : given ≡ text) where
  -- the same bytes
  pub puts_as : OnOk answer (Puts contents old new given) → OnOk answer (Puts contents old new text)
  puts_as = subst (λ bytes. OnOk answer (Puts contents old new bytes)) is

  pub breaks_as
      : OnErr answer (Breaks contents old new given) → OnErr answer (Breaks contents old new text)
  breaks_as = subst (λ bytes. OnErr answer (Breaks contents old new bytes)) is

-- a piece of this word and this number
abbrev pub SaysPiece : Piece → List ℕ → ℕ → Type 0
SaysPiece piece word number = (piece.word.now ≡ word) × (piece.number ≡ number)

pub says : (piece : Piece) (word : List ℕ) (given number : ℕ) → (piece.word.now ≡ word)
    × (piece.number ≡ given) → given ≡ number → SaysPiece piece word number
says piece word given number made same = (made.0, made.1 ∙ same)
