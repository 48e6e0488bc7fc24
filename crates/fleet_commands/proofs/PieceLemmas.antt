-- Pieces by what they say.
use Rattle.std.proofs.Common.{◌≡◌, ◌∙◌, ℕ, List, [], ◌∷◌, refl}
use Rattle.ending.specs.declared.pieces.Piece.{Piece}
use Rattle.ending.specs.Laws.Pieces.{SaysPiece}
use Rattle.ending.specs.Pieces.{pieces_of, pieces_text}

-- a piece of what was chosen, and of a number that was widened
pub made : (piece : Piece) (given word : List ℕ) (wide number : ℕ) → (piece.word.now ≡ given) × (piece.number ≡ wide) → given ≡ word → wide ≡ number → SaysPiece piece word number
made piece given word wide number is chosen widened = (is.0 ∙ chosen, is.1 ∙ widened)

pub one-piece : (p : Piece) (v : List ℕ) (m : ℕ) → SaysPiece p v m → pieces_text (pieces_of (p ∷ [])) ≡ pieces_text ((v, m) ∷ [])
one-piece p v m a = rw (a.0, a.1) refl

pub three-pieces : (p q r : Piece) (v w x : List ℕ) (l m n : ℕ) → SaysPiece p v l → SaysPiece q w m → SaysPiece r x n
    → pieces_text (pieces_of (p ∷ q ∷ r ∷ [])) ≡ pieces_text ((v, l) ∷ (w, m) ∷ (x, n) ∷ [])
three-pieces p q r v w x l m n a b c = rw (a.0, a.1, b.0, b.1, c.0, c.1) refl

pub two-pieces : (p q : Piece) (v w : List ℕ) (m n : ℕ) → SaysPiece p v m → SaysPiece q w n → pieces_text (pieces_of (p ∷ q ∷ [])) ≡ pieces_text ((v, m) ∷ (w, n) ∷ [])
two-pieces p q v w m n a b = rw (a.0, a.1, b.0, b.1) refl

pub four-pieces : (p q r s : Piece) (v w x y : List ℕ) (k l m n : ℕ) → SaysPiece p v k → SaysPiece q w l → SaysPiece r x m → SaysPiece s y n
    → pieces_text (pieces_of (p ∷ q ∷ r ∷ s ∷ [])) ≡ pieces_text ((v, k) ∷ (w, l) ∷ (x, m) ∷ (y, n) ∷ [])
four-pieces p q r s v w x y k l m n a b c d = rw (a.0, a.1, b.0, b.1, c.0, c.1, d.0, d.1) refl
