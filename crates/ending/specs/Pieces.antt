-- Texts of words and numbers.
use Rattle.std.specs.Prelude.{ℕ, List, ◌++◌, decimal, map}
use Rattle.std.specs.List.{flat_map}
use Rattle.ending.specs.declared.pieces.Piece.{Piece}

-- words, each with a number behind it
abbrev pub pieces_text : List (List ℕ × ℕ) → List ℕ
pieces_text pieces = flat_map (λ piece. piece.0 ++ decimal piece.1) pieces

-- what pieces of the code say
abbrev pub pieces_of : List Piece → List (List ℕ × ℕ)
pieces_of pieces = map (λ (piece : Piece). (piece.word.now, piece.number)) pieces
