-- Words as one text.
use Rattle.std.proofs.Common.{◌≡◌, ℕ, List, [], ◌∷◌, ◌++◌, ap, sym, append-nil}
use Rattle.std.specs.Prelude.{map, decimal}
use Rattle.std.specs.List.{join_with_byte}
use Rattle.text_io.specs.Text.{space, spaced_numbers}

-- a word and numbers, with a space before each
pub joined : (word : List ℕ) (numbers : List ℕ) → join_with_byte space (word ∷ map decimal numbers)
    ≡ word ++ spaced_numbers numbers
joined word [] = sym (append-nil word)
joined word (n ∷ numbers) = ap (λ xs. word ++ (space ∷ xs)) (joined (decimal n) numbers)
