-- The numbers of cells as they are written.
use Rattle.std.specs.Prelude.{◌≡◌, ℕ, ◌+◌, List, [], ◌∷◌, decimal}
use Rattle.text_io.specs.Text.{space}

-- a number with a space before it
abbrev pub spaced : ℕ → List ℕ
spaced n = space ∷ decimal n

-- the texts are those of this number and the next ones
abbrev pub AreFrom : ℕ → List (List ℕ) → Type 0
AreFrom n [] = Unit {0}
AreFrom n (text ∷ texts) = (text ≡ spaced n) × AreFrom (n + 1) texts

-- those of the first numbers
abbrev pub AreNumerals : List (List ℕ) → Type 0
AreNumerals texts = AreFrom 0 texts
