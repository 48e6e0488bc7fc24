-- Numbers and cells in the words of a report.
use Rattle.std.specs.Prelude.{◌≡◌, ℕ, ◌^◌, ◌<◌, List, ◌∷◌, ◌++◌, decimal}
use Rattle.text_io.specs.Text.{space}
use Rattle.grid.specs.declared.cell.Cell.{Cell}
use Rattle.carrier_text.specs.CarrierLines.{IsSmallCell}

-- the bytes spell a number below 2^16
abbrev pub IsSmallNumber : ℕ → List ℕ → Type 0
IsSmallNumber n bytes = (n < 2 ^ 16) × (bytes ≡ decimal n)

abbrev pub IsNoSmallNumber : List ℕ → Type 0
IsNoSmallNumber bytes = (n : ℕ) → IsSmallNumber n bytes → ⊥

-- they begin with one, and behind it stand a space and the rest
abbrev pub LeadsNumber : ℕ → List ℕ → List ℕ → Type 0
LeadsNumber n bytes rest = (n < 2 ^ 16) × (bytes ≡ decimal n ++ space ∷ rest)

abbrev pub LeadsNoNumber : List ℕ → Type 0
LeadsNoNumber bytes = (n : ℕ) (rest : List ℕ) → LeadsNumber n bytes rest → ⊥

-- they spell a cell's column and row
abbrev pub IsCell : Cell → List ℕ → Type 0
IsCell c bytes = IsSmallCell c × (bytes ≡ decimal c.x ++ space ∷ decimal c.y)

abbrev pub IsNoCell : List ℕ → Type 0
IsNoCell bytes = (c : Cell) → IsCell c bytes → ⊥

-- they spell the columns and rows of two cells
abbrev pub AreTwoCells : Cell → Cell → List ℕ → Type 0
AreTwoCells u v bytes =
    IsSmallCell u × IsSmallCell v
    × (bytes ≡ decimal u.x ++ space ∷ (decimal u.y ++ space ∷ (decimal v.x ++ space ∷ decimal v.y)))

abbrev pub AreNoTwoCells : List ℕ → Type 0
AreNoTwoCells bytes = (u v : Cell) → AreTwoCells u v bytes → ⊥
