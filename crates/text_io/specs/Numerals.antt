-- Numbers as they are written: digits without a leading zero.
use Rattle.std.specs.Prelude.{◌≡◌, ◌≢◌, ℕ, ◌<◌, Bool, false, ◌&&◌, ◌==◌, not, nat_lt}
use Rattle.std.specs.Prelude.{if◌then◌else◌, List, [], ◌∷◌, ◌++◌, length, Option, None, Some, ⊤}
use Rattle.std.specs.List.{list_all}
use Rattle.std.specs.Char.{is_ascii_digit}
use Rattle.std.specs.Str.Parse.{digits_value}
use Rattle.text_io.specs.Text.{SpellsNumber}

-- a zero stands first only where it is the only digit
abbrev pub HasNoLeadingZero : List ℕ → Type 0
HasNoLeadingZero [] = ⊤
HasNoLeadingZero (d ∷ []) = ⊤
HasNoLeadingZero (d ∷ e ∷ digits) = d ≢ 48

-- digits without a leading zero that spell the number
pub record IsNumeral (n : ℕ) (digits : List ℕ) : Type 0 where
  pub spells : SpellsNumber n digits
  pub shortest : HasNoLeadingZero digits

-- ---- the same as tests

-- a zero stands before other bytes
abbrev pub has_leading_zero : List ℕ → Bool
has_leading_zero [] = false
has_leading_zero (d ∷ []) = false
has_leading_zero (d ∷ e ∷ digits) = d == 48

-- digits without a leading zero
abbrev pub is_numeral : List ℕ → Bool
is_numeral digits =
    nat_lt 0 (length digits) && list_all is_ascii_digit digits && not (has_leading_zero digits)

abbrev pub numeral_value : List ℕ → ℕ
numeral_value digits = digits_value 10 digits

-- digits without a leading zero whose number is below a limit
abbrev pub is_below : ℕ → List ℕ → Bool
is_below limit digits = is_numeral digits && nat_lt (numeral_value digits) limit

-- the number that they spell
abbrev pub numeral_below : ℕ → List ℕ → Option ℕ
numeral_below limit digits = if is_below limit digits then Some (numeral_value digits) else None

-- a number below the limit stands at the front, then the byte that ends it, and then the rest
abbrev pub BeginsWithNumber : ℕ → ℕ → ℕ → List ℕ → List ℕ → Type 0
BeginsWithNumber limit n ending bytes rest =
    (digits : List ℕ) × (bytes ≡ digits ++ ending ∷ rest) × IsNumeral n digits × (n < limit)
