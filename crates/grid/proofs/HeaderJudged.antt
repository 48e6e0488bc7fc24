-- What the reader of a map makes of what the lines of its header say.
use Rattle.std.proofs.Common.{◌≡◌, ℕ, ◌*◌, ◌/◌, ◌<◌, ◌≤◌, List, [], ◌∷◌, length, refl, sym, subst, ◌∙◌, inl, inr, ◌⊎◌, arith, min}
use Rattle.std.proofs.lemmas.Bool.{cases_lt}
use Rattle.std.proofs.Math.Nat.{le-div_iff_mul-le, div-lt_iff_lt-mul}
use Rattle.grid.specs.declared.header_line.HeaderLine.{HeaderLine}
use Rattle.grid.specs.declared.header_line.HeaderLine.TheVariants.{TypeLine, HeightLine, WidthLine, MapLine}
use Rattle.grid.specs.declared.header_line.Saying.TheVariants.{Whole, Size, NoSize, NoForm}
use Rattle.grid.specs.declared.map_fault.MapFault.{MapFault}
use Rattle.grid.specs.declared.map_fault.MapFault.TheVariants.{BadHeader, BadNumber, TooLarge, BadTerrain, ShortRow, LongRow, MissingRows, TextAfter, ReadFailed, OutOfMemory}
use Rattle.grid.specs.Map.{IsSize}
use Rattle.text_io.specs.Reading.{Place, IsOver}
use Rattle.grid.specs.MapText.{IsNumberLine}
use Rattle.grid.specs.MapFault.{height_due, width_due, map_due, MapFollows, HasMapFault, HasValue, HasPositive}
use Rattle.grid.specs.Code.HeaderLine.{word_of, saying_of}
use Rattle.grid.specs.Code.Following.{SaysNoSize}
use Rattle.grid.proofs.HeaderNumbers.{HasSize, height_has_size, width_has_size, Size-from_number_line, number_line-from_Size, HasValue-from_Size, HasValue-from_NoSize, says-from_HasValue}

-- an empty line says nothing
says_some : (kind : HeaderLine) (line : List ℕ) → (saying_of kind line ≡ NoForm → ⊥) → 0 < length line
says_some TypeLine [] h = absurd (h refl)
says_some HeightLine [] h = absurd (h refl)
says_some WidthLine [] h = absurd (h refl)
says_some MapLine [] h = absurd (h refl)
says_some kind (b ∷ line) h = omega arith

-- a size of 0, or something that is no number, is no number above 0
module _ (kind : HeaderLine) (sized : HasSize kind) (line : List ℕ) where
  other_value : (saying_of kind line ≡ Size 0) ⊎ (saying_of kind line ≡ NoSize)
      → HasValue (word_of kind) line × (HasPositive (word_of kind) line → ⊥)
  other_value (inl zero_size) = (
    HasValue-from_Size kind sized line 0 zero_size,
    λ number.
        let says : Size (min number.0 65536) ≡ Size 0 = sym (Size-from_number_line kind sized number.0 line number.1) ∙ zero_size in
        let none : min number.0 65536 ≡ 0 = cc in
        let some = number.2 in
        absurd (omega (arith, none, some)),
  )
  other_value (inr no_size) = (
    HasValue-from_NoSize kind sized line no_size,
    λ number.
        let says : Size (min number.0 65536) ≡ NoSize = sym (Size-from_number_line kind sized number.0 line number.1) ∙ no_size in absurd (cc),
  )

  -- a line that says neither a size nor a value has no value
  other_form : ((n : ℕ) → saying_of kind line ≡ Size n → ⊥) → (saying_of kind line ≡ NoSize → ⊥) → HasValue (word_of kind) line → ⊥
  other_form no_size no_value value = elim (says-from_HasValue kind sized line value) [ inl h ↦ no_value h | inr h ↦ no_size h.0 h.1 ]

  -- a size within the limit is the number
  pub number_of_size : (n : ℕ) → saying_of kind line ≡ Size n → n ≤ 65535 → IsNumberLine (word_of kind) n line
  number_of_size n says small =
      let number = number_line-from_Size kind sized line n says in
      let capped = number.2 in
      let same : number.0 ≡ n = omega (arith, capped) in
      subst (λ m. IsNumberLine (word_of kind) m line) same number.1

-- a height within the limit is right
pub height_follows : (line : List ℕ) (n : ℕ) → saying_of HeightLine line ≡ Size n → 0 < n → n ≤ 65535 → MapFollows height_due line (width_due n)
height_follows line n says some small = (n, number_of_size HeightLine height_has_size line n says small, (some, omega arith), refl)

-- a width up to the limit makes a size
pub width_size : (n height : ℕ) → 0 < n → n ≤ min 65535 (4194304 / height) → 0 < height → height ≤ 65535 → IsSize n height
width_size n height some small some_height height_limit =
    let quotient : n ≤ 4194304 / height = omega arith in
    record {
      some_width = some;
      width_limit = omega arith;
      some_height = some_height;
      height_limit = height_limit;
      cell_limit = (le-div_iff_mul-le {x = n} {y = 4194304} some_height).0 quotient;
    }

-- a width is right where the cells are not too many
pub width_follows : (line : List ℕ) (n height : ℕ) → saying_of WidthLine line ≡ Size n → IsSize n height → MapFollows (width_due height) line (map_due n height)
width_follows line n height says size = (n, number_of_size WidthLine width_has_size line n says size.width_limit, size, refl)

-- what is wrong with the line of the height
pub height_fault : (line : List ℕ) (number : ℕ) (f : MapFault) (place : Place) → IsOver place → SaysNoSize HeightLine 65535 number line f
    → HasMapFault f place height_due number line
height_fault line number (BadHeader at) place over p = (p.0, over, other_form HeightLine height_has_size line p.1 p.2)
height_fault line number (BadNumber at) place over p = (p.0, over, other_value HeightLine height_has_size line p.1)
height_fault line number (TooLarge at) place over p =
    let size = number_line-from_Size HeightLine height_has_size line p.1 p.2 in
    let capped = size.2 in
    let large = p.3 in
    (p.0, over, (size.0, size.1, omega (arith, capped, large)))
height_fault line number (BadTerrain at column) place over p = absurd p
height_fault line number (ShortRow at) place over p = absurd p
height_fault line number (LongRow at) place over p = absurd p
height_fault line number (MissingRows at) place over p = absurd p
height_fault line number (TextAfter at) place over p = absurd p
height_fault line number ReadFailed place over p = absurd p
height_fault line number OutOfMemory place over p = absurd p

-- a width past the limit, or of too many cells
width_large : (m n height : ℕ) → n ≡ min m 65536 → min 65535 (4194304 / height) < n → 0 < height → (65535 < m) ⊎ (4194304 < m * height)
width_large m n height capped large some = elim (cases_lt 65535 m) [
  | inl h ↦ inl h
  | inr h ↦
      let quotient : 4194304 / height < m = omega arith in
      inr ((div-lt_iff_lt-mul {x = 4194304} {y = m} some).0 quotient)
]

-- what is wrong with the line of the width
pub width_fault : (line : List ℕ) (height number : ℕ) (f : MapFault) (place : Place) → IsOver place → 0 < height
    → SaysNoSize WidthLine (min 65535 (4194304 / height)) number line f → HasMapFault f place (width_due height) number line
width_fault line height number (BadHeader at) place over some p = (p.0, over, other_form WidthLine width_has_size line p.1 p.2)
width_fault line height number (BadNumber at) place over some p = (p.0, over, other_value WidthLine width_has_size line p.1)
width_fault line height number (TooLarge at) place over some p =
    let size = number_line-from_Size WidthLine width_has_size line p.1 p.2 in
    (p.0, over, (size.0, size.1, width_large size.0 p.1 height size.2 p.3 some))
width_fault line height number (BadTerrain at column) place over some p = absurd p
width_fault line height number (ShortRow at) place over some p = absurd p
width_fault line height number (LongRow at) place over some p = absurd p
width_fault line height number (MissingRows at) place over some p = absurd p
width_fault line height number (TextAfter at) place over some p = absurd p
width_fault line height number ReadFailed place over some p = absurd p
width_fault line height number OutOfMemory place over some p = absurd p

-- lines that say what they should are not empty
pub says_words : (kind : HeaderLine) (line : List ℕ) → saying_of kind line ≡ Whole → 0 < length line
says_words kind line says = says_some kind line (λ none. let bad = sym says ∙ none in absurd (cc))

pub says_size : (kind : HeaderLine) (line : List ℕ) (n : ℕ) → saying_of kind line ≡ Size n → 0 < length line
says_size kind line n says = says_some kind line (λ none. let bad = sym says ∙ none in absurd (cc))
