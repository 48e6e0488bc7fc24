-- The characters and lines that every format speaks of.
use Rattle.std.specs.Prelude.{◌≡◌, ℕ, ◌<◌, Bool, true, false, ◌||◌, ◌&&◌, not, ◌==◌}
use Rattle.std.specs.Prelude.{if◌then◌else◌, IsTrue, List, [], ◌∷◌, ◌++◌, length, codes, decimal}
use Rattle.std.specs.List.{flat_map, list_all}
use Rattle.std.specs.Char.{is_ascii_digit}
use Rattle.std.specs.Str.Parse.{digits_value}

abbrev pub tab : ℕ
tab = 9

abbrev pub line_feed : ℕ
line_feed = 10

abbrev pub carriage_return : ℕ
carriage_return = 13

abbrev pub space : ℕ
space = 32

-- a space or a tab
abbrev pub is_blank : ℕ → Bool
is_blank b = b == space || b == tab

-- a byte of a line, which its LF ends
abbrev pub is_line_byte : ℕ → Bool
is_line_byte b = if b == line_feed then false else true

-- the bytes of a line, without an LF
abbrev pub IsLine : List ℕ → Type 0
IsLine line = IsTrue (list_all is_line_byte line)

-- b stands before the first of the lines
abbrev pub onto_first : ℕ → List (List ℕ) → List (List ℕ)
onto_first b [] = (b ∷ []) ∷ []
onto_first b (line ∷ lines) = (b ∷ line) ∷ lines

-- the lines of a text, each without the LF that ends it; the end of the text may end the last
abbrev pub lines_of : List ℕ → List (List ℕ)
lines_of [] = []
lines_of (b ∷ bytes) = if b == line_feed then [] ∷ lines_of bytes else onto_first b (lines_of bytes)

-- the lines, each ended by an LF
abbrev pub ended : List (List ℕ) → List ℕ
ended lines = flat_map (λ line. line ++ line_feed ∷ []) lines

-- whether an LF is the last byte
abbrev pub ends_in_line_feed : List ℕ → Bool
ends_in_line_feed [] = false
ends_in_line_feed (b ∷ []) = b == line_feed
ends_in_line_feed (b ∷ c ∷ bytes) = ends_in_line_feed (c ∷ bytes)

-- one digit or more that spell a number
abbrev pub SpellsNumber : ℕ → List ℕ → Type 0
SpellsNumber n digits =
    IsTrue (list_all is_ascii_digit digits) × (0 < length digits) × (digits_value 10 digits ≡ n)

-- one blank or more
abbrev pub IsGap : List ℕ → Type 0
IsGap gap = IsTrue (list_all is_blank gap) × (0 < length gap)

-- numbers with a space before each
abbrev pub spaced_numbers : List ℕ → List ℕ
spaced_numbers numbers = flat_map (λ n. codes " " ++ decimal n) numbers

-- numbers with a byte before each that separates
abbrev pub separated : ℕ → List ℕ → List ℕ
separated separator numbers = flat_map (λ n. separator ∷ decimal n) numbers

abbrev pub BeginsWith : List ℕ → List ℕ → Type 0
BeginsWith word line = (rest : List ℕ) × (line ≡ word ++ rest)

-- a byte of a line that is no space
abbrev pub is_part_byte : ℕ → Bool
is_part_byte b = not (b == space) && is_line_byte b

-- bytes of a line between two spaces
abbrev pub IsPart : List ℕ → Type 0
IsPart bytes = IsTrue (list_all is_part_byte bytes)
