-- What a line of a scenario holds: its content, and the fields into which that is cut.
use Rattle.std.specs.Prelude.{ℕ, Bool, ◌==◌, if◌then◌else◌, nat_lt, List, [], ◌∷◌, length, map}
use Rattle.std.specs.List.{filter, list_any, slice_split}
use Rattle.text_io.specs.Text.{tab, space, carriage_return, is_blank}

-- the line without the one CR at its end
abbrev pub without_return : List ℕ → List ℕ
without_return [] = []
without_return (b ∷ []) = if b == carriage_return then [] else b ∷ []
without_return (b ∷ c ∷ line) = b ∷ without_return (c ∷ line)

-- the bytes from the first on that is no blank
abbrev pub without_leading : List ℕ → List ℕ
without_leading [] = []
without_leading (b ∷ bytes) = if is_blank b then without_leading bytes else b ∷ bytes

-- b, and what is left of the bytes behind it; a blank alone is nothing
abbrev pub before_trailing : ℕ → List ℕ → List ℕ
before_trailing b [] = if is_blank b then [] else b ∷ []
before_trailing b (c ∷ bytes) = b ∷ c ∷ bytes

-- the bytes up to the last that is no blank
abbrev pub without_trailing : List ℕ → List ℕ
without_trailing [] = []
without_trailing (b ∷ bytes) = before_trailing b (without_trailing bytes)

-- the bytes without the blanks at both ends
abbrev pub trimmed : List ℕ → List ℕ
trimmed bytes = without_trailing (without_leading bytes)

-- what is left of a line: first the CR at its end is taken off, then the blanks at both ends
abbrev pub content_of : List ℕ → List ℕ
content_of line = trimmed (without_return line)

-- a tab where the content holds one, and else a space
abbrev pub separator_of : List ℕ → ℕ
separator_of content = if list_any (λ b. b == tab) content then tab else space

abbrev pub has_bytes : List ℕ → Bool
has_bytes bytes = nat_lt 0 (length bytes)

-- the parts between the separators, without the blanks at their ends; a part with nothing else is
-- no field
abbrev pub fields_between : ℕ → List ℕ → List (List ℕ)
fields_between separator bytes =
    filter has_bytes (map trimmed (slice_split (λ b. b == separator) bytes))

-- the fields of a line's content
abbrev pub fields_in_content : List ℕ → List (List ℕ)
fields_in_content content = fields_between (separator_of content) content

-- the fields of a line
abbrev pub fields_of : List ℕ → List (List ℕ)
fields_of line = fields_in_content (content_of line)
