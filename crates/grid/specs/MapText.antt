-- The text of a map of type `octile` (MovingAI, map format): which texts spell a map.
use Rattle.std.specs.Prelude.{◌≡◌, ℕ, ◌⊎◌, Bool, true, false, ◌&&◌, ◌||◌, ◌==◌, IsTrue, List}
use Rattle.std.specs.Prelude.{[], ◌∷◌, ◌++◌, length, map, take, drop, zero, suc, codes, decimal}
use Rattle.std.specs.List.{list_all, AllByRecursion}
use Rattle.grid.specs.declared.terrain.Terrain.{Terrain}
use Rattle.text_io.specs.Text.{carriage_return, is_blank, lines_of, ended, IsGap, SpellsNumber}
use Rattle.grid.specs.Terrain.{character_of}
use Rattle.grid.specs.Map.{Grid, IsMap}

abbrev pub is_empty : List ℕ → Bool
is_empty [] = true
is_empty (b ∷ bytes) = false

-- What may follow the content of a header line: blanks, and then a CR or nothing.
abbrev pub is_tail : List ℕ → Bool
is_tail [] = true
is_tail (b ∷ bytes) = (is_blank b && is_tail bytes) || (b == carriage_return && is_empty bytes)

-- `type octile`
pub record IsTypeLine (line : List ℕ) : Type 0 where
  pub gap : List ℕ
  pub tail : List ℕ
  pub bytes : line ≡ codes "type" ++ gap ++ codes "octile" ++ tail
  pub is_gap : IsGap gap
  pub is_tail : IsTrue (is_tail tail)

-- the word and a number, as `height 2`
pub record IsNumberLine (word : List ℕ) (n : ℕ) (line : List ℕ) : Type 0 where
  pub gap : List ℕ
  pub digits : List ℕ
  pub tail : List ℕ
  pub bytes : line ≡ word ++ gap ++ digits ++ tail
  pub is_gap : IsGap gap
  pub number : SpellsNumber n digits
  pub is_tail : IsTrue (is_tail tail)

-- `map`
pub record IsMapLine (line : List ℕ) : Type 0 where
  pub tail : List ℕ
  pub bytes : line ≡ codes "map" ++ tail
  pub is_tail : IsTrue (is_tail tail)

-- the characters, and perhaps a CR
abbrev pub IsRowOf : List ℕ → List ℕ → Type 0
IsRowOf characters line = (line ≡ characters) ⊎ (line ≡ characters ++ carriage_return ∷ [])

-- each line has the characters of the next so many cells
abbrev pub AreRows : ℕ → List Terrain → List (List ℕ) → Type 0
AreRows width terrain [] = terrain ≡ []
AreRows width terrain (line ∷ lines) =
    (row rest : List Terrain) × (terrain ≡ row ++ rest) × (length row ≡ width)
    × IsRowOf (map character_of row) line
    × AreRows width rest lines

-- a blank or a CR
abbrev pub is_rest_byte : ℕ → Bool
is_rest_byte b = is_blank b || b == carriage_return

-- The text spells the map: its lines are four of the header, one for each row, and then lines with
-- no more than blanks and CRs.
pub record MapText (m : Grid) (text : List ℕ) : Type 0 where
  pub type_line : List ℕ
  pub height_line : List ℕ
  pub width_line : List ℕ
  pub map_line : List ℕ
  pub rows : List (List ℕ)
  pub rest : List (List ℕ)
  pub lines : lines_of text ≡ type_line ∷ height_line ∷ width_line ∷ map_line ∷ (rows ++ rest)
  pub is_type : IsTypeLine type_line
  pub is_height : IsNumberLine (codes "height") m.height height_line
  pub is_width : IsNumberLine (codes "width") m.width width_line
  pub is_map : IsMapLine map_line
  pub count : length rows ≡ m.height
  pub are_rows : AreRows m.width m.terrain rows
  pub are_blank : AllByRecursion (λ line. IsTrue (list_all is_rest_byte line)) rest
  pub within : IsMap m

-- the characters of so many rows, row by row
abbrev pub rows_of : ℕ → ℕ → List ℕ → List (List ℕ)
rows_of zero width characters = []
rows_of (suc count) width characters =
    take width characters ∷ rows_of count width (drop width characters)

-- the header that is written
abbrev pub header_lines : ℕ → ℕ → List (List ℕ)
header_lines width height =
    codes "type octile" ∷ (codes "height " ++ decimal height) ∷ (codes "width " ++ decimal width)
    ∷ codes "map" ∷ []

-- the one text that is written for a map
abbrev pub canonical_map_text : Grid → List ℕ
canonical_map_text m =
    ended (header_lines m.width m.height ++ rows_of m.height m.width (map character_of m.terrain))
