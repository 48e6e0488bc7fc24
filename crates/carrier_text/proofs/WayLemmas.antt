-- The cells that a drive may enter, one after another.
use Rattle.std.proofs.Common.{◌≡◌, ℕ, ◌+◌, ◌<◌, List, [], ◌∷◌, ◌++◌, length, drop, get_or, ap, ◌∙◌, append_assoc, codes}
use Rattle.std.specs.Prelude.{decimal}
use Rattle.std.proofs.lemmas.Grind.{flat_map-append}
use Rattle.std.proofs.lemmas.List.{drop_more}
use Rattle.text_io.specs.Text.{line_feed, spaced_numbers}
use Rattle.grid.specs.declared.cell.Cell.{Cell}
use Rattle.carrier_text.specs.AnswerLines.{columns_and_rows}

-- what is left of a line, up to its LF
abbrev pub way_left : List Cell → List ℕ
way_left cells = spaced_numbers (columns_and_rows cells) ++ line_feed ∷ []

first_cell : (c : Cell) (cells : List Cell) → way_left (c ∷ cells) ≡ spaced_numbers (c.x ∷ c.y ∷ []) ++ way_left cells
first_cell c cells =
    let numbers = c.x ∷ c.y ∷ [] in
    let both : spaced_numbers (numbers ++ columns_and_rows cells) ≡ spaced_numbers numbers ++ spaced_numbers (columns_and_rows cells)
    = flat_map-append (λ n. codes " " ++ decimal n) numbers (columns_and_rows cells) in
    ap (λ text. text ++ line_feed ∷ []) both ∙ append_assoc (spaced_numbers numbers) (spaced_numbers (columns_and_rows cells)) (line_feed ∷ [])

-- the column and the row of the next cell, and what is left then
pub next_cell : (cells : List Cell) (i : ℕ) (c : Cell) → i < length cells
    → way_left (drop i cells) ≡ spaced_numbers ((get_or cells i c).x ∷ (get_or cells i c).y ∷ []) ++ way_left (drop (i + 1) cells)
next_cell cells i c below = ap way_left (drop_more cells i c below) ∙ first_cell (get_or cells i c) (drop (i + 1) cells)
