-- The text of cells, one after another.
use Rattle.std.proofs.Common.{◌≡◌, ℕ, ◌+◌, ◌<◌, List, [], ◌∷◌, ◌++◌, length, get_or, take, Some, append_assoc, refl, sym, ap, ◌∙◌}
use Rattle.std.specs.Prelude.{codes, decimal, slice_get}
use Rattle.std.proofs.lemmas.Grind.{flat_map-append}
use Rattle.std.proofs.lemmas.List.{take_more}
use Rattle.grid.specs.declared.cell.Cell.{Cell}
use Rattle.text_io.specs.Text.{spaced_numbers}
use Rattle.plan_commands.specs.PathText.{numbers_of}
use Rattle.plan_commands.specs.Code.Numerals.{AreNumerals}
use Rattle.plan_commands.proofs.NumeralLemmas.{both}
use Rattle.plan_commands.proofs.RowLemmas.{no_cell}

numbers-append : (cells others : List Cell) → numbers_of (cells ++ others) ≡ numbers_of cells ++ numbers_of others
numbers-append [] others = refl
numbers-append (c ∷ cells) others = ap (λ ns. c.x ∷ c.y ∷ ns) (numbers-append cells others)

abbrev pub text_of : List Cell → List ℕ
text_of cells = spaced_numbers (numbers_of cells)

pub text-append : (cells others : List Cell) → text_of (cells ++ others) ≡ text_of cells ++ text_of others
text-append cells others =
    ap spaced_numbers (numbers-append cells others) ∙ flat_map-append (λ n. codes " " ++ decimal n) (numbers_of cells) (numbers_of others)

-- two numerals more are the text of a cell more
pub text_more : (cells : List Cell) (texts : List (List ℕ)) (i len mid end : ℕ) (old one both_in first second : List ℕ) → i < length cells → AreNumerals texts
    → slice_get texts (get_or cells i no_cell).x ≡ Some first → slice_get texts (get_or cells i no_cell).y ≡ Some second
    → take len old ≡ text_of (take i cells) → take mid one ≡ take len old ++ first → take end both_in ≡ take mid one ++ second
    → take end both_in ≡ text_of (take (i + 1) cells)
text_more cells texts i len mid end old one both_in first second less h at_x at_y before column row =
    let cell = get_or cells i no_cell in
    row ∙ ap (λ l. l ++ second) (column ∙ ap (λ l. l ++ first) before)
    ∙ append_assoc (text_of (take i cells)) first second
    ∙ ap (λ l. text_of (take i cells) ++ l) (both texts cell.x cell.y first second (first ++ second) h at_x at_y refl)
    ∙ sym (text-append (take i cells) (cell ∷ []))
    ∙ sym (ap text_of (take_more cells i no_cell less))
