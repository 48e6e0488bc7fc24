-- The line of a time tells the time and the cells, and the text of rows tells their list.
use Rattle.std.proofs.Common.{◌≡◌, ℕ, ◌+◌, ◌^◌, ◌<◌, true, false, not, List, [], ◌∷◌, ◌++◌, length, map, refl, sym, ap, ap₂, ◌∙◌, arith, append-nil}
use Rattle.std.specs.Prelude.{decimal, ◌==◌}
use Rattle.std.specs.List.{All, AllByRecursion, list_all, slice_split}
use Rattle.std.specs.Str.Parse.{digits_value}
use Rattle.std.proofs.lemmas.Bool.{and_from, and_parts, eq-eqb, not-true}
use Rattle.std.proofs.lemmas.List.Elements.{All-head, All-tail, All-weaker}
use Rattle.std.proofs.lemmas.List.Folds.{list_all-append}
use Rattle.std.proofs.lemmas.List.Splits.{slice_split_at, slice_split_none}
use Rattle.std.proofs.lemmas.List.Sums.{AllPass-from_list_all}
use Rattle.grid.specs.declared.cell.Cell.{Cell}
use Rattle.text_io.specs.Text.{space, is_line_byte, lines_of, IsLine, spaced_numbers, is_part_byte, IsPart}
use Rattle.text_io.specs.Laws.Lines.{lines_of-all}
use Rattle.text_io.specs.Laws.Numerals.{decimal-IsNumeral}
use Rattle.text_io.specs.Laws.Parts.{decimal-is_part, IsLine-part}
use Rattle.plan_commands.specs.PathText.{AreWithinWidths, IsCellShort, numbers_of, path_line, path_lines, path_text}

-- ---- one line

no_space : (bytes : List ℕ) → IsPart bytes → All (λ b. (b == space) ≡ false) bytes
no_space bytes h =
    All-weaker (λ b. is_part_byte b ≡ true) (λ b. (b == space) ≡ false)
    (λ b k. not-true (b == space) (and_parts (not (b == space)) (is_line_byte b) k).0) bytes
    (AllPass-from_list_all is_part_byte bytes h)

-- a number fits 64 bits
abbrev Fits : ℕ → Type 0
Fits n = n < 2 ^ 64

-- each of the numbers does
abbrev AllFit : List ℕ → Type 0
AllFit [] = Unit {0}
AllFit (n ∷ ns) = Fits n × AllFit ns

-- the line of numbers, cut at its spaces
parts : (n : ℕ) (ns : List ℕ) → Fits n → AllFit ns → slice_split (λ b. b == space) (decimal n ++ spaced_numbers ns) ≡ decimal n ∷ map decimal ns
parts n [] fits all =
    ap (slice_split (λ b. b == space)) (append-nil (decimal n)) ∙ slice_split_none (λ b. b == space) (decimal n) (no_space (decimal n) (decimal-is_part n fits))
parts n (k ∷ ns) fits all =
    slice_split_at (λ b. b == space) (decimal n) space (decimal k ++ spaced_numbers ns) (no_space (decimal n) (decimal-is_part n fits)) (eq-eqb space space refl)
    ∙ ap (λ xs. decimal n ∷ xs) (parts k ns all.0 all.1)

same_number : (m n : ℕ) → Fits m → Fits n → decimal m ≡ decimal n → m ≡ n
same_number m n fits also same = sym (decimal-IsNumeral m fits).spells.2 ∙ (ap (λ ds. digits_value 10 ds) same ∙ (decimal-IsNumeral n also).spells.2)

same_numbers : (ms ns : List ℕ) → AllFit ms → AllFit ns → map decimal ms ≡ map decimal ns → ms ≡ ns
same_numbers [] [] fits also e = refl
same_numbers [] (n ∷ ns) fits also e = cc
same_numbers (m ∷ ms) [] fits also e = cc
same_numbers (m ∷ ms) (n ∷ ns) fits also e =
    let first : decimal m ≡ decimal n = cc in
    let rest : map decimal ms ≡ map decimal ns = cc in
    ap₂ (λ k ks. k ∷ ks) (same_number m n fits.0 also.0 first) (same_numbers ms ns fits.1 also.1 rest)

fitting : (cells : List Cell) → All IsCellShort cells → AllFit (numbers_of cells)
fitting [] h = tt
fitting (c ∷ cells) h =
    let short = All-head IsCellShort c cells h in
    let column = short.0 in
    let row = short.1 in
    (omega (arith, column), (omega (arith, row), fitting cells (All-tail IsCellShort c cells h)))

same_numbers_of : (cells others : List Cell) → numbers_of cells ≡ numbers_of others → cells ≡ others
same_numbers_of [] [] e = refl
same_numbers_of [] (d ∷ others) e = cc
same_numbers_of (c ∷ cells) [] e = cc
same_numbers_of (c ∷ cells) (d ∷ others) e =
    let across : c.x ≡ d.x = cc in
    let down : c.y ≡ d.y = cc in
    let rest : numbers_of cells ≡ numbers_of others = cc in
    let first : c ≡ d = ap₂ {A = ℕ} {B = ℕ} {C = Cell} (λ x y. record { x = x; y = y }) across down in
    ap₂ (λ k ks. k ∷ ks) first (same_numbers_of cells others rest)

same_cells : (t : ℕ) (cells others : List Cell) → Fits t → All IsCellShort cells → All IsCellShort others → path_line t cells ≡ path_line t others → cells ≡ others
same_cells t cells others fits h k e =
    let both : decimal t ∷ map decimal (numbers_of cells) ≡ decimal t ∷ map decimal (numbers_of others)
    = sym (parts t (numbers_of cells) fits (fitting cells h)) ∙ (ap (slice_split (λ b. b == space)) e ∙ parts t (numbers_of others) fits (fitting others k)) in
    let rest : map decimal (numbers_of cells) ≡ map decimal (numbers_of others) = cc in
    same_numbers_of cells others (same_numbers (numbers_of cells) (numbers_of others) (fitting cells h) (fitting others k) rest)

IsLine-append : (xs ys : List ℕ) → IsLine xs → IsLine ys → IsLine (xs ++ ys)
IsLine-append xs ys h k = list_all-append is_line_byte xs ys ∙ and_from (list_all is_line_byte xs) _ h k

number-is_line : (n : ℕ) → Fits n → IsLine (decimal n)
number-is_line n fits = IsLine-part (decimal n) (decimal-is_part n fits)

numbers-is_line : (ns : List ℕ) → AllFit ns → IsLine (spaced_numbers ns)
numbers-is_line [] all = refl
numbers-is_line (n ∷ ns) all = IsLine-append (decimal n) (spaced_numbers ns) (number-is_line n all.0) (numbers-is_line ns all.1)

path_line-is_line : (t : ℕ) (cells : List Cell) → Fits t → All IsCellShort cells → IsLine (path_line t cells)
path_line-is_line t cells fits h =
    IsLine-append (decimal t) (spaced_numbers (numbers_of cells)) (number-is_line t fits) (numbers-is_line (numbers_of cells) (fitting cells h))

-- ---- all lines

are_lines : (t : ℕ) (rows : List (List Cell)) → Fits (t + length rows) → All (All IsCellShort) rows → AllByRecursion IsLine (path_lines t rows)
are_lines t [] fits h = tt
are_lines t (cells ∷ rows) fits h = (
  path_line-is_line t cells (omega (arith, fits)) (All-head (All IsCellShort) cells rows h),
  are_lines (t + 1) rows (omega (arith, fits)) (All-tail (All IsCellShort) cells rows h),
)

same_rows : (t : ℕ) (rows others : List (List Cell)) → Fits (t + length rows) → All (All IsCellShort) rows → All (All IsCellShort) others
    → path_lines t rows ≡ path_lines t others → rows ≡ others
same_rows t [] [] fits h k e = refl
same_rows t [] (d ∷ others) fits h k e = cc
same_rows t (c ∷ rows) [] fits h k e = cc
same_rows t (cells ∷ rows) (ds ∷ others) fits h k e =
    let line : path_line t cells ≡ path_line t ds = cc in
    let rest : path_lines (t + 1) rows ≡ path_lines (t + 1) others = cc in
    ap₂ (λ c cs. c ∷ cs)
    (same_cells t cells ds (omega (arith, fits)) (All-head (All IsCellShort) cells rows h) (All-head (All IsCellShort) ds others k) line)
    (same_rows (t + 1) rows others (omega (arith, fits)) (All-tail (All IsCellShort) cells rows h) (All-tail (All IsCellShort) ds others k) rest)

pub one_reading : (rows others : List (List Cell)) → AreWithinWidths rows → AreWithinWidths others → path_text rows ≡ path_text others → rows ≡ others
one_reading rows others h k e =
    let few = h.count in
    let also = k.count in
    same_rows 0 rows others (omega (arith, few)) h.cells k.cells
    (sym (lines_of-all (path_lines 0 rows) (are_lines 0 rows (omega (arith, few)) h.cells))
    ∙ (ap lines_of e ∙ lines_of-all (path_lines 0 others) (are_lines 0 others (omega (arith, also)) k.cells)))
