-- What the reader finds in a line's fields, by their definitions.
use Rattle.std.proofs.Common.{◌≡◌, ◌≢◌, ℕ, ◌≤◌, inl, inr, min, Bool, true, false, List, [], length, None, Some, refl, sym, ap, ◌∙◌, arith}
use Rattle.std.specs.Prelude.{nat_lt, ◌&&◌, ◌==◌}
use Rattle.std.proofs.lemmas.Bool.{both_ways, eqb-false, lt-ltb, le-ltb, cases_lt}
use Rattle.text_io.specs.Text.{IsLine}
use Rattle.scenario.specs.declared.numbers.Numbers.{Numbers}
use Rattle.scenario.specs.declared.scen_fault.ScenFault.TheVariants.{BadNumber, OutOfGrid, BadLength}
use Rattle.scenario.specs.Fields.{content_of, fields_in_content}
use Rattle.scenario.specs.Query.{Query}
use Rattle.scenario.specs.ScenText.{IsShort}
use Rattle.scenario.specs.ScenFault.{row_due, Fields, HasFields, all_fields, value_of, wrong_number, is_in_grid}
use Rattle.scenario.specs.Code.Parsing.{most_told, HasNumbers, are_in_grid, is_listed, listed_value, after_of, query_of, RefusesLine}
use Rattle.scenario.proofs.RowLemmas.{AreNumbers-from_none, LiesInGrid-from_test, size_parts, AreRight, same_query}
use Rattle.scenario.proofs.ListedLemmas.{test-from_spells}

-- a number past most is not below a limit that is not past it
nat_lt-min : (v limit most : ℕ) → limit ≤ most → nat_lt (min v most) limit ≡ nat_lt v limit
nat_lt-min v limit most h = elim (cases_lt v limit) [
  | inl less ↦ lt-ltb (min v most) limit (omega arith) ∙ sym (lt-ltb v limit less)
  | inr more ↦ le-ltb (min v most) limit (omega arith) ∙ sym (le-ltb v limit more)
]

-- the test of the numbers is that of the fields
pub in_grid-from_numbers : (f : Fields) (n : Numbers) → wrong_number f ≡ None → HasNumbers f n → are_in_grid n ≡ is_in_grid f
in_grid-from_numbers f n right h =
    let numbers = AreNumbers-from_none f right in
    let width = size_parts f.width numbers.width in
    let height = size_parts f.height numbers.height in
    let column = λ (v : ℕ). nat_lt-min v (value_of f.width) most_told (omega (arith, width.2)) in
    let row = λ (v : ℕ). nat_lt-min v (value_of f.height) most_told (omega (arith, height.2)) in
    let start_x : nat_lt n.start_x n.width ≡ nat_lt (value_of f.start_x) (value_of f.width) =
    ap (λ v. nat_lt v n.width) h.start_x ∙ (ap (nat_lt (min (value_of f.start_x) most_told)) h.width ∙ column (value_of f.start_x)) in
    let start_y : nat_lt n.start_y n.height ≡ nat_lt (value_of f.start_y) (value_of f.height) =
    ap (λ v. nat_lt v n.height) h.start_y ∙ (ap (nat_lt (min (value_of f.start_y) most_told)) h.height ∙ row (value_of f.start_y)) in
    let goal_x : nat_lt n.goal_x n.width ≡ nat_lt (value_of f.goal_x) (value_of f.width) =
    ap (λ v. nat_lt v n.width) h.goal_x ∙ (ap (nat_lt (min (value_of f.goal_x) most_told)) h.width ∙ column (value_of f.goal_x)) in
    let goal_y : nat_lt n.goal_y n.height ≡ nat_lt (value_of f.goal_y) (value_of f.height) =
    ap (λ v. nat_lt v n.height) h.goal_y ∙ (ap (nat_lt (min (value_of f.goal_y) most_told)) h.height ∙ row (value_of f.goal_y)) in
    ap (λ t. t && nat_lt n.start_y n.height && nat_lt n.goal_x n.width && nat_lt n.goal_y n.height) start_x
    ∙ (ap (λ t. nat_lt (value_of f.start_x) (value_of f.width) && t && nat_lt n.goal_x n.width && nat_lt n.goal_y n.height) start_y
    ∙ (ap (λ t. nat_lt (value_of f.start_x) (value_of f.width) && nat_lt (value_of f.start_y) (value_of f.height) && t && nat_lt n.goal_y n.height) goal_x
    ∙ ap (λ t. nat_lt (value_of f.start_x) (value_of f.width) && nat_lt (value_of f.start_y) (value_of f.height)
    && nat_lt (value_of f.goal_x) (value_of f.width) && t) goal_y))

-- the coordinates of a start and a goal in the grid
pub record AreCoordinates (f : Fields) (n : Numbers) : Type 0 where
  pub start_x : n.start_x ≡ value_of f.start_x
  pub start_y : n.start_y ≡ value_of f.start_y
  pub goal_x : n.goal_x ≡ value_of f.goal_x
  pub goal_y : n.goal_y ≡ value_of f.goal_y

pub coordinates : (f : Fields) (n : Numbers) → wrong_number f ≡ None → HasNumbers f n → is_in_grid f ≡ true → AreCoordinates f n
coordinates f n right h inside =
    let numbers = AreNumbers-from_none f right in
    let width = size_parts f.width numbers.width in
    let height = size_parts f.height numbers.height in
    let lies = LiesInGrid-from_test f inside in
    record {
      start_x = omega (arith, h.start_x, width.2, lies.start_column);
      start_y = omega (arith, h.start_y, height.2, lies.start_row);
      goal_x = omega (arith, h.goal_x, width.2, lies.goal_column);
      goal_y = omega (arith, h.goal_y, height.2, lies.goal_row);
    }

-- the row that was read is that of its fields
pub row_read : (f : Fields) (n : Numbers) (q : Query) → HasNumbers f n → AreCoordinates f n → q.bucket ≡ n.bucket → q.name ≡ f.name
    → q.width ≡ n.width → q.height ≡ n.height → q.start.x ≡ n.start_x → q.start.y ≡ n.start_y → q.goal.x ≡ n.goal_x → q.goal.y ≡ n.goal_y
    → q.listed ≡ listed_value f.listed → q.decimals ≡ length (after_of f.listed) → q ≡ query_of f
row_read f n q h at bucket name width height start_x start_y goal_x goal_y listed decimals =
    same_query q _ _ _ _ _ _ _ _ _ _ (bucket ∙ h.bucket) name (width ∙ h.width) (height ∙ h.height) (start_x ∙ at.start_x)
    (start_y ∙ at.start_y) (goal_x ∙ at.goal_x) (goal_y ∙ at.goal_y) listed decimals

-- ---- the faults of a line that is over

-- a line that is judged as a row
pub record IsRowLine (line : List ℕ) (f : Fields) : Type 0 where
  pub is_line : IsLine line
  pub short : IsShort line
  pub some : content_of line ≢ []
  pub has : HasFields line f

-- a line whose content is not empty and has these fields
pub row_line-from_content : (line content : List ℕ) (none : Bool) (f : Fields) → IsLine line → IsShort line → content ≡ content_of line
    → none ≡ (length content == 0) → none ≡ false → fields_in_content content ≡ all_fields f → IsRowLine line f
row_line-from_content line content none f is_line short is empty some fields = record {
  is_line = is_line;
  short = short;
  some = λ e. eqb-false (length content) 0 (sym empty ∙ some) (ap length (is ∙ e));
  has = ap fields_in_content (sym is) ∙ fields;
}

pub faults-number : (number : ℕ) (line : List ℕ) (f : Fields) (field : ℕ) → IsRowLine line f → wrong_number f ≡ Some field
    → RefusesLine row_due number line (BadNumber number field)
faults-number number line f field h wrong = inr (λ place over. (refl, (over, refl, h.short, h.some), f, h.has, wrong))

pub faults-grid : (number : ℕ) (line : List ℕ) (f : Fields) → IsRowLine line f → wrong_number f ≡ None → is_in_grid f ≡ false
    → RefusesLine row_due number line (OutOfGrid number)
faults-grid number line f h right outside = inr (λ place over. (refl, (over, refl, h.short, h.some), f, h.has, right, outside))

pub faults-length : (number : ℕ) (line : List ℕ) (f : Fields) → IsRowLine line f → wrong_number f ≡ None → is_in_grid f ≡ true
    → is_listed f.listed ≡ false → RefusesLine row_due number line (BadLength number)
faults-length number line f h right inside unlisted =
    inr (λ place over. (
      refl,
      (over, refl, h.short, h.some),
      f,
      h.has,
      right,
      inside,
      λ spells. let passes = test-from_spells spells.0 spells.1 f.listed spells.2 in both_ways (is_listed f.listed) unlisted passes.listed,
    ))

-- right fields
pub are_right : (line : List ℕ) (f : Fields) → IsRowLine line f → wrong_number f ≡ None → is_in_grid f ≡ true → is_listed f.listed ≡ true → AreRight line f
are_right line f h right inside listed = record {
  is_line = h.is_line;
  short = h.short;
  has = h.has;
  numbers = right;
  in_grid = inside;
  listed = listed;
}
