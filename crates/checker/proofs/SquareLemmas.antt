-- The squares that a map lays.
use Rattle.std.proofs.Common.{◌≡◌, ℕ, ◌+◌, ◌*◌, ◌<◌, ◌≤◌, List, length, get_or, set, map, replicate, arith, sym, ap, subst, inl, inr, ◌∙◌}
use Rattle.std.proofs.lemmas.Bool.{cases_eq, cases_lt}
use Rattle.std.proofs.lemmas.Nat.{mul-add-lt, same_from_place}
use Rattle.std.proofs.lemmas.List.{length-set, get_or-set_same, get_or-set_other, get_or-map, length-replicate, get_or-replicate, get_or_past}
use Rattle.grid.specs.declared.cell.Cell.{Cell}
use Rattle.grid.specs.declared.terrain.Terrain.TheVariants.{Floor}
use Rattle.grid.specs.Terrain.{character_of}
use Rattle.grid.specs.Map.{Grid, IsMap}
use Rattle.checker.specs.declared.board.Square.{Square}
use Rattle.checker.specs.Code.Standing.{IsOnGrid, place_in}
use Rattle.checker.specs.Code.Squares.{ground_in, mark_in, square_at, ground_by, wide_of, place_on, IsOpen, HasGround, IsSquareOf, IsBoard, IsLaid}
use Rattle.checker.specs.Laws.Walking.{terrain_on}

-- a cell has one ground
pub one_ground : (m : Grid) (u : Cell) (g h : ℕ) → HasGround m u g → HasGround m u h → g ≡ h
one_ground m u g h hg hh =
    let same : hg.terrain ≡ hh.terrain = (let a = hg.has in let b = hh.has in cc) in
    hg.ground ∙ ap (λ t. ground_by (character_of t)) same ∙ sym hh.ground

-- by the character that stands for the cell
pub ground_here : (m : Grid) (c : Cell) → IsMap m → IsOnGrid m c → HasGround m c (ground_by (get_or (map character_of m.terrain) (place_in m.width c) 0))
ground_here m c is_map on =
    let count = is_map.cells in
    let within = mul-add-lt c.y m.width c.x m.height on.row on.column in
    let less : place_in m.width c < length m.terrain = omega (arith, count, within) in
    record {
      on_map = on;
      terrain = get_or m.terrain (place_in m.width c) Floor;
      has = terrain_on m c is_map on less;
      ground = ap ground_by (get_or-map character_of m.terrain (place_in m.width c) Floor 0 less);
    }

pub board-laid : (m : Grid) (squares : List Square) (c : Cell) (square : Square) → IsBoard m squares → place_on m c < length squares
    → HasGround m c (ground_in square) → IsBoard m (set squares (place_on m c) square)
board-laid m squares c square board within ground = record {
  size = length-set squares (place_on m c) square ∙ board.size;
  cells = λ place may_go. elim (cases_eq place (place_on m c)) [
    | inl here ↦ (
        let same : square_at (set squares (place_on m c) square) place ≡ square =
        ap (square_at (set squares (place_on m c) square)) here ∙ get_or-set_same squares (place_on m c) square (record { code = 0 }) within in
        record { cell = c; at = here; ground = subst (λ s. HasGround m c (ground_in s)) (sym same) ground }
        )
    | inr apart ↦ (
        let same : square_at (set squares (place_on m c) square) place ≡ square_at squares place =
        get_or-set_other squares (place_on m c) place square (record { code = 0 }) apart in
        subst (λ s. IsSquareOf m place (ground_in s)) (sym same) (board.cells place (subst (λ s. IsOpen (ground_in s)) same may_go))
        )
  ];
}

closed : (ground : ℕ) → ground ≡ 0 → IsOpen ground → ⊥
closed ground is (inl e) = omega (arith, is, e)
closed ground is (inr e) = omega (arith, is, e)

-- blocked squares alone
pub board-blank : (m : Grid) (count : ℕ) (square : Square) → count ≡ (m.height + 2) * wide_of m → ground_in square ≡ 0 → IsBoard m (replicate count square)
board-blank m count square size blank = record {
  size = length-replicate count square ∙ size;
  cells = λ place may_go. absurd (elim (cases_lt place count) [
    | inl within ↦ closed (ground_in (square_at (replicate count square) place))
        (ap ground_in (get_or-replicate count place square (record { code = 0 }) within) ∙ blank) may_go
    | inr past ↦ closed (ground_in (square_at (replicate count square) place))
        (ap ground_in (get_or_past (replicate count square) place (record { code = 0 }) (let long = length-replicate count square in omega (arith, long, past)))) may_go
  ]);
}

-- ---- cells laid one after another

one_cell : (m : Grid) (c d : Cell) (wide : ℕ) → m.width ≤ wide → IsOnGrid m c → IsOnGrid m d → c.y * wide + c.x ≡ d.y * wide + d.x → c ≡ d
one_cell m c d wide room on there at =
    let left = on.column in
    let right = there.column in
    let same = same_from_place c.y c.x d.y d.x wide (omega (arith, left, room)) (omega (arith, right, room)) at in
    ap {A = ℕ} {B = Cell} (λ x. record { x = x; y = c.y }) same.1 ∙ ap {A = ℕ} {B = Cell} (λ y. record { x = d.x; y = y }) same.0

pub laid-none : (m : Grid) (count : ℕ) (square : Square) → count ≡ (m.height + 2) * wide_of m → ground_in square ≡ 0 → mark_in square ≡ 0
    → IsLaid m (replicate count square) 0
laid-none m count square size blank unmarked = record {
  board = board-blank m count square size blank;
  cells = λ cell number less. absurd (omega (arith, less));
  unmarked = λ place. elim (cases_lt place count) [
    | inl within ↦ ap mark_in (get_or-replicate count place square (record { code = 0 }) within) ∙ unmarked
    | inr past ↦ ap mark_in (get_or_past (replicate count square) place (record { code = 0 }) (let long = length-replicate count square in omega (arith, long, past)))
  ];
}

pub laid-more : (m : Grid) (squares : List Square) (c : Cell) (square : Square) → IsLaid m squares (place_in m.width c) → place_on m c < length squares
    → HasGround m c (ground_in square) → mark_in square ≡ 0 → IsLaid m (set squares (place_on m c) square) (place_in m.width c + 1)
laid-more m squares c square laid within ground unmarked = record {
  board = board-laid m squares c square laid.board within ground;
  cells = λ cell number less has. elim (cases_lt (place_in m.width cell) (place_in m.width c)) [
    | inl before ↦ ap ground_in (get_or-set_other squares (place_on m c) (place_on m cell) square (record { code = 0 }) (λ one. (
        let same : cell ≡ c = one_cell m cell c (wide_of m) (omega arith) has.on_map ground.on_map (omega (arith, one)) in
        let equal = ap (place_in m.width) same in
        omega (arith, before, equal)
        ))) ∙ laid.cells cell number before has
    | inr after ↦ (
        let same : cell ≡ c = one_cell m cell c m.width (omega arith) has.on_map ground.on_map (omega (arith, less, after)) in
        ap (λ d. ground_in (square_at (set squares (place_on m c) square) (place_on m d))) same
        ∙ ap ground_in (get_or-set_same squares (place_on m c) square (record { code = 0 }) within)
        ∙ one_ground m c (ground_in square) number ground (subst (λ d. HasGround m d number) same has)
        )
  ];
  unmarked = λ place. elim (cases_eq place (place_on m c)) [
    | inl here ↦ ap (λ p. mark_in (square_at (set squares (place_on m c) square) p)) here
        ∙ ap mark_in (get_or-set_same squares (place_on m c) square (record { code = 0 }) within) ∙ unmarked
    | inr apart ↦ ap mark_in (get_or-set_other squares (place_on m c) place square (record { code = 0 }) apart) ∙ laid.unmarked place
  ];
}
