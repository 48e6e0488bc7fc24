-- Where the acts lead on a board.
use Rattle.std.proofs.Common.{◌≡◌, ℕ, ℤ, ◌+◌, ◌*◌, ◌<◌, ◌≤◌, pos, ◌+ℤ◌, ◌-ℤ◌, arith, ap, ◌∙◌}
use Rattle.std.proofs.lemmas.Int.{ints}
use Rattle.std.proofs.lemmas.Nat.{same_from_place}
use Rattle.std.proofs.Math.Nat.{mul-le-mul_right}
use Rattle.grid.specs.declared.cell.Cell.{Cell}
use Rattle.grid.specs.Map.{Grid, IsSize}
use Rattle.model.specs.declared.act.Act.{Act}
use Rattle.model.specs.declared.act.Act.TheVariants.{N, E, S, W, Wait}
use Rattle.model.specs.Plan.{Position, position_of, moved}
use Rattle.checker.specs.declared.crowd.Turns.{Turns}
use Rattle.checker.specs.Code.Standing.{IsOnGrid}
use Rattle.checker.specs.Code.Squares.{wide_of, place_on}
use Rattle.checker.specs.Code.Crowd.{forward_of, back_of, turn_by, led_to, AreActTurns, IsInside}

row_more : (a w : ℕ) → (a + 1) * w ≡ a * w + w
row_more a w = omega arith

position_by : (v : Cell) (p : Position) → pos v.x ≡ p.x → pos v.y ≡ p.y → position_of v ≡ p
position_by v p across down =
    ap {A = ℤ} {B = Position} (λ x. record { x = x; y = pos v.y }) across ∙ ap {A = ℤ} {B = Position} (λ y. record { x = p.x; y = y }) down

-- a cell whose square is that to which the act leads is where the act leads
pub from_place : (m : Grid) (turns : Turns) (act : Act) (c v : Cell) → AreActTurns (wide_of m) turns → IsOnGrid m c → IsOnGrid m v
    → place_on m v ≡ led_to turns act (place_on m c) → position_of v ≡ moved act (position_of c)
from_place m turns N c v h on there at =
    let turn = h.each N in
    let ahead = turn.ahead in
    let back = turn.back in
    let left = on.column in
    let right = there.column in
    let more = row_more v.y (wide_of m) in
    let same = same_from_place (v.y + 1) v.x c.y c.x (wide_of m) (omega (arith, right)) (omega (arith, left)) (omega (arith, more, at, ahead, back)) in
    let down = same.0 in
    position_by v (moved N (position_of c)) (ap pos same.1) (omega (arith, ints, down))
from_place m turns E c v h on there at =
    let turn = h.each E in
    let ahead = turn.ahead in
    let back = turn.back in
    let left = on.column in
    let right = there.column in
    let same = same_from_place v.y v.x c.y (c.x + 1) (wide_of m) (omega (arith, right)) (omega (arith, left)) (omega (arith, at, ahead, back)) in
    let across = same.1 in
    position_by v (moved E (position_of c)) (omega (arith, ints, across)) (ap pos same.0)
from_place m turns S c v h on there at =
    let turn = h.each S in
    let ahead = turn.ahead in
    let back = turn.back in
    let left = on.column in
    let right = there.column in
    let more = row_more c.y (wide_of m) in
    let same = same_from_place v.y v.x (c.y + 1) c.x (wide_of m) (omega (arith, right)) (omega (arith, left)) (omega (arith, more, at, ahead, back)) in
    let down = same.0 in
    position_by v (moved S (position_of c)) (ap pos same.1) (omega (arith, ints, down))
from_place m turns W c v h on there at =
    let turn = h.each W in
    let ahead = turn.ahead in
    let back = turn.back in
    let left = on.column in
    let right = there.column in
    let same = same_from_place v.y (v.x + 1) c.y c.x (wide_of m) (omega (arith, right)) (omega (arith, left)) (omega (arith, at, ahead, back)) in
    let across = same.1 in
    position_by v (moved W (position_of c)) (omega (arith, ints, across)) (ap pos same.0)
from_place m turns Wait c v h on there at =
    let turn = h.each Wait in
    let ahead = turn.ahead in
    let back = turn.back in
    let left = on.column in
    let right = there.column in
    let same = same_from_place v.y v.x c.y c.x (wide_of m) (omega (arith, right)) (omega (arith, left)) (omega (arith, at, ahead, back)) in
    position_by v (position_of c) (ap pos same.1) (ap pos same.0)

row_two : (a w : ℕ) → (a + 2) * w ≡ a * w + w + w
row_two a w = omega arith

row_of : (a b w : ℕ) → a ≡ b + 1 → a * w ≡ b * w + w
row_of a b w e = ap (λ n. n * w) e ∙ row_more b w

row_same : (a b w : ℕ) → a ≡ b → a * w ≡ b * w
row_same a b w e = ap (λ n. n * w) e

-- the act leads to the square of the cell to which it leads
pub to_place : (m : Grid) (turns : Turns) (act : Act) (c v : Cell) → AreActTurns (wide_of m) turns → position_of v ≡ moved act (position_of c)
    → led_to turns act (place_on m c) ≡ place_on m v
to_place m turns N c v h at =
    let turn = h.each N in
    let ahead = turn.ahead in
    let back = turn.back in
    let across : pos v.x ≡ pos c.x = ap (λ p. p.x) at in
    let down : pos v.y ≡ pos c.y -ℤ pos 1 = ap (λ p. p.y) at in
    let x : v.x ≡ c.x = omega (arith, ints, across) in
    let rows = row_of c.y v.y (wide_of m) (omega (arith, ints, down)) in
    omega (arith, rows, x, ahead, back)
to_place m turns E c v h at =
    let turn = h.each E in
    let ahead = turn.ahead in
    let back = turn.back in
    let across : pos v.x ≡ pos c.x +ℤ pos 1 = ap (λ p. p.x) at in
    let down : pos v.y ≡ pos c.y = ap (λ p. p.y) at in
    let x : v.x ≡ c.x + 1 = omega (arith, ints, across) in
    let rows = row_same c.y v.y (wide_of m) (omega (arith, ints, down)) in
    omega (arith, rows, x, ahead, back)
to_place m turns S c v h at =
    let turn = h.each S in
    let ahead = turn.ahead in
    let back = turn.back in
    let across : pos v.x ≡ pos c.x = ap (λ p. p.x) at in
    let down : pos v.y ≡ pos c.y +ℤ pos 1 = ap (λ p. p.y) at in
    let x : v.x ≡ c.x = omega (arith, ints, across) in
    let rows = row_of v.y c.y (wide_of m) (omega (arith, ints, down)) in
    omega (arith, rows, x, ahead, back)
to_place m turns W c v h at =
    let turn = h.each W in
    let ahead = turn.ahead in
    let back = turn.back in
    let across : pos v.x ≡ pos c.x -ℤ pos 1 = ap (λ p. p.x) at in
    let down : pos v.y ≡ pos c.y = ap (λ p. p.y) at in
    let x : c.x ≡ v.x + 1 = omega (arith, ints, across) in
    let rows = row_same c.y v.y (wide_of m) (omega (arith, ints, down)) in
    omega (arith, rows, x, ahead, back)
to_place m turns Wait c v h at =
    let turn = h.each Wait in
    let ahead = turn.ahead in
    let back = turn.back in
    let across : pos v.x ≡ pos c.x = ap (λ p. p.x) at in
    let down : pos v.y ≡ pos c.y = ap (λ p. p.y) at in
    let x : v.x ≡ c.x = omega (arith, ints, across) in
    let rows = row_same c.y v.y (wide_of m) (omega (arith, ints, down)) in
    omega (arith, rows, x, ahead, back)

-- ---- a board has room for each step from a cell

pub board_limit : (width height : ℕ) → IsSize width height → (height + 2) * (width + 2) ≤ 4456448
board_limit width height size =
    let wide = size.width_limit in
    let high = size.height_limit in
    let cells = size.cell_limit in
    omega (arith, wide, high, cells)

within_rows : (m : Grid) (c : Cell) → IsOnGrid m c → c.y * wide_of m + wide_of m ≤ m.height * wide_of m
within_rows m c on =
    let row = on.row in
    let most : (c.y + 1) * wide_of m ≤ m.height * wide_of m = mul-le-mul_right (wide_of m) (omega (arith, row)) in
    omega (arith, most, row_more c.y (wide_of m))

pub within_board : (m : Grid) (c : Cell) → IsOnGrid m c → place_on m c < (m.height + 2) * wide_of m
within_board m c on =
    let rows = within_rows m c on in
    let column = on.column in
    let two = row_two m.height (wide_of m) in
    omega (arith, rows, column, two)

-- an act changes the place by a row at most
small_steps : (wide : ℕ) → 0 < wide → (act : Act) → (forward_of wide act ≤ wide) × (back_of wide act ≤ wide)
small_steps wide some N = (omega arith, omega arith)
small_steps wide some E = (omega (arith, some), omega arith)
small_steps wide some S = (omega arith, omega arith)
small_steps wide some W = (omega arith, omega (arith, some))
small_steps wide some Wait = (omega arith, omega arith)

pub inside : (m : Grid) (turns : Turns) (c : Cell) → IsSize m.width m.height → AreActTurns (wide_of m) turns → IsOnGrid m c
    → IsInside turns ((m.height + 2) * wide_of m) (place_on m c)
inside m turns c size h on =
    let rows = within_rows m c on in
    let column = on.column in
    let limit = board_limit m.width m.height size in
    let two = row_two m.height (wide_of m) in
    let steps : (act : Act) → ((turn_by turns act).ahead ≤ wide_of m) × ((turn_by turns act).back ≤ wide_of m) = λ act. (
    let small = small_steps (wide_of m) (omega arith) act in
    let ahead = (h.each act).ahead in
    let back = (h.each act).back in
    let first = small.0 in
    let second = small.1 in
    (omega (arith, ahead, first), omega (arith, back, second))
    ) in
    record {
      here = within_board m c on;
      fits = λ act. (let first = (steps act).0 in omega (arith, rows, column, two, limit, first));
      back = λ act. (let second = (steps act).1 in omega (arith, second));
      there = λ act. (let first = (steps act).0 in omega (arith, rows, column, two, first));
    }
