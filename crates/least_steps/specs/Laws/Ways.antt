-- Walks by their numbers, step by step, and what they take at least.
use Rattle.std.proofs.Common.{◌≡◌, ◌∙◌, ℕ, ◌+◌, ◌*◌, ◌<◌, ◌≤◌, Bool, true, false, List, []}
use Rattle.std.proofs.Common.{◌∷◌, ◌++◌, Some, None, inl, inr, arith, refl, sym, ap, subst}
use Rattle.std.specs.Prelude.{◌&&◌, if◌then◌else◌, nat_lt, Option, slice_get}
use Rattle.std.specs.Int.{abs_diff}
use Rattle.std.proofs.lemmas.Bool.{ltb-true, true≢false}
use Rattle.std.proofs.lemmas.Nat.{mul-add-lt}
use Rattle.grid.specs.declared.cell.Cell.{Cell}
use Rattle.grid.specs.declared.terrain.Terrain.{Terrain}
use Rattle.grid.specs.Map.{AreJoined, AreNext, Grid, IsDiagonalStep}
use Rattle.grid.specs.Map.{IsStraightStep, ShareSide, terrain_at}
use Rattle.walks.specs.Certificate.{AreOn}
use Rattle.walks.specs.Walk.{IsOn, IsWalk}
use Rattle.walks.specs.Laws.OctileSteps.{AreBeside, distance_step}
use Rattle.least_steps.specs.Code.Estimate.{least_number}
use Rattle.least_steps.specs.Code.Reaching.{IsMove, IsWay, WalksTo, number_in}

-- ---- cells on the map

both_within : (m : Grid) (c : Cell) (a b : Bool) → nat_lt c.x m.width ≡ a → nat_lt c.y m.height ≡ b
    → ((if a && b then slice_get m.terrain (c.y * m.width + c.x) else None) ≡ None → ⊥)
    → (c.x < m.width) × (c.y < m.height)
both_within m c true true x y on = (ltb-true c.x m.width x, ltb-true c.y m.height y)
both_within m c true false x y on = absurd (on refl)
both_within m c false b x y on = absurd (on refl)

pub on_map : (m : Grid) (c : Cell) → IsOn m c → (c.x < m.width) × (c.y < m.height)
on_map m c on = both_within m c (nat_lt c.x m.width) (nat_lt c.y m.height) refl refl on

pub number-inside : (m : Grid) (c : Cell) → IsOn m c → number_in m c < m.width * m.height
number-inside m c on =
    let inside = on_map m c on in mul-add-lt c.y m.width c.x m.height inside.1 inside.0

no_end : (o : Option Terrain) → AreJoined o None → ⊥
no_end None h = h
no_end (Some t) h = h

pub joined-on
    : (m : Grid) (u v : Cell) → AreJoined (terrain_at m u) (terrain_at m v) → IsOn m u × IsOn m v
joined-on m u v joined = (
  λ none. subst (λ o. AreJoined o (terrain_at m v)) none joined,
  λ none. no_end (terrain_at m u) (subst (λ o. AreJoined (terrain_at m u) o) none joined),
)

pub step-on : (m : Grid) (u v : Cell) → IsStraightStep m u v → IsOn m u × IsOn m v
step-on m u v step = joined-on m u v step.joined

pub corner-on : (m : Grid) (u v : Cell) → IsDiagonalStep m u v → IsOn m u × IsOn m v
corner-on m u v step = (
  (step-on m u (record { x = u.x; y = v.y }) step.first).0,
  (step-on m (record { x = u.x; y = v.y }) v step.first_on).1,
)

pub move-on
    : (m : Grid) (aslant : Bool) (u v : Cell) (n : ℕ) → IsMove m aslant u v n → IsOn m u × IsOn m v
move-on m aslant u v n (inl h) = step-on m u v h.0
move-on m aslant u v n (inr h) = corner-on m u v h.1

-- ---- steps of a walk

not_false : (b : Bool) → (b ≡ false → ⊥) → b ≡ true
not_false true h = refl
not_false false h = absurd (h refl)

-- a walk begins by one of its steps
pub first_move : (m : Grid) (aslant : Bool) (u v c w : Cell) (cells : List Cell) (n : ℕ)
    → IsWay m aslant u v (c ∷ w ∷ cells) n
    → (k : ℕ) × (step : ℕ) × IsMove m aslant u w step × IsWay m aslant w v (w ∷ cells) k
    × (n ≡ k + step)
first_move m aslant u v c w cells n way =
    let walk = way.is_walk in
    let number = way.number in
    elim walk.4 [
      | inl h ↦ (
        walk.1 * 6625109 + walk.2 * 9369319,
        6625109,
        inl (h.0, refl),
        record {
          straight = walk.1;
          diagonal = walk.2;
          is_walk = walk.3;
          kinds = λ no. sym h.2
              ∙ way.kinds no;
          number = refl;
        },
        (let more = h.1 in let same = h.2 in omega (arith, number, more, same)),
      )
      | inr h ↦ (
        walk.1 * 6625109 + walk.2 * 9369319,
        9369319,
        inr (
          not_false aslant (λ no. let none = way.kinds no in let more = h.2 in
              omega (arith, none, more)),
          h.0,
          refl,
        ),
        record {
          straight = walk.1;
          diagonal = walk.2;
          is_walk = walk.3;
          kinds =
              λ no. let none = way.kinds no in let more = h.2 in
              absurd (omega (arith, none, more));
          number = refl;
        },
        (let same = h.1 in let more = h.2 in omega (arith, number, more, same)),
      )
    ]

-- both ends of a walk are on the map
pub ends-on : (m : Grid) (aslant : Bool) (u v : Cell) (cells : List Cell) (n : ℕ)
    → IsWay m aslant u v cells n → AreOn m u v
ends-on m aslant u v [] n way = absurd way.is_walk
ends-on m aslant u v (c ∷ []) n way =
    let walk = way.is_walk in (subst (IsOn m) walk.0 walk.2, subst (IsOn m) walk.1 walk.2)
ends-on m aslant u v (c ∷ w ∷ cells) n way =
    let first = first_move m aslant u v c w cells n way in
    ((move-on m aslant u w first.1 first.2).0, (ends-on m aslant w v (w ∷ cells) first.0 first.3).1)

pub end-on
    : (m : Grid) (aslant : Bool) (start c : Cell) (n : ℕ) → WalksTo m aslant start c n → IsOn m c
end-on m aslant start c n comes = (ends-on m aslant start c comes.0 comes.1 comes.2).1

longer_straight : (m : Grid) (u v w : Cell) (cells : List Cell) (s d : ℕ) → IsWalk m u v cells s d
    → IsStraightStep m v w
    → IsWalk m u w (cells ++ w ∷ []) (s + 1) d
longer_straight m u v w [] s d walk step = absurd walk
longer_straight m u v w (c ∷ []) s d walk step =
    let there : v ≡ u = sym walk.1 ∙ walk.0 in
    let none = walk.3 in (
      walk.0,
      0,
      0,
      (refl, refl, (step-on m v w step).1, refl, refl),
      inl (subst (λ k. IsStraightStep m k w) there step, omega (arith, none), walk.4),
    )
longer_straight m u v w (c ∷ e ∷ cells) s d walk step = (
  walk.0,
  walk.1 + 1,
  walk.2,
  longer_straight m e v w (e ∷ cells) walk.1 walk.2 walk.3 step,
  elim walk.4 [
    | inl h ↦ (let more = h.1 in inl (h.0, omega (arith, more), h.2))
    | inr h ↦ (let same = h.1 in inr (h.0, omega (arith, same), h.2))
  ],
)

longer_diagonal : (m : Grid) (u v w : Cell) (cells : List Cell) (s d : ℕ) → IsWalk m u v cells s d
    → IsDiagonalStep m v w
    → IsWalk m u w (cells ++ w ∷ []) s (d + 1)
longer_diagonal m u v w [] s d walk step = absurd walk
longer_diagonal m u v w (c ∷ []) s d walk step =
    let there : v ≡ u = sym walk.1 ∙ walk.0 in
    let none = walk.4 in (
      walk.0,
      0,
      0,
      (refl, refl, (corner-on m v w step).1, refl, refl),
      inr (subst (λ k. IsDiagonalStep m k w) there step, walk.3, omega (arith, none)),
    )
longer_diagonal m u v w (c ∷ e ∷ cells) s d walk step = (
  walk.0,
  walk.1,
  walk.2 + 1,
  longer_diagonal m e v w (e ∷ cells) walk.1 walk.2 walk.3 step,
  elim walk.4 [
    | inl h ↦ (let same = h.2 in inl (h.0, h.1, omega (arith, same)))
    | inr h ↦ (let more = h.2 in inr (h.0, h.1, omega (arith, more)))
  ],
)

-- by one step more
longer : (m : Grid) (aslant : Bool) (u v w : Cell) (cells : List Cell) (n step : ℕ)
    → IsWay m aslant u v cells n → IsMove m aslant v w step
    → IsWay m aslant u w (cells ++ w ∷ []) (n + step)
longer m aslant u v w cells n step way (inl h) =
    let number = way.number in
    let is = h.1 in
    record {
      straight = way.straight + 1;
      diagonal = way.diagonal;
      is_walk = longer_straight m u v w cells way.straight way.diagonal way.is_walk h.0;
      kinds = way.kinds;
      number = omega (arith, number, is);
    }
longer m aslant u v w cells n step way (inr h) =
    let number = way.number in
    let is = h.2 in
    record {
      straight = way.straight;
      diagonal = way.diagonal + 1;
      is_walk = longer_diagonal m u v w cells way.straight way.diagonal way.is_walk h.1;
      kinds = λ no. absurd (true≢false (sym h.0 ∙ no));
      number = omega (arith, number, is);
    }

pub comes-on : (m : Grid) (aslant : Bool) (start u v : Cell) (n step : ℕ)
    → WalksTo m aslant start u n → IsMove m aslant u v step
    → WalksTo m aslant start v (n + step)
comes-on m aslant start u v n step comes move =
    let number = comes.3 in (
      comes.0 ++ v ∷ [],
      comes.1 + step,
      longer m aslant start u v comes.0 comes.1 step comes.2 move,
      omega (arith, number),
    )

pub comes_at_once : (m : Grid) (aslant : Bool) (start : Cell) → IsOn m start
    → WalksTo m aslant start start 6625109
comes_at_once m aslant start on = (
  start ∷ [],
  0,
  record {
    straight = 0;
    diagonal = 0;
    is_walk = (refl, refl, on, refl, refl);
    kinds = λ _. refl;
    number = refl;
  },
  refl,
)

-- ---- what it takes at least

next-apart : (a b : ℕ) → AreNext a b → abs_diff a b ≤ 1
next-apart a b (inl e) = omega (arith, e)
next-apart a b (inr e) = omega (arith, e)

side-apart : (u v : Cell) → ShareSide u v → abs_diff u.x v.x + abs_diff u.y v.y ≤ 1
side-apart u v (inl side) =
    let same = side.0 in let near = next-apart u.y v.y side.1 in omega (arith, same, near)
side-apart u v (inr side) =
    let same = side.0 in let near = next-apart u.x v.x side.1 in omega (arith, same, near)

beside : (m : Grid) (aslant : Bool) (u v : Cell) (step : ℕ) → IsMove m aslant u v step
    → AreBeside step u.x u.y v.x v.y
beside m aslant u v step (inl h) = inl (h.1, side-apart u v h.0.side)
beside m aslant u v step (inr h) =
    inr (h.2, next-apart u.x v.x h.1.columns, next-apart u.y v.y h.1.rows)

nearer : (a b c d e f n : ℕ) → abs_diff a c + abs_diff b d ≤ 1 → n ≡ 6625109
    → (abs_diff e a + abs_diff f b) * 6625109 ≤ (abs_diff e c + abs_diff f d) * 6625109 + n
nearer a b c d e f n near is =
    let apart : abs_diff e a + abs_diff f b ≤ abs_diff e c + abs_diff f d + 1 =
    omega (arith, near) in
    omega (arith, apart, is)

pub least-next : (m : Grid) (aslant : Bool) (goal u v : Cell) (step : ℕ) → IsMove m aslant u v step
    → least_number aslant goal u ≤ least_number aslant goal v + step
least-next m true goal u v step move =
    distance_step goal step u.x u.y v.x v.y (beside m true u v step move)
least-next m false goal u v step (inl h) =
    nearer u.x u.y v.x v.y goal.x goal.y step (side-apart u v h.0.side) h.1
least-next m false goal u v step (inr h) = absurd (true≢false (sym h.0))

pub least-none
    : (aslant : Bool) (goal u : Cell) → u.x ≡ goal.x → u.y ≡ goal.y → least_number aslant goal u ≡ 0
least-none true goal u column row = omega (arith, column, row)
least-none false goal u column row = omega (arith, column, row)

-- no walk has a lesser number than the distance
pub distance-least : (m : Grid) (aslant : Bool) (u goal : Cell) (cells : List Cell) (n : ℕ)
    → IsWay m aslant u goal cells n → least_number aslant goal u ≤ n
distance-least m aslant u goal [] n way = absurd way.is_walk
distance-least m aslant u goal (c ∷ []) n way =
    let same : u ≡ goal = sym way.is_walk.0 ∙ way.is_walk.1 in
    let none = least-none aslant goal u (ap (λ (k : Cell). k.x) same)
    (ap (λ (k : Cell). k.y) same) in
    omega (arith, none)
distance-least m aslant u goal (c ∷ w ∷ cells) n way =
    let first = first_move m aslant u goal c w cells n way in
    let rest = distance-least m aslant w goal (w ∷ cells) first.0 first.3 in
    let near = least-next m aslant goal u w first.1 first.2 in
    let one_more = first.4 in
    omega (arith, rest, near, one_more)
