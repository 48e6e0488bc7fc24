-- Walks, step by step, and what a tight table says of them.
use Rattle.std.proofs.Common.{◌≡◌, ℕ, ◌+◌, List, [], ◌∷◌, Some, None, inl, inr, arith, refl, sym, ap, subst, ◌∙◌}
use Rattle.std.specs.Prelude.{◌⊎◌, ◌↔◌, Option, MatchOption}
use Rattle.grid.specs.declared.cell.Cell.{Cell}
use Rattle.grid.specs.declared.terrain.Terrain.{Terrain}
use Rattle.grid.specs.Map.{Grid, terrain_at, ShareSide, AreNext, AreJoined, IsStraightStep, IsDiagonalStep}
use Rattle.scenario.specs.declared.length.Length.{Length}
use Rattle.scenario.specs.Length.{IsLess, IsAtMost}
use Rattle.scenario.specs.Code.OrderLaws.{transitive}
use Rattle.walks.specs.Walk.{IsOn, IsWalk}
use Rattle.walks.specs.Certificate.{entry_of, IsTable, Bounds, IsTight, IsProof, IsLeast}
use Rattle.scenario.specs.Laws.LengthSums.{step_at_most}

-- ---- steps

next_differ : (a b : ℕ) → AreNext a b → a ≡ b → ⊥
next_differ a b (inl h) e = omega (arith, h, e)
next_differ a b (inr h) e = omega (arith, h, e)

side_is_no_corner : (u v : Cell) → ShareSide u v → AreNext u.x v.x → AreNext u.y v.y → ⊥
side_is_no_corner u v (inl h) columns rows = next_differ u.x v.x columns h.0
side_is_no_corner u v (inr h) columns rows = next_differ u.y v.y rows h.0

-- no step is both straight and diagonal
one_kind : (m : Grid) (u v : Cell) → IsStraightStep m u v → IsDiagonalStep m u v → ⊥
one_kind m u v s d = side_is_no_corner u v s.side d.columns d.rows

joined_to : (s t : Option Terrain) → AreJoined s t → t ≡ None → ⊥
joined_to None t h e = absurd h
joined_to (Some s) None h e = absurd h
joined_to (Some s) (Some t) h e = cc

-- a step leads to a cell of the map
pub straight-on : (m : Grid) (u v : Cell) → IsStraightStep m u v → IsOn m v
straight-on m u v step = joined_to (terrain_at m u) (terrain_at m v) step.joined

pub diagonal-on : (m : Grid) (u v : Cell) → IsDiagonalStep m u v → IsOn m v
diagonal-on m u v step = straight-on m (record { x = u.x; y = v.y }) v step.first_on

-- ---- a walk by its first step

pub walk-straight : (m : Grid) (u v w : Cell) (cells : List Cell) (s d : ℕ) → IsStraightStep m u w
    → (IsWalk m u v (u ∷ w ∷ cells) s d ↔ ((k : ℕ) × (s ≡ k + 1) × IsWalk m w v (w ∷ cells) k d))
walk-straight m u v w cells s d step = (
  λ walk. elim walk.4 [
    | inl h ↦ (walk.1, h.1, subst (λ n. IsWalk m w v (w ∷ cells) walk.1 n) (sym h.2) walk.3)
    | inr h ↦ absurd (one_kind m u w step h.0)
  ],
  λ rest. (refl, rest.0, d, rest.2, inl (step, rest.1, refl)),
)

pub walk-diagonal : (m : Grid) (u v w : Cell) (cells : List Cell) (s d : ℕ) → IsDiagonalStep m u w
    → (IsWalk m u v (u ∷ w ∷ cells) s d ↔ ((k : ℕ) × (d ≡ k + 1) × IsWalk m w v (w ∷ cells) s k))
walk-diagonal m u v w cells s d step = (
  λ walk. elim walk.4 [
    | inl h ↦ absurd (one_kind m u w h.0 step)
    | inr h ↦ (walk.2, h.2, subst (λ n. IsWalk m w v (w ∷ cells) n walk.2) (sym h.1) walk.3)
  ],
  λ rest. (refl, s, rest.0, rest.2, inr (step, refl, rest.1)),
)

pub walk-none : (m : Grid) (u v w : Cell) (cells : List Cell) (s d : ℕ) → (IsStraightStep m u w ⊎ IsDiagonalStep m u w → ⊥)
    → IsWalk m u v (u ∷ w ∷ cells) s d → ⊥
walk-none m u v w cells s d no_step walk = elim walk.4 [ inl h ↦ no_step (inl h.0) | inr h ↦ no_step (inr h.0) ]

-- ---- a walk of which the first steps were taken

-- the walk is the steps that were counted, and then the rest of it from the last cell on
abbrev pub GoesOn : Grid → Cell → Cell → List Cell → (straight diagonal : ℕ) → Cell → List Cell → Type 0
GoesOn m start goal walk straight diagonal last rest =
    (s d : ℕ) → IsWalk m start goal walk s d
    ↔ ((i : ℕ) × (j : ℕ) × (s ≡ straight + i) × (d ≡ diagonal + j) × IsWalk m last goal (last ∷ rest) i j)

pub goes_on-start : (m : Grid) (start goal : Cell) (rest : List Cell) → GoesOn m start goal (start ∷ rest) 0 0 start rest
goes_on-start m start goal rest s d = (
  λ walk. (s, d, omega arith, omega arith, walk),
  λ h. subst (λ n. IsWalk m start goal (start ∷ rest) n d) (omega (arith, h.2)) (subst (λ n. IsWalk m start goal (start ∷ rest) h.0 n) (omega (arith, h.3)) h.4),
)

pub goes_on-straight : (m : Grid) (start goal : Cell) (walk : List Cell) (straight diagonal : ℕ) (last next : Cell) (rest : List Cell)
    → IsStraightStep m last next → GoesOn m start goal walk straight diagonal last (next ∷ rest) → GoesOn m start goal walk (straight + 1) diagonal next rest
goes_on-straight m start goal walk straight diagonal last next rest step before s d = (
  λ whole.
      let h = (before s d).0 whole in
      let k = (walk-straight m last goal next rest h.0 h.1 step).0 h.4 in
      (k.0, h.1, omega (arith, h.2, k.1), h.3, k.2),
  λ h. (before s d).1 (h.0 + 1, h.1, omega (arith, h.2), h.3, (walk-straight m last goal next rest (h.0 + 1) h.1 step).1 (h.0, refl, h.4)),
)

pub goes_on-diagonal : (m : Grid) (start goal : Cell) (walk : List Cell) (straight diagonal : ℕ) (last next : Cell) (rest : List Cell)
    → IsDiagonalStep m last next → GoesOn m start goal walk straight diagonal last (next ∷ rest) → GoesOn m start goal walk straight (diagonal + 1) next rest
goes_on-diagonal m start goal walk straight diagonal last next rest step before s d = (
  λ whole.
      let h = (before s d).0 whole in
      let k = (walk-diagonal m last goal next rest h.0 h.1 step).0 h.4 in
      (h.0, k.0, h.2, omega (arith, h.3, k.1), k.2),
  λ h. (before s d).1 (h.0, h.1 + 1, h.2, omega (arith, h.3), (walk-diagonal m last goal next rest h.0 (h.1 + 1) step).1 (h.1, refl, h.4)),
)

pub goes_on-none : (m : Grid) (start goal : Cell) (walk : List Cell) (straight diagonal : ℕ) (last next : Cell) (rest : List Cell) (s d : ℕ)
    → (IsStraightStep m last next ⊎ IsDiagonalStep m last next → ⊥) → GoesOn m start goal walk straight diagonal last (next ∷ rest)
    → IsWalk m start goal walk s d → ⊥
goes_on-none m start goal walk straight diagonal last next rest s d no_step before whole =
    let h = (before s d).0 whole in walk-none m last goal next rest h.0 h.1 no_step h.4

pub goes_on-end : (m : Grid) (start goal : Cell) (walk : List Cell) (straight diagonal : ℕ) (last : Cell) (s d : ℕ)
    → IsOn m last → GoesOn m start goal walk straight diagonal last []
    → (((last ≡ goal) × (straight ≡ s) × (diagonal ≡ d)) ↔ IsWalk m start goal walk s d)
goes_on-end m start goal walk straight diagonal last s d on before = (
  λ h. (before s d).1 (0, 0, omega (arith, h.1), omega (arith, h.2), (refl, h.0, on, refl, refl)),
  λ whole.
      let h = (before s d).0 whole in
      (h.4.1, omega (arith, h.2, h.4.3), omega (arith, h.3, h.4.4)),
)

-- ---- what a tight table says of a walk

at_most_trans : (a b c d e f : ℕ) → IsAtMost a b c d → IsAtMost c d e f → IsAtMost a b e f
at_most_trans a b c d e f (inl h) (inl k) = inl (transitive a b c d e f h k)
at_most_trans a b c d e f (inl h) (inr k) = inl (subst (λ y. IsLess a b y f) k.0 (subst (λ y. IsLess a b c y) k.1 h))
at_most_trans a b c d e f (inr h) k = subst (λ x. IsAtMost x b e f) (sym h.0) (subst (λ x. IsAtMost c x e f) (sym h.1) k)

-- a step to n and then on, with the bounds of both
bounds_sum : (l n : Length) (o : Option Length) (a b i j s d : ℕ) → IsAtMost n.straight n.diagonal (l.straight + a) (l.diagonal + b)
    → s ≡ i + a → d ≡ j + b → Bounds i j (Some n) o → Bounds s d (Some l) o
bounds_sum l n None a b i j s d h e f k = k
bounds_sum l n (Some p) a b i j s d h e f k =
    let sum = at_most_trans p.straight p.diagonal (n.straight + i) (n.diagonal + j) (l.straight + a + i) (l.diagonal + b + j) k
    (step_at_most n.straight n.diagonal (l.straight + a) (l.diagonal + b) i j h) in
    let left : l.straight + a + i ≡ l.straight + s = omega (arith, e) in
    let right : l.diagonal + b + j ≡ l.diagonal + d = omega (arith, f) in
    subst (λ x. IsAtMost p.straight p.diagonal x (l.diagonal + d)) left (subst (λ x. IsAtMost p.straight p.diagonal (l.straight + a + i) x) right sum)

-- by way of a cell whose entry is bounded
bounds_by_way : (l : Length) (way to : Option Length) (a b i j s d : ℕ) → Bounds a b (Some l) way
    → ((n : Length) → way ≡ Some n → Bounds i j (Some n) to) → s ≡ i + a → d ≡ j + b → Bounds s d (Some l) to
bounds_by_way l None to a b i j s d h on e f = absurd h
bounds_by_way l (Some n) to a b i j s d h on e f = bounds_sum l n to a b i j s d h e f (on n refl)

-- no walk from a cell with an entry improves the entry of the cell to which it leads
bounded : (m : Grid) (table : List (Option Length)) → IsTight m table → (u v : Cell) (cells : List Cell) (s d : ℕ) (l : Length)
    → entry_of m table u ≡ Some l → IsWalk m u v cells s d → Bounds s d (Some l) (entry_of m table v)
bounded m table tight u v [] s d l e walk = absurd walk
bounded m table tight u v (c ∷ []) s d l e walk =
    let there : Some l ≡ entry_of m table v = sym e ∙ ap (entry_of m table) (sym walk.0 ∙ walk.1) in
    subst (λ o. Bounds s d (Some l) o) there (inr (omega (arith, walk.3), omega (arith, walk.4)))
bounded m table tight u v (c ∷ w ∷ cells) s d l e walk =
    let onward : (n : Length) → entry_of m table w ≡ Some n → Bounds walk.1 walk.2 (Some n) (entry_of m table v)
    = λ n f. bounded m table tight w v (w ∷ cells) walk.1 walk.2 n f walk.3 in
    elim walk.4 [
      | inl h ↦
          bounds_by_way l (entry_of m table w) (entry_of m table v) 1 0 walk.1 walk.2 s d
          (subst (λ o. Bounds 1 0 o (entry_of m table w)) e (tight.straight u w h.0)) onward h.1 (omega (arith, h.2))
      | inr h ↦
          bounds_by_way l (entry_of m table w) (entry_of m table v) 0 1 walk.1 walk.2 s d
          (subst (λ o. Bounds 0 1 o (entry_of m table w)) e (tight.diagonal u w h.0)) onward (omega (arith, h.1)) h.2
    ]

-- of a tight table, a walk from the start bounds the entry of its last cell by its own length
walk_bounds : (m : Grid) (table : List (Option Length)) (start v : Cell) (cells : List Cell) (s d : ℕ) → IsTable m start table → IsTight m table
    → IsWalk m start v cells s d → (o : Option Length) → entry_of m table v ≡ o
    → MatchOption o ⊥ (λ n. IsAtMost n.straight n.diagonal s d)
walk_bounds m table start v cells s d is_table tight walk o e =
    let zero_length = is_table.origin in
    let h : Bounds s d (Some zero_length.0) o = subst (λ x. Bounds s d (Some zero_length.0) x) e (bounded m table tight start v cells s d zero_length.0 zero_length.1 walk) in
    from_zero o zero_length.0 s d zero_length.2 zero_length.3 h where
      from_zero : (o : Option Length) (l : Length) (s d : ℕ) → l.straight ≡ 0 → l.diagonal ≡ 0 → Bounds s d (Some l) o
          → MatchOption o ⊥ (λ n. IsAtMost n.straight n.diagonal s d)
      from_zero None l s d p q h = h
      from_zero (Some n) l s d p q h =
          let left : l.straight + s ≡ s = omega (arith, p) in
          let right : l.diagonal + d ≡ d = omega (arith, q) in
          subst (λ x. IsAtMost n.straight n.diagonal x d) left (subst (λ x. IsAtMost n.straight n.diagonal (l.straight + s) x) right h)

-- what is certified is least
pub least : (m : Grid) (table : List (Option Length)) (start goal : Cell) (walk : List Cell) (answer : Option Length) → IsTable m start table → IsTight m table
    → answer ≡ entry_of m table goal → IsProof m start goal walk answer → IsLeast m start goal answer
least m table start goal walk None is_table tight e proof = λ cells s d w. walk_bounds m table start goal cells s d is_table tight w None (sym e)
least m table start goal walk (Some l) is_table tight e proof = record {
  walk = walk;
  is_walk = proof;
  least = λ cells s d w. walk_bounds m table start goal cells s d is_table tight w (Some l) (sym e);
}
