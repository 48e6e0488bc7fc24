-- The eight steps by their numbers, and sets of them.
use Rattle.std.proofs.Common.{◌≡◌, ◌≢◌, ◌∙◌, ℕ, ◌+◌, ◌-◌, ◌*◌, ◌^◌, ◌<◌, ◌≤◌, ◌⊎◌, Bool, true, false, zero, suc, inl, inr, arith, refl, sym, ap, ap₂, subst}
use Rattle.std.specs.Prelude.{◌==◌, ◌↔◌, nat_lt, IsTrue, if◌then◌else◌, min, max}
use Rattle.std.specs.Int.{bit_at}
use Rattle.std.specs.Int.Bits.{bit_and, bit_or, bit_xor}
use Rattle.std.proofs.lemmas.Bool.{cases_order, true≢false, false≢true}
use Rattle.std.proofs.lemmas.Nat.Bits.{and_pow, bit_at-lt, bit_at-pow_other, bit_at_and, bit_at_or, bit_at_xor}
use Rattle.std.proofs.lemmas.Nat.{pow_pos}
use lib.Bits.{xor_add_and}
use Rattle.grid.specs.declared.cell.Cell.{Cell}
use Rattle.grid.specs.Map.{Grid, IsDiagonalStep, IsStraightStep}
use Rattle.least_steps.specs.Code.Reaching.{IsMove}
use Rattle.least_steps.specs.Code.Steps.{AreLegal, HasStep, IsLegalStep, cell_behind, side_of, weight}

-- what holds of each of the eight
pub each : (P : ℕ → Type 0) → P 0 → P 1 → P 2 → P 3 → P 4 → P 5 → P 6 → P 7 → (n : ℕ) → n < 8 → P n
each P a b c d e f g h zero l = a
each P a b c d e f g h (suc zero) l = b
each P a b c d e f g h (suc (suc zero)) l = c
each P a b c d e f g h (suc (suc (suc zero))) l = d
each P a b c d e f g h (suc (suc (suc (suc zero)))) l = e
each P a b c d e f g h (suc (suc (suc (suc (suc zero))))) l = f
each P a b c d e f g h (suc (suc (suc (suc (suc (suc zero)))))) l = g
each P a b c d e f g h (suc (suc (suc (suc (suc (suc (suc zero))))))) l = h
each P a b c d e f g h (suc (suc (suc (suc (suc (suc (suc (suc n)))))))) l = absurd (omega (arith, l))

at : (x y : ℕ) (v : Cell) → x ≡ v.x → y ≡ v.y → v ≡ record { x = x; y = y }
at x y v same_x same_y = sym (ap₂ (λ a b. record { x = a; y = b }) same_x same_y)

-- ---- each move is one of them

pub record IsStep (aslant : Bool) (u v : Cell) (n : ℕ) : Type 0 where
  pub step : ℕ
  pub few : step < 8
  pub kind : aslant ≡ false → step < 4
  pub is : v ≡ cell_behind step u
  pub number : n ≡ weight step

straight_is : (aslant : Bool) (u v : Cell) (n k : ℕ) → k < 4 → v ≡ cell_behind k u → n ≡ weight k → IsStep aslant u v n
straight_is aslant u v n k few is number = record { step = k; few = omega (arith, few); kind = λ _. few; is = is; number = number }

diagonal_is : (aslant : Bool) (u v : Cell) (n k : ℕ) → aslant ≡ true → k < 8 → v ≡ cell_behind k u → n ≡ weight k → IsStep aslant u v n
diagonal_is aslant u v n k all few is number =
    record { step = k; few = few; kind = λ none. absurd (true≢false (sym all ∙ none)); is = is; number = number }

pub some_step : (m : Grid) (aslant : Bool) (u v : Cell) (n : ℕ) → IsMove m aslant u v n → IsStep aslant u v n
some_step m aslant u v n (inl h) = elim h.0.side [
  | inl side ↦ elim side.1 [
    | inl up ↦ straight_is aslant u v n 0 (omega arith) (at u.x (u.y - 1) v side.0 (omega (arith, up))) h.1
    | inr down ↦ straight_is aslant u v n 3 (omega arith) (at u.x (u.y + 1) v side.0 (omega (arith, down))) h.1
  ]
  | inr side ↦ elim side.1 [
    | inl left ↦ straight_is aslant u v n 1 (omega arith) (at (u.x - 1) u.y v (omega (arith, left)) side.0) h.1
    | inr right ↦ straight_is aslant u v n 2 (omega arith) (at (u.x + 1) u.y v (omega (arith, right)) side.0) h.1
  ]
]
some_step m aslant u v n (inr h) = elim h.1.rows [
  | inl up ↦ elim h.1.columns [
    | inl left ↦ diagonal_is aslant u v n 4 h.0 (omega arith) (at (u.x - 1) (u.y - 1) v (omega (arith, left)) (omega (arith, up))) h.2
    | inr right ↦ diagonal_is aslant u v n 5 h.0 (omega arith) (at (u.x + 1) (u.y - 1) v (omega (arith, right)) (omega (arith, up))) h.2
  ]
  | inr down ↦ elim h.1.columns [
    | inl left ↦ diagonal_is aslant u v n 6 h.0 (omega arith) (at (u.x - 1) (u.y + 1) v (omega (arith, left)) (omega (arith, down))) h.2
    | inr right ↦ diagonal_is aslant u v n 7 h.0 (omega arith) (at (u.x + 1) (u.y + 1) v (omega (arith, right)) (omega (arith, down))) h.2
  ]
]

-- a move is legal where all steps are taken too
pub legal_move : (m : Grid) (aslant : Bool) (u v : Cell) (n : ℕ) → IsMove m aslant u v n → IsMove m true u v n
legal_move m aslant u v n (inl h) = inl h
legal_move m aslant u v n (inr h) = inr (refl, h.1, h.2)

pub weight_most : (step : ℕ) → weight step ≤ 9369319
weight_most step = most (nat_lt step 4) where
  most : (b : Bool) → (if b then 6625109 else 9369319) ≤ 9369319
  most true = omega arith
  most false = omega arith

pub is_diagonal : (m : Grid) (aslant : Bool) (u v : Cell) → IsMove m aslant u v 9369319 → IsDiagonalStep m u v
is_diagonal m aslant u v (inl h) = let is = h.1 in absurd (omega (arith, is))
is_diagonal m aslant u v (inr h) = h.1

pub is_straight : (m : Grid) (aslant : Bool) (u v : Cell) → IsMove m aslant u v 6625109 → IsStraightStep m u v
is_straight m aslant u v (inl h) = h.0
is_straight m aslant u v (inr h) = let is = h.2 in absurd (omega (arith, is))

-- one of the steps that are taken
pub own_move : (m : Grid) (aslant : Bool) (u v : Cell) (step : ℕ) → step < 8 → (aslant ≡ false → step < 4) → IsMove m true u v (weight step)
    → IsMove m aslant u v (weight step)
own_move m true u v step few kind move = move
own_move m false u v step few kind move =
    each (λ k. k < 4 → IsMove m true u v (weight k) → IsMove m false u v (weight k))
    (λ _ h. inl (is_straight m true u v h, refl)) (λ _ h. inl (is_straight m true u v h, refl))
    (λ _ h. inl (is_straight m true u v h, refl)) (λ _ h. inl (is_straight m true u v h, refl))
    (λ few h. absurd (omega (arith, few))) (λ few h. absurd (omega (arith, few))) (λ few h. absurd (omega (arith, few))) (λ few h. absurd (omega (arith, few)))
    step few (kind refl) move

-- ---- the set of the legal ones

abbrev bit_of : Bool → ℕ
bit_of b = if b then 1 else 0

is_one : (b : Bool) (n : ℕ) → n ≡ bit_of b → (n ≡ 1) ↔ IsTrue b
is_one true n is = (λ _. refl, λ _. is)
is_one false n is = (λ one. let none = is in absurd (omega (arith, one, none)), λ no. absurd (false≢true no))

few : (b : Bool) → bit_of b < 2
few true = omega arith
few false = omega arith

then_legal : (b : Bool) (n : ℕ) (A : Type 0) → n ≡ bit_of b → IsTrue b ↔ A → (n ≡ 1) ↔ A
then_legal b n A is h = let one = is_one b n is in (λ k. h.0 (one.0 k), λ k. one.1 (h.1 k))

straight_legal : (m : Grid) (u v : Cell) (b : Bool) → IsTrue b ↔ IsStraightStep m u v → IsTrue b ↔ IsMove m true u v 6625109
straight_legal m u v b h = (λ k. inl (h.0 k, refl), λ k. h.1 (is_straight m true u v k))

diagonal_legal : (m : Grid) (u v : Cell) (b : Bool) → IsTrue b ↔ IsDiagonalStep m u v → IsTrue b ↔ IsMove m true u v 9369319
diagonal_legal m u v b h = (λ k. inr (refl, h.0 k, refl), λ k. h.1 (is_diagonal m true u v k))

pub all_legal : (m : Grid) (c : Cell) (n w e s nw ne sw se : Bool)
    → IsTrue n ↔ IsStraightStep m c (cell_behind 0 c) → IsTrue w ↔ IsStraightStep m c (cell_behind 1 c)
    → IsTrue e ↔ IsStraightStep m c (cell_behind 2 c) → IsTrue s ↔ IsStraightStep m c (cell_behind 3 c)
    → IsTrue nw ↔ IsDiagonalStep m c (cell_behind 4 c) → IsTrue ne ↔ IsDiagonalStep m c (cell_behind 5 c)
    → IsTrue sw ↔ IsDiagonalStep m c (cell_behind 6 c) → IsTrue se ↔ IsDiagonalStep m c (cell_behind 7 c)
    → AreLegal m c ((bit_of nw + 2 * bit_of ne + 4 * bit_of sw + 8 * bit_of se) * 16 + (bit_of n + 2 * bit_of w + 4 * bit_of e + 8 * bit_of s))
all_legal m c n w e s nw ne sw se n_is w_is e_is s_is nw_is ne_is sw_is se_is =
    let all = (bit_of nw + 2 * bit_of ne + 4 * bit_of sw + 8 * bit_of se) * 16 + (bit_of n + 2 * bit_of w + 4 * bit_of e + 8 * bit_of s) in
    let a = few n in let b = few w in let d = few e in let f = few s in let g = few nw in let h = few ne in let i = few sw in let j = few se in
    each (λ k. HasStep all k ↔ IsLegalStep m c k)
    (then_legal n (bit_at all 0) (IsLegalStep m c 0) (omega (arith, a, b, d, f, g, h, i, j)) (straight_legal m c (cell_behind 0 c) n n_is))
    (then_legal w (bit_at all 1) (IsLegalStep m c 1) (omega (arith, a, b, d, f, g, h, i, j)) (straight_legal m c (cell_behind 1 c) w w_is))
    (then_legal e (bit_at all 2) (IsLegalStep m c 2) (omega (arith, a, b, d, f, g, h, i, j)) (straight_legal m c (cell_behind 2 c) e e_is))
    (then_legal s (bit_at all 3) (IsLegalStep m c 3) (omega (arith, a, b, d, f, g, h, i, j)) (straight_legal m c (cell_behind 3 c) s s_is))
    (then_legal nw (bit_at all 4) (IsLegalStep m c 4) (omega (arith, a, b, d, f, g, h, i, j)) (diagonal_legal m c (cell_behind 4 c) nw nw_is))
    (then_legal ne (bit_at all 5) (IsLegalStep m c 5) (omega (arith, a, b, d, f, g, h, i, j)) (diagonal_legal m c (cell_behind 5 c) ne ne_is))
    (then_legal sw (bit_at all 6) (IsLegalStep m c 6) (omega (arith, a, b, d, f, g, h, i, j)) (diagonal_legal m c (cell_behind 6 c) sw sw_is))
    (then_legal se (bit_at all 7) (IsLegalStep m c 7) (omega (arith, a, b, d, f, g, h, i, j)) (diagonal_legal m c (cell_behind 7 c) se se_is))

-- ---- a set without one

pub less_without : (n k : ℕ) → HasStep n k → bit_xor n (2 ^ k) < n
less_without n k there =
    let both = and_pow n k ∙ ap (λ b. b * 2 ^ k) there in
    let some = pow_pos k in
    let sum = xor_add_and n (2 ^ k) in
    omega (arith, both, some, sum)

same_but : (n k i : ℕ) → i ≢ k → bit_at (bit_xor n (2 ^ k)) i ≡ bit_at n i
same_but n k i other =
    let sum = bit_at_xor n (2 ^ k) i in
    let none = bit_at-pow_other k i other in
    let small = bit_at-lt n i in
    omega (arith, sum, none, small)

differ : (i k : ℕ) → (i < k) ⊎ (k < i) → i ≢ k
differ i k (inl less) same = omega (arith, less, same)
differ i k (inr more) same = omega (arith, more, same)

-- it has each other one
pub in_without : (n k i : ℕ) → HasStep n i → (i ≡ k) ⊎ HasStep (bit_xor n (2 ^ k)) i
in_without n k i there = elim (cases_order i k) [ inl same ↦ inl same | inr other ↦ inr (same_but n k i (differ i k other) ∙ there) ]

-- and no further one
pub without_in : (n k i : ℕ) → HasStep n k → HasStep (bit_xor n (2 ^ k)) i → HasStep n i
without_in n k i there is = elim (cases_order i k) [
  | inl same ↦ subst (HasStep n) (sym same) there
  | inr other ↦ sym (same_but n k i (differ i k other)) ∙ is
]

-- ---- those that go on

none_of : (n : ℕ) → 0 * n ≡ 0
none_of n = omega arith

zero_or_one : (n : ℕ) → n < 2 → (n ≡ 0) ⊎ (n ≡ 1)
zero_or_one zero h = inl refl
zero_or_one (suc zero) h = inr refl
zero_or_one (suc (suc n)) h = absurd (omega (arith, h))

-- a side's step goes on, or the third one is legal
unless_in : (legal j p side k : ℕ) → p ≡ 2 ^ j → HasStep side k → HasStep (side_of legal p side) k ⊎ HasStep legal j
unless_in legal j p side k is there = elim (zero_or_one (bit_at legal j) (bit_at-lt legal j)) [
  | inl none ↦
      let empty : bit_and legal p ≡ 0 = ap (λ n. bit_and legal n) is ∙ and_pow legal j ∙ ap (λ n. n * 2 ^ j) none ∙ none_of (2 ^ j) in
      inl (ap (λ n. bit_at (if n == 0 then side else 0) k) empty ∙ there)
  | inr some ↦ inr some
]

-- of the legal ones these, and to each side some that go on unless a third one is legal
module _ (legal always p first q second : ℕ) where
  abbrev onward : ℕ
  onward = bit_and legal (bit_or (bit_or always (side_of legal p first)) (side_of legal q second))

  parts : (k : ℕ) → bit_at onward k ≡ min (bit_at legal k) (max (max (bit_at always k) (bit_at (side_of legal p first) k)) (bit_at (side_of legal q second) k))
  parts k =
      let left = side_of legal p first in
      let right = side_of legal q second in
      bit_at_and legal (bit_or (bit_or always left) right) k
      ∙ ap (λ n. min (bit_at legal k) n) (bit_at_or (bit_or always left) right k ∙ ap (λ n. max n (bit_at right k)) (bit_at_or always left k))

  pub always_on : (k : ℕ) → HasStep always k → HasStep legal k → HasStep onward k
  always_on k there is =
      let all = parts k in
      let b = bit_at-lt (side_of legal p first) k in
      let d = bit_at-lt (side_of legal q second) k in
      omega (arith, all, there, is, b, d)

  pub first_on : (k j : ℕ) → p ≡ 2 ^ j → HasStep first k → HasStep legal k → HasStep onward k ⊎ HasStep legal j
  first_on k j unless there is = elim (unless_in legal j p first k unless there) [
    | inl on ↦
        let all = parts k in
        let b = bit_at-lt always k in
        let d = bit_at-lt (side_of legal q second) k in
        inl (omega (arith, all, on, is, b, d))
    | inr third ↦ inr third
  ]

  pub second_on : (k j : ℕ) → q ≡ 2 ^ j → HasStep second k → HasStep legal k → HasStep onward k ⊎ HasStep legal j
  second_on k j unless there is = elim (unless_in legal j q second k unless there) [
    | inl on ↦
        let all = parts k in
        let b = bit_at-lt always k in
        let d = bit_at-lt (side_of legal p first) k in
        inl (omega (arith, all, on, is, b, d))
    | inr third ↦ inr third
  ]
