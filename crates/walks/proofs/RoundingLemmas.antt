-- The least length that is not below a number: what it is, and that a step between two numbers is one between their lengths.
use Rattle.std.proofs.Common.{◌≡◌, ℕ, ◌+◌, ◌-◌, ◌*◌, ◌/◌, ◌<◌, ◌≤◌, zero, suc, inl, inr, arith, refl, sym, ap, subst, ◌∙◌}
use Rattle.std.specs.Prelude.{min, max}
use Rattle.std.proofs.lemmas.Bool.{cases_lt}
use Rattle.walks.specs.Code.KeyParts.{IsKey, straight_in, diagonal_in}
use Rattle.walks.specs.Code.Rounding.{least_with, least_up_to, rounded, steps_to}
use Rattle.walks.proofs.KeyNumbers.{key_of_parts}

-- a number that a length may have, were there no limits to its parts
pub record IsSpelled (v : ℕ) : Type 0 where
  pub straight : ℕ
  pub diagonal : ℕ
  pub spelled : v ≡ (straight + 1) * 6625109 + diagonal * 9369319

lesser_is : (P : ℕ → Type 0) (a b : ℕ) → P a → P b → P (min a b)
lesser_is P a b p q = elim (cases_lt a b) [
  | inl less ↦ subst P (let e : a ≡ min a b = omega (arith, less) in e) p
  | inr most ↦ subst P (let e : b ≡ min a b = omega (arith, most) in e) q
]

with_spelled : (v d : ℕ) → IsSpelled (least_with v d)
with_spelled v d = record {
  straight = max (steps_to (v - d * 9369319)) 1 - 1;
  diagonal = d;
  spelled = omega arith;
}

up_to_spelled : (v n : ℕ) → IsSpelled (least_up_to v n)
unfolding least_up_to
up_to_spelled v zero = with_spelled v 0
up_to_spelled v (suc n) = lesser_is IsSpelled (least_up_to v n) (least_with v (n + 1)) (up_to_spelled v n) (with_spelled v (n + 1))

with_most : (v d : ℕ) → v ≤ least_with v d
with_most v d = omega arith

up_to_most : (v n : ℕ) → v ≤ least_up_to v n
unfolding least_up_to
up_to_most v zero = with_most v 0
up_to_most v (suc n) = lesser_is (λ k. v ≤ k) (least_up_to v n) (least_with v (n + 1)) (up_to_most v n) (with_most v (n + 1))

with_least : (v s d : ℕ) → v ≤ (s + 1) * 6625109 + d * 9369319 → least_with v d ≤ (s + 1) * 6625109 + d * 9369319
with_least v s d h = omega (arith, h)

up_to_least : (v n s d : ℕ) → d ≤ n → v ≤ (s + 1) * 6625109 + d * 9369319 → least_up_to v n ≤ (s + 1) * 6625109 + d * 9369319
unfolding least_up_to
up_to_least v zero s d within h =
    let e : d ≡ 0 = omega (arith, within) in
    subst (λ k. least_with v 0 ≤ (s + 1) * 6625109 + k * 9369319) (sym e)
    (with_least v s 0 (omega (arith, h, e)))
up_to_least v (suc n) s d within h = elim (cases_lt n d) [
  | inl last ↦
      let e : d ≡ n + 1 = omega (arith, within, last) in
      let k = with_least v s d h in
      let l : least_with v (n + 1) ≤ (s + 1) * 6625109 + d * 9369319 = subst (λ i. least_with v i ≤ (s + 1) * 6625109 + d * 9369319) e k in
      let m : min (least_up_to v n) (least_with v (n + 1)) ≤ least_with v (n + 1) = omega arith in
      omega (arith, l, m)
  | inr before ↦
      let k = up_to_least v n s d before h in
      let m : min (least_up_to v n) (least_with v (n + 1)) ≤ least_up_to v n = omega arith in
      omega (arith, k, m)
]

-- of one diagonal step more
next_by : (v n : ℕ) → min (least_up_to v n) (least_with v (n + 1)) ≡ least_up_to v (suc n)
unfolding least_up_to
next_by v n = refl

pub least_next : (v d : ℕ) → 0 < d → min (least_up_to v (d - 1)) (least_with v d) ≡ least_up_to v (d + 1 - 1)
least_next v d some =
    let back : d - 1 + 1 ≡ d = omega (arith, some) in
    let here : suc (d - 1) ≡ d + 1 - 1 = omega (arith, some) in
    ap (λ k. min (least_up_to v (d - 1)) (least_with v k)) (sym back) ∙ next_by v (d - 1) ∙ ap (least_up_to v) here

pub least_first : (v : ℕ) → least_up_to v 0 ≡ least_with v 0
unfolding least_up_to
least_first v = refl

-- ---- the least length that is not below a number

pub rounded_spelled : (v : ℕ) → IsSpelled (rounded v)
rounded_spelled v = up_to_spelled v (v / 9369319 + 1)

pub rounded_most : (v : ℕ) → v ≤ rounded v
rounded_most v = up_to_most v (v / 9369319 + 1)

rounded_by : (v s d : ℕ) → v ≤ (s + 1) * 6625109 + d * 9369319 → rounded v ≤ (s + 1) * 6625109 + d * 9369319
rounded_by v s d h =
    let n : ℕ = v / 9369319 + 1 in
    elim (cases_lt n d) [
      | inl past ↦
          let k = up_to_least v n 0 n (omega arith) (omega arith) in
          omega (arith, k, past)
      | inr within ↦ up_to_least v n s d within h
    ]

pub rounded_least : (v w : ℕ) → IsSpelled w → v ≤ w → rounded v ≤ w
rounded_least v w is h =
    let e = is.spelled in
    subst (λ k. rounded v ≤ k) (sym e) (rounded_by v is.straight is.diagonal (omega (arith, e, h)))

pub key_spelled : (v : ℕ) → IsKey v → IsSpelled v
key_spelled v is = record { straight = straight_in v; diagonal = diagonal_in v; spelled = is.spelled }

pub rounded_key : (v : ℕ) → IsKey v → rounded v ≡ v
rounded_key v is =
    let low = rounded_most v in
    let high = rounded_least v v (key_spelled v is) (omega arith) in
    omega (arith, low, high)

-- that of a number within the limit has parts within theirs
pub key_rounded : (v : ℕ) → v ≤ 4194304 * 6625109 → IsKey (rounded v)
key_rounded v within =
    let is = rounded_spelled v in
    let e = is.spelled in
    let near = rounded_by v (v / 6625109) 0 (omega arith) in
    subst IsKey (sym e) (key_of_parts is.straight is.diagonal (omega (arith, e, near, within)) (omega (arith, e, near, within)))

step_spelled : (v straight diagonal : ℕ) → IsSpelled v → IsSpelled (v + (straight * 6625109 + diagonal * 9369319))
step_spelled v straight diagonal is =
    let e = is.spelled in
    record { straight = is.straight + straight; diagonal = is.diagonal + diagonal; spelled = omega (arith, e) }

-- where the one number is at most the other and a step, so are their lengths
pub rounded_step : (v w straight diagonal : ℕ) → v ≤ w + (straight * 6625109 + diagonal * 9369319)
    → rounded v ≤ rounded w + (straight * 6625109 + diagonal * 9369319)
rounded_step v w straight diagonal h =
    let most = rounded_most w in
    rounded_least v (rounded w + (straight * 6625109 + diagonal * 9369319)) (step_spelled (rounded w) straight diagonal (rounded_spelled w)) (omega (arith, h, most))
