-- Going on and on by a function of numbers: among finitely many it comes round.
use Rattle.std.proofs.Common.{◌≡◌, ℕ, zero, suc, ◌+◌, ◌<◌, ◌≤◌, eqb, Bool, true, false, cond, List}
use Rattle.std.proofs.Common.{[], ◌∷◌, length, Some, inl, inr, arith, refl, sym, ap, subst, ◌∙◌}
use Rattle.std.specs.Prelude.{◌⊎◌, Option, slice_get}
use Rattle.std.proofs.lemmas.Bool.{cases_Bool, cases_lt, cond-true, cond-false}
use Rattle.std.proofs.lemmas.Bool.{cond_both, eqb-true, eqb-false}
use Rattle.std.proofs.lemmas.Option.{same_Some, none-some}

-- ---- searching

-- the least of so many numbers that passes a test, or none does
pub first_that : (n : ℕ) (p : ℕ → Bool)
    → ((k : ℕ) × (k < n) × (p k ≡ true) × ((l : ℕ) → l < k → p l ≡ false))
    ⊎ ((k : ℕ) → k < n → p k ≡ false)
first_that zero p = inr (λ k less. absurd (omega (arith, less)))
first_that (suc n) p = elim (first_that n p) [
  | inl found ↦ let within = found.1 in inl (found.0, omega (arith, within), found.2, found.3)
  | inr none ↦ elim (cases_Bool (p n)) [
    | inl passes ↦ inl (n, omega arith, passes, none)
    | inr fails ↦ inr (λ k less. elim (cases_lt k n) [
      | inl before ↦ none k before
      | inr past ↦ let same : n ≡ k = omega (arith, less, past) in
          subst (λ m. p m ≡ false) same fails
    ])
  ]
]

-- where one of so many has the least value
pub least_at : (n : ℕ) (f : ℕ → ℕ) → (m : ℕ) × (m < suc n) × ((k : ℕ) → k < suc n → f m ≤ f k)
least_at zero f = (
  0,
  omega arith,
  λ k less. let same : 0 ≡ k = omega (arith, less) in
      subst (λ m. f 0 ≤ f m) same (omega arith),
)
least_at (suc n) f =
    let before = least_at n f in
    elim (cases_lt (f (suc n)) (f before.0)) [
      | inl less ↦ (
        suc n,
        omega arith,
        λ k within. elim (cases_lt k (suc n)) [
          | inl earlier ↦ let most = before.2 k earlier in omega (arith, most, less)
          | inr past ↦ let same : suc n ≡ k = omega (arith, within, past) in
              subst (λ m. f (suc n) ≤ f m) same (omega arith)
        ],
      )
      | inr most ↦ (
        before.0,
        (let within = before.1 in omega (arith, within)),
        λ k within. elim (cases_lt k (suc n)) [
          | inl earlier ↦ before.2 k earlier
          | inr past ↦ let same : suc n ≡ k = omega (arith, within, past) in
              subst (λ m. f before.0 ≤ f m) same most
        ],
      )
    ]

-- of more numbers than there are values, two have the same
pub two_alike : (n : ℕ) (f : ℕ → ℕ) → ((k : ℕ) → k ≤ n → f k < n) → (p : ℕ) × (q : ℕ) × (p < q)
    × (q ≤ n) × (f p ≡ f q)
two_alike zero f within = absurd (let none = within 0 (omega arith) in omega (arith, none))
two_alike (suc n) f within = elim (first_that (suc n) (λ k. eqb (f k) (f (suc n)))) [
  | inl found ↦ (found.0, suc n, found.1, omega arith, eqb-true (f found.0) (f (suc n)) found.2)
  | inr apart ↦
      let fewer = two_alike n (λ k. moved (f k))
      (λ k least. moved-within k least (apart k (omega (arith, least)))) in
      let less = fewer.2 in
      let most = fewer.3 in (
        fewer.0,
        fewer.1,
        less,
        omega (arith, most),
        same fewer.0 fewer.1 (apart fewer.0 (omega (arith, less, most)))
            (apart fewer.1 (omega (arith, most))) fewer.4,
      )
] where
  moved : ℕ → ℕ
  moved x = cond (eqb x n) (f (suc n)) x

  moved-within : (k : ℕ) → k ≤ n → eqb (f k) (f (suc n)) ≡ false → moved (f k) < n
  moved-within k least other =
      let here = within k (omega (arith, least)) in
      let last = within (suc n) (omega arith) in
      let differs = eqb-false (f k) (f (suc n)) other in
      cond_both (eqb (f k) n) (f (suc n)) (f k) (λ x. x < n)
      (λ own. let value = eqb-true (f k) n own in elim (cases_lt (f (suc n)) n) [
        | inl less ↦ less
        | inr past ↦ absurd (differs (omega (arith, value, past, last)))
      ])
      (λ others. let value = eqb-false (f k) n others in elim (cases_lt (f k) n) [
        | inl less ↦ less
        | inr past ↦ absurd (value (omega (arith, past, here)))
      ])

  same : (p q : ℕ) → eqb (f p) (f (suc n)) ≡ false → eqb (f q) (f (suc n)) ≡ false
      → moved (f p) ≡ moved (f q) → f p ≡ f q
  same p q other_p other_q e = elim (cases_Bool (eqb (f p) n)) [
    | inl last_p ↦ elim (cases_Bool (eqb (f q) n)) [
      | inl last_q ↦ eqb-true (f p) n last_p ∙ sym (eqb-true (f q) n last_q)
      | inr early_q ↦ absurd
          (eqb-false (f q) (f (suc n)) other_q
          (sym (cond-false (eqb (f q) n) (f (suc n)) (f q) early_q) ∙ sym e
          ∙ cond-true (eqb (f p) n) (f (suc n)) (f p) last_p))
    ]
    | inr early_p ↦ elim (cases_Bool (eqb (f q) n)) [
      | inl last_q ↦ absurd
          (eqb-false (f p) (f (suc n)) other_p
          (sym (cond-false (eqb (f p) n) (f (suc n)) (f p) early_p) ∙ e ∙ cond-true (eqb (f q) n)
          (f (suc n)) (f q) last_q))
      | inr early_q ↦ sym (cond-false (eqb (f p) n) (f (suc n)) (f p) early_p) ∙ e
          ∙ cond-false (eqb (f q) n) (f (suc n)) (f q) early_q
    ]
  ]

-- ---- going on

-- where the function leads in so many turns
abbrev pub turned : (ℕ → ℕ) → ℕ → ℕ → ℕ
turned f zero x = x
turned f (suc k) x = f (turned f k x)

pub turned-more : (f : ℕ → ℕ) (k l x : ℕ) → turned f k (turned f l x) ≡ turned f (k + l) x
turned-more f zero l x = (let same : l ≡ zero + l = omega arith in ap (λ n. turned f n x) same)
turned-more f (suc k) l x =
    let same : suc (k + l) ≡ suc k + l = omega arith in
    ap f (turned-more f k l x) ∙ ap (λ n. turned f n x) same

turned-next : (f : ℕ → ℕ) (k x : ℕ) → turned f k (f x) ≡ f (turned f k x)
turned-next f zero x = refl
turned-next f (suc k) x = ap f (turned-next f k x)

-- what comes round after so many turns has been everywhere by then
pub comes_round : (f : ℕ → ℕ) (n x : ℕ) → turned f (suc n) x ≡ x → (k : ℕ) → (l : ℕ) × (l < suc n)
    × (turned f k x ≡ turned f l x)
comes_round f n x back zero = (0, omega arith, refl)
comes_round f n x back (suc k) =
    let before = comes_round f n x back k in
    let within = before.1 in
    elim (cases_lt before.0 n) [
      | inl less ↦ (suc before.0, omega (arith, less), ap f before.2)
      | inr past ↦
          let last : before.0 ≡ n = omega (arith, within, past) in
          (0, omega arith, ap f before.2 ∙ ap (λ m. f (turned f m x)) last ∙ back)
    ]

-- ---- the numbers on the way

-- so many of them, from one on
abbrev pub round : (ℕ → ℕ) → ℕ → ℕ → List ℕ
round f zero x = []
round f (suc n) x = x ∷ round f n (f x)

pub round-length : (f : ℕ → ℕ) (n x : ℕ) → length (round f n x) ≡ n
round-length f zero x = refl
round-length f (suc n) x = (let rest = round-length f n (f x) in omega (arith, rest))

pub round-at : (f : ℕ → ℕ) (n x k : ℕ) → k < n → slice_get (round f n x) k ≡ Some (turned f k x)
round-at f zero x k less = absurd (omega (arith, less))
round-at f (suc n) x zero less = refl
round-at f (suc n) x (suc k) less =
    round-at f n (f x) k (omega (arith, less)) ∙ ap {A = ℕ} {B = Option ℕ} (λ y. Some y)
    (turned-next f k x)

pub round-is
    : (f : ℕ → ℕ) (n x k y : ℕ) → slice_get (round f n x) k ≡ Some y → (k < n) × (y ≡ turned f k x)
round-is f zero x k y there = absurd (none-some y there)
round-is f (suc n) x zero y there = (omega arith, sym (same_Some x y there))
round-is f (suc n) x (suc k) y there =
    let rest = round-is f n (f x) k y there in
    let less = rest.0 in
    (omega (arith, less), rest.1 ∙ turned-next f k x)
