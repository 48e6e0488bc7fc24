-- Keys in their order, and what lies between two of them.
use Rattle.std.proofs.Common.{◌≡◌, ℕ, ◌+◌, ◌<◌, ◌≤◌, inl, inr, arith, ap, ◌∙◌}
use Rattle.std.specs.Prelude.{◌⊎◌}
use Rattle.std.proofs.lemmas.Bool.{cases_lt}
use Rattle.model.specs.Plan.{Key, IsBefore}
use Rattle.checker.specs.Code.Known.{key_with}

-- ---- the one number is less, or they are the same and the rest is so

abbrev Lex : ℕ → ℕ → Type 0 → Type 0
Lex a b P = (a < b) ⊎ ((a ≡ b) × P)

lex-map : (a b : ℕ) (P Q : Type 0) → (P → Q) → Lex a b P → Lex a b Q
lex-map a b P Q f (inl less) = inl less
lex-map a b P Q f (inr h) = inr (h.0, f h.1)

lex-trans : (a b c : ℕ) (P Q R : Type 0) → (P → Q → R) → Lex a b P → Lex b c Q → Lex a c R
lex-trans a b c P Q R f (inl h) (inl k) = inl (omega (arith, h, k))
lex-trans a b c P Q R f (inl h) (inr k) = inl (let e = k.0 in omega (arith, h, e))
lex-trans a b c P Q R f (inr h) (inl k) = inl (let e = h.0 in omega (arith, k, e))
lex-trans a b c P Q R f (inr h) (inr k) = inr (h.0 ∙ k.0, f h.1 k.1)

lex-split : (a b : ℕ) (P Q R : Type 0) → (P → Q ⊎ R) → Lex a b P → Lex a b Q ⊎ ((a ≡ b) × R)
lex-split a b P Q R f (inl less) = inl (inl less)
lex-split a b P Q R f (inr h) = elim (f h.1) [ inl q ↦ inl (inr (h.0, q)) | inr r ↦ inr (h.0, r) ]

-- what is before the next number is before this one, or at it
lex-next : (a b : ℕ) (P Q R : Type 0) → (P → ⊥) → (Q ⊎ R) → Lex a (b + 1) P → Lex a b Q ⊎ ((a ≡ b) × R)
lex-next a b P Q R none f (inl less) = elim (cases_lt a b) [
  | inl below ↦ inl (inl below)
  | inr past ↦ (let e : a ≡ b = omega (arith, less, past) in elim f [ inl q ↦ inl (inr (e, q)) | inr r ↦ inr (e, r) ])
]
lex-next a b P Q R none f (inr h) = absurd (none h.1)

lex-grow : (a b : ℕ) (P Q : Type 0) → Lex a b P → Lex a (b + 1) Q
lex-grow a b P Q (inl less) = inl (omega (arith, less))
lex-grow a b P Q (inr h) = inl (let e = h.0 in omega (arith, e))

-- ---- the order

pub before_trans : (a b c : Key) → IsBefore a b → IsBefore b c → IsBefore a c
before_trans a b c h k =
    lex-trans a.time b.time c.time _ _ _
    (lex-trans a.rank b.rank c.rank _ _ _ (lex-trans a.first b.first c.first _ _ _ (λ less more. omega (arith, less, more)))) h k

pub not_before : (a : Key) → IsBefore a a → ⊥
not_before a (inl less) = omega (arith, less)
not_before a (inr (e, inl less)) = omega (arith, less)
not_before a (inr (e, inr (d, inl less))) = omega (arith, less)
not_before a (inr (e, inr (d, inr (f, less)))) = omega (arith, less)

pub earlier_before : (a b : Key) → a.time < b.time → IsBefore a b
earlier_before a b less = inl less

-- ---- between two keys of a row, of a rank, of a time, and at its end

pub row_grows : (key : Key) (t r i a b : ℕ) → a ≤ b → IsBefore key (key_with t r i a) → IsBefore key (key_with t r i b)
row_grows key t r i a b h k =
    lex-map key.time t _ _ (lex-map key.rank r _ _ (lex-map key.first i _ _ (λ less. omega (arith, less, h)))) k

pub in_row : (key : Key) (t r i a b : ℕ) → IsBefore key (key_with t r i b)
    → IsBefore key (key_with t r i a) ⊎ ((key.time ≡ t) × ((key.rank ≡ r) × ((key.first ≡ i) × ((a ≤ key.second) × (key.second < b)))))
in_row key t r i a b h =
    lex-split key.time t _ _ _ (lex-split key.rank r _ _ _ (lex-split key.first i _ _ _ (λ less. elim (cases_lt key.second a) [
      | inl below ↦ inl below
      | inr past ↦ inr (past, less)
    ]))) h

pub next_row_grows : (key : Key) (t r i a : ℕ) → IsBefore key (key_with t r i a) → IsBefore key (key_with t r (i + 1) 0)
next_row_grows key t r i a k = lex-map key.time t _ _ (lex-map key.rank r _ _ (lex-grow key.first i _ _)) k

pub in_next_row : (key : Key) (t r i a : ℕ) → IsBefore key (key_with t r (i + 1) 0)
    → IsBefore key (key_with t r i a) ⊎ ((key.time ≡ t) × ((key.rank ≡ r) × ((key.first ≡ i) × (a ≤ key.second))))
in_next_row key t r i a h =
    lex-split key.time t _ _ _ (lex-split key.rank r _ _ _ (lex-next key.first i _ _ _ (λ less. omega (arith, less)) (cases_lt key.second a))) h

pub next_rank_grows : (key : Key) (t r i : ℕ) → IsBefore key (key_with t r i 0) → IsBefore key (key_with t (r + 1) 0 0)
next_rank_grows key t r i k = lex-map key.time t _ _ (lex-grow key.rank r _ _) k

less_none : (a : ℕ) → a < 0 → ⊥
less_none a less = omega (arith, less)

lex_none : (a : ℕ) (P : Type 0) → (P → ⊥) → Lex a 0 P → ⊥
lex_none a P none (inl less) = less_none a less
lex_none a P none (inr h) = none h.1

first_cases : (a i b : ℕ) → Lex a i (b < 0) ⊎ (i ≤ a)
first_cases a i b = elim (cases_lt a i) [ inl less ↦ inl (inl less) | inr past ↦ inr past ]

rank_cases : (a r b c : ℕ) → Lex a r (Lex b 0 (c < 0)) ⊎ (r ≤ a)
rank_cases a r b c = elim (cases_lt a r) [ inl less ↦ inl (inl less) | inr past ↦ inr past ]

pub in_next_rank : (key : Key) (t r i : ℕ) → IsBefore key (key_with t (r + 1) 0 0)
    → IsBefore key (key_with t r i 0) ⊎ ((key.time ≡ t) × ((key.rank ≡ r) × (i ≤ key.first)))
in_next_rank key t r i h =
    lex-split key.time t _ _ _
    (lex-next key.rank r _ _ _ (lex_none key.first _ (less_none key.second)) (first_cases key.first i key.second)) h

pub next_time_grows : (key : Key) (t r : ℕ) → IsBefore key (key_with t r 0 0) → IsBefore key (key_with (t + 1) 0 0 0)
next_time_grows key t r k = lex-grow key.time t _ _ k

pub in_next_time : (key : Key) (t r : ℕ) → IsBefore key (key_with (t + 1) 0 0 0) → IsBefore key (key_with t r 0 0) ⊎ ((key.time ≡ t) × (r ≤ key.rank))
in_next_time key t r h =
    lex-next key.time t _ _ _ (lex_none key.rank _ (lex_none key.first _ (less_none key.second))) (rank_cases key.rank r key.first key.second) h

-- ---- which of two keys comes first

-- neither is before the other
pub record IsLevel (a b : Key) : Type 0 where
  pub time : a.time ≡ b.time
  pub rank : a.rank ≡ b.rank
  pub first : a.first ≡ b.first
  pub second : a.second ≡ b.second

pub level_of : (a b : Key) → a ≡ b → IsLevel a b
level_of a b e = record { time = ap (λ k. k.time) e; rank = ap (λ k. k.rank) e; first = ap (λ k. k.first) e; second = ap (λ k. k.second) e }
