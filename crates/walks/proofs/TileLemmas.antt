-- What tables say of cells and places.
use Rattle.std.proofs.Common.{◌≡◌, ℕ, ◌+◌, ◌-◌, ◌*◌, ◌^◌, ◌<◌, ◌≤◌, Bool, true, false, cond, List, [], ◌∷◌, ◌++◌, length, get_or, take, map, Some, None, inl, inr, arith, refl, sym, ap, subst, ◌∙◌}
use Rattle.std.specs.Prelude.{Option, ◌⊎◌, ◌&&◌, ◌↔◌, nat_lt, max, slice_set}
use Rattle.std.proofs.lemmas.Bool.{and_parts, ltb-true, lt-ltb, cond-true, cases_lt}
use Rattle.std.proofs.lemmas.List.{map-append, take_more, get_or-set_same, get_or-set_other}
use Rattle.walks.specs.declared.beyond.Beyond.{Beyond}
use Rattle.scenario.specs.declared.length.Length.{Length}
use Rattle.walks.specs.declared.keys.Key.{Key}
use Rattle.walks.specs.declared.tiles.Tiles.{Tiles}
use Rattle.grid.specs.declared.cell.Cell.{Cell}
use Rattle.walks.specs.Code.KeyParts.{IsKey, number_of_entry}
use Rattle.walks.specs.Code.Distances.{distance, number_toward, beyond_number}
use Rattle.walks.specs.Code.Rounding.{rounded}
use Rattle.walks.specs.Code.TileKeys.{number_by, number_at, key_at, length_from}
use Rattle.walks.specs.Code.Tightness.{AreWithinStep}
use Rattle.walks.proofs.KeyNumbers.{number_back}
use Rattle.walks.proofs.RoundingLemmas.{rounded_most, rounded_key, key_rounded, rounded_step}
use Rattle.walks.specs.Laws.OctileSteps.{AreBeside}
use Rattle.walks.proofs.DistanceLemmas.{beyond_near}

-- ---- the number of the entry of a number

abbrev number_told : ℕ → ℕ
number_told n = number_of_entry (length_from n)

told_none : number_told (2 ^ 62) ≡ 2 ^ 62
told_none = refl

told_some : (n : ℕ) → 0 < n → n < 2 ^ 62 → IsKey (rounded n) → rounded n < 2 ^ 62 → number_told n ≡ rounded n
told_some n some small is near =
    let most = rounded_most n in
    ap number_of_entry (cond-true (nat_lt n (2 ^ 62)) _ _ (lt-ltb n (2 ^ 62) small)) ∙ number_back (rounded n) is (omega (arith, most, some)) near

-- a key's own number, or that of no length
abbrev IsOwn : ℕ → Type 0
IsOwn n = (n ≡ 2 ^ 62) ⊎ ((0 < n) × (n < 2 ^ 62) × IsKey n)

told_own : (n : ℕ) → IsOwn n → number_told n ≡ n
told_own n (inl e) = subst (λ k. number_told k ≡ k) (sym e) told_none
told_own n (inr h) =
    let e = rounded_key n h.2 in
    let small = h.1 in
    told_some n h.0 h.1 (subst IsKey (sym e) h.2) (omega (arith, e, small)) ∙ e

-- ---- the number of a cell

-- a key's own number that is less than what stands for the cells without one, or just that
abbrev IsCellNumber : (beyond n : ℕ) → Type 0
IsCellNumber beyond n = (n ≤ beyond) × (((0 < n) × (n < 2 ^ 62) × IsKey n) ⊎ (n ≡ beyond))

within_by : (beyond : ℕ) (key : Key) (b : Bool) → (nat_lt 0 key.value && nat_lt key.value beyond) ≡ b → beyond ≤ 2 ^ 62 → IsCellNumber beyond (cond b key.value beyond)
within_by beyond key true e most =
    let parts = and_parts (nat_lt 0 key.value) (nat_lt key.value beyond) e in
    let some = ltb-true 0 key.value parts.0 in
    let less = ltb-true key.value beyond parts.1 in
    let small : key.value < 2 ^ 62 = omega (arith, less, most) in
    (omega (arith, less), inl (some, small, key.of_length some small))
within_by beyond key false e most = (omega arith, inr refl)

number_is : (beyond : ℕ) (key : Option Key) → beyond ≤ 2 ^ 62 → IsCellNumber beyond (number_by beyond key)
number_is beyond None most = (omega arith, inr refl)
number_is beyond (Some key) most = within_by beyond key (nat_lt 0 key.value && nat_lt key.value beyond) refl most

-- ---- cells whose numbers are near

-- what stands for the cells without a key has lengths of its own, or is within the limit
abbrev IsEven : Option Beyond → Type 0
IsEven b = ((x y : ℕ) → IsOwn (beyond_number b x y)) ⊎ ((x y : ℕ) → (0 < beyond_number b x y) × (beyond_number b x y ≤ 4194304 * 6625109))

own_toward : (goal : Option Cell) (n : ℕ) → 0 < n → n ≤ 4194304 * 6625109 → IsKey n
    → ((x y : ℕ) → IsOwn (number_toward goal n x y)) ⊎ ((x y : ℕ) → (0 < number_toward goal n x y) × (number_toward goal n x y ≤ 4194304 * 6625109))
own_toward None n some limit is = inl (λ x y. inr (some, omega (arith, limit), is))
own_toward (Some goal) n some limit is = inr (λ x y. toward_limit n (distance goal x y) limit) where
  toward_limit : (n d : ℕ) → n ≤ 4194304 * 6625109 → (0 < max (n - d) 6625109) × (max (n - d) 6625109 ≤ 4194304 * 6625109)
  toward_limit n d h = (omega (arith, h), omega (arith, h))

even_beyond : (b : Option Beyond) → IsEven b
even_beyond None = inl (λ x y. inl refl)
even_beyond (Some b) = own_toward b.goal b.number b.some b.limit b.of_length

limit_beyond : (b : Option Beyond) (x y : ℕ) → beyond_number b x y ≤ 2 ^ 62
limit_beyond None x y = omega arith
limit_beyond (Some b) x y = toward_most b.goal b.number b.limit where
  toward_most : (goal : Option Cell) (n : ℕ) → n ≤ 4194304 * 6625109 → number_toward goal n x y ≤ 2 ^ 62
  toward_most None n h = omega (arith, h)
  toward_most (Some goal) n h = less_most n (distance goal x y) h where
    less_most : (n d : ℕ) → n ≤ 4194304 * 6625109 → max (n - d) 6625109 ≤ 2 ^ 62
    less_most n d h = omega (arith, h)

abbrev Tell : (step p q : ℕ) → Type 0
Tell step p q = AreWithinStep step (number_told p) (number_told q) ↔ AreWithinStep step p q

own_of : (beyond n : ℕ) → IsOwn beyond → IsCellNumber beyond n → IsOwn n
own_of beyond n own h = elim h.1 [ inl key ↦ inr key | inr e ↦ subst IsOwn (sym e) own ]

tell_own : (step p q : ℕ) → IsOwn p → IsOwn q → Tell step p q
tell_own step p q f g =
    let e = told_own p f in
    let h = told_own q g in (
      λ near. let a = near.0 in let b = near.1 in (omega (arith, e, h, a), omega (arith, e, h, b)),
      λ near. let a = near.0 in let b = near.1 in (omega (arith, e, h, a), omega (arith, e, h, b)),
    )

-- of numbers within the limit: the one is at most the other and a step exactly where their lengths are
forth : (p q straight diagonal : ℕ) → q ≤ p + (straight * 6625109 + diagonal * 9369319) → rounded q ≤ rounded p + (straight * 6625109 + diagonal * 9369319)
forth p q straight diagonal h = rounded_step q p straight diagonal h

back : (b c p q step : ℕ) → c ≤ b + step → IsCellNumber b p → IsCellNumber c q → rounded q ≤ rounded p + step → q ≤ p + step
back b c p q step near f g h =
    let most = rounded_most q in
    let less = g.0 in
    elim f.1 [
      | inl key ↦ let e = rounded_key p key.2 in omega (arith, most, h, e)
      | inr e ↦ omega (arith, less, near, e)
    ]

step_parts : (step x y i j : ℕ) → AreBeside step x y i j → (straight : ℕ) × (diagonal : ℕ) × (step ≡ straight * 6625109 + diagonal * 9369319)
step_parts step x y i j (inl h) = let e = h.0 in (1, 0, omega (arith, e))
step_parts step x y i j (inr h) = let e = h.0 in (0, 1, omega (arith, e))

told_near : (n : ℕ) → 0 < n → n ≤ 4194304 * 6625109 → number_told n ≡ rounded n
told_near n some limit =
    let is = key_rounded n limit in
    let e = is.spelled in
    let s = is.straight_limit in
    let d = is.diagonal_limit in
    told_some n some (omega (arith, limit)) is (omega (arith, e, s, d))

tell_near : (b c p q step straight diagonal : ℕ) → step ≡ straight * 6625109 + diagonal * 9369319 → AreWithinStep step b c
    → (0 < b) × (b ≤ 4194304 * 6625109) → (0 < c) × (c ≤ 4194304 * 6625109) → IsCellNumber b p → IsCellNumber c q → Tell step p q
tell_near b c p q step straight diagonal is near b_in c_in f g =
    let some : (b p : ℕ) → 0 < b → IsCellNumber b p → 0 < p = λ b p h k. elim k.1 [ inl key ↦ key.0 | inr e ↦ omega (arith, e, h) ] in
    let p_most = f.0 in
    let q_most = g.0 in
    let b_most = b_in.1 in
    let c_most = c_in.1 in
    let e = told_near p (some b p b_in.0 f) (omega (arith, p_most, b_most)) in
    let h = told_near q (some c q c_in.0 g) (omega (arith, q_most, c_most)) in
    let low = near.0 in
    let high = near.1 in (
      λ told.
          let m = told.0 in
          let k = told.1 in
          let first : q ≤ p + step = back b c p q step high f g (omega (arith, k, e, h)) in
          let second : p ≤ q + step = back c b q p step low g f (omega (arith, m, e, h)) in
          (second, first),
      λ own.
          let m = own.0 in
          let k = own.1 in
          let first = forth p q straight diagonal (omega (arith, k, is)) in
          let second = forth q p straight diagonal (omega (arith, m, is)) in
          (omega (arith, second, e, h, is), omega (arith, first, e, h, is)),
    )

-- of two neighbouring cells the numbers are near exactly where those of their entries are
pub cells_tell : (t : Tiles) (step x y i j : ℕ) → AreBeside step x y i j → Tell step (number_at t x y) (number_at t i j)
cells_tell t step x y i j beside =
    let b = t.beyond in
    let here = number_is (beyond_number b x y) (key_at t x y) (limit_beyond b x y) in
    let there = number_is (beyond_number b i j) (key_at t i j) (limit_beyond b i j) in
    let parts = step_parts step x y i j beside in
    elim (even_beyond b) [
      | inl own ↦ tell_own step (number_at t x y) (number_at t i j) (own_of _ _ (own x y) here) (own_of _ _ (own i j) there)
      | inr near ↦ tell_near (beyond_number b x y) (beyond_number b i j) (number_at t x y) (number_at t i j) step parts.0 parts.1 parts.2
          (beyond_near b step x y i j beside) (near x y) (near i j) here there
    ]

-- the entry of a cell has a length, if it has a number
pub number_rounds : (t : Tiles) (x y : ℕ) → number_at t x y < 2 ^ 62
    → (0 < rounded (number_at t x y)) × (rounded (number_at t x y) < 2 ^ 62) × IsKey (rounded (number_at t x y))
number_rounds t x y small =
    let b = t.beyond in
    let n = number_at t x y in
    let here = number_is (beyond_number b x y) (key_at t x y) (limit_beyond b x y) in
    let most = here.0 in
    elim (even_beyond b) [
      | inl own ↦ rounds_own n small (own_of _ n (own x y) here)
      | inr near ↦
          let within = (near x y).1 in
          let some = (near x y).0 in
          rounds_near n (elim here.1 [ inl key ↦ key.0 | inr e ↦ omega (arith, e, some) ]) (omega (arith, most, within))
    ] where
      rounds_own : (n : ℕ) → n < 2 ^ 62 → IsOwn n → (0 < rounded n) × (rounded n < 2 ^ 62) × IsKey (rounded n)
      rounds_own n small (inl e) = absurd (omega (arith, e, small))
      rounds_own n small (inr h) = let e = rounded_key n h.2 in let some = h.0 in (omega (arith, e, some), omega (arith, e, small), subst IsKey (sym e) h.2)

      rounds_near : (n : ℕ) → 0 < n → n ≤ 4194304 * 6625109 → (0 < rounded n) × (rounded n < 2 ^ 62) × IsKey (rounded n)
      rounds_near n some within =
          let is = key_rounded n within in
          let most = rounded_most n in
          let e = is.spelled in
          let s = is.straight_limit in
          let d = is.diagonal_limit in
          (omega (arith, most, some), omega (arith, e, s, d), is)

-- ---- keys and numbers that are put one after another

-- of one key more
pub values_more : (keys : List Key) (k : Key) (es : List (Option Length)) (i : ℕ) → map (λ k. k.value) keys ≡ map number_of_entry (take i es)
    → k.value ≡ number_of_entry (get_or es i None) → i < length es
    → map (λ k. k.value) (keys ++ k ∷ []) ≡ map number_of_entry (take (i + 1) es)
values_more keys k es i same is less =
    map-append (λ k. k.value) keys (k ∷ []) ∙ ap (λ l. l ++ k.value ∷ []) same ∙ ap (λ v. map number_of_entry (take i es) ++ v ∷ []) is
    ∙ sym (map-append number_of_entry (take i es) (get_or es i None ∷ [])) ∙ ap (map number_of_entry) (sym (take_more es i None less))

-- of one number more
pub told_more : (numbers : List ℕ) (i n : ℕ) (due : ℕ → ℕ) → i < length numbers → ((k : ℕ) → k < i → get_or numbers k 0 ≡ due k) → n ≡ due i
    → (k : ℕ) → k < i + 1 → get_or (slice_set numbers i n) k 0 ≡ due k
told_more numbers i n due inside before here k less = elim (cases_lt k i) [
  | inl earlier ↦ get_or-set_other numbers i k n 0 (omega (arith, earlier)) ∙ before k earlier
  | inr last ↦
      let same : i ≡ k = omega (arith, less, last) in
      subst (λ j. get_or (slice_set numbers i n) j 0 ≡ due j) same (get_or-set_same numbers i n 0 inside ∙ here)
]
