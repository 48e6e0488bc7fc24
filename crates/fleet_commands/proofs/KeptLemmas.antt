-- Who keeps others counts them.
use Rattle.std.proofs.Common.{◌≡◌, ◌≢◌, ◌∙◌, ℕ, zero, suc, ◌+◌, ◌-◌, ◌<◌, ◌≤◌, Bool, List, [], ◌∷◌, ◌++◌, length, length-append, map, true, false, Some, None, inl, inr, refl, ap, sym, subst, arith}
use Rattle.std.specs.Prelude.{◌⊎◌, ◌==◌, ◌&&◌, not, count_by, if◌then◌else◌, nat_lt, Option, unwrap_or, slice_get, slice_index_or}
use Rattle.std.specs.List.{range_with_len}
use Rattle.std.proofs.lemmas.Bool.{cases_Bool, cases_eq, cases_lt, cond-true, cond-false, eq-eqb, eqb-true, eqb-false, false≢true, le-ltb, lt-ltb, ne_eqb}
use Rattle.std.proofs.lemmas.List.FromFn.{map-range_with_len_more}
use Rattle.std.proofs.lemmas.List.Sums.{sum_by_push}
use Rattle.std.proofs.lemmas.Option.{none-some, same_Some}
use Rattle.model.specs.Laws.Rounds.{two_alike}
use Rattle.fleet_commands.specs.Standing.{keeper_after, keepers_of, kept_count, step_from}
use Rattle.fleet_commands.specs.Turns.{in_turn}
use Rattle.fleet_commands.proofs.LeftIndexes.{turn-from, turn-suc, turn-there}

-- ---- steps from each to the one for which it waits

-- steps behind steps
steps-more : (waits : List (Option ℕ)) (i n k : ℕ) → keeper_after waits i (n + k) ≡ keeper_after waits (keeper_after waits i n) k
steps-more waits i n zero = let same : n + 0 ≡ n = omega arith in ap (keeper_after waits i) same
steps-more waits i n (suc k) =
    let same : n + suc k ≡ suc (n + k) = omega arith in
    ap (keeper_after waits i) same ∙ ap (step_from waits) (steps-more waits i n k)

-- the first step
steps-first : (waits : List (Option ℕ)) (i n : ℕ) → keeper_after waits i (suc n) ≡ keeper_after waits (step_from waits i) n
steps-first waits i n = let same : suc n ≡ 1 + n = omega arith in ap (keeper_after waits i) same ∙ steps-more waits i 1 n

-- one that waits for nobody is led nowhere
stays-there : (waits : List (Option ℕ)) (i : ℕ) → slice_index_or waits i None ≡ None → (n : ℕ) → keeper_after waits i n ≡ i
stays-there waits i none zero = refl
stays-there waits i none (suc n) = ap (step_from waits) (stays-there waits i none n) ∙ ap (λ o. unwrap_or o i) none

-- the agent waits for the other, or through others
pub data LeadsTo (waits : List (Option ℕ)) (j : ℕ) : ℕ → Type 0 where
  straight : (i : ℕ) → slice_index_or waits i None ≡ Some j → LeadsTo waits j i
  further : (i k : ℕ) → slice_index_or waits i None ≡ Some k → LeadsTo waits j k → LeadsTo waits j i

-- so steps lead from the one to the other
led-by : (waits : List (Option ℕ)) (j i : ℕ) → LeadsTo waits j i → (n : ℕ) × (keeper_after waits i n ≡ j)
led-by waits j _ (straight i is) = (1, ap (λ o. unwrap_or o i) is)
led-by waits j _ (further i k is leads) =
    let rest = led-by waits j k leads in
    (suc rest.0, steps-first waits i rest.0 ∙ ap (λ x. keeper_after waits x rest.0) (ap (λ o. unwrap_or o i) is) ∙ rest.1)

-- and where steps lead somebody else, it waits
leads : (waits : List (Option ℕ)) (n i j : ℕ) → keeper_after waits i n ≡ j → (i ≡ j) ⊎ LeadsTo waits j i
leads waits zero i j is = inl is
leads waits (suc n) i j is = by (slice_index_or waits i None) refl (leads waits n (step_from waits i) j (sym (steps-first waits i n) ∙ is))
  where
    by : (o : Option ℕ) → slice_index_or waits i None ≡ o → (step_from waits i ≡ j) ⊎ LeadsTo waits j (step_from waits i) → (i ≡ j) ⊎ LeadsTo waits j i
    by None none (inl same) = inl (sym (ap (λ o. unwrap_or o i) none) ∙ same)
    by None none (inr rest) = inr (subst (LeadsTo waits j) (ap (λ o. unwrap_or o i) none) rest)
    by (Some k) some (inl same) = inr (straight i (some ∙ ap (λ x. Some x) (sym (ap (λ o. unwrap_or o i) some) ∙ same)))
    by (Some k) some (inr rest) = inr (further i k some (subst (LeadsTo waits j) (ap (λ o. unwrap_or o i) some) rest))

module _ (waits : List (Option ℕ)) (within : (i j : ℕ) → slice_index_or waits i None ≡ Some j → j < length waits) where
  -- steps lead from agents to agents
  steps-within : (i n : ℕ) → i < length waits → keeper_after waits i n < length waits
  steps-within i zero less = less
  steps-within i (suc n) less = by (slice_index_or waits (keeper_after waits i n) None) refl (steps-within i n less)
    where
      by : (o : Option ℕ) → slice_index_or waits (keeper_after waits i n) None ≡ o → keeper_after waits i n < length waits → keeper_after waits i (suc n) < length waits
      by None is before = (let same = ap (λ o. unwrap_or o (keeper_after waits i n)) is in omega (arith, same, before))
      by (Some k) is before = (let same = ap (λ o. unwrap_or o (keeper_after waits i n)) is in let next = within (keeper_after waits i n) k is in omega (arith, same, next))

  -- whoever is reached at all is reached in as many steps as there are agents
  reached-soon : (i j : ℕ) → i < length waits → (most n : ℕ) → n ≤ most → keeper_after waits i n ≡ j → (m : ℕ) × (m ≤ length waits) × (keeper_after waits i m ≡ j)
  reached-soon i j less zero n few is = (n, omega (arith, few), is)
  reached-soon i j less (suc most) n few is = elim (cases_lt (length waits) n) [
    | inr soon ↦ (n, soon, is)
    | inl late ↦
        (let alike = two_alike (length waits) (keeper_after waits i) (λ k most_k. steps-within i k less) in
        let p = alike.0 in
        let q = alike.1 in
        let before = alike.2 in
        let top = alike.3 in
        let rest = n - q in
        let whole : q + rest ≡ n = omega (arith, late, top) in
        let again : keeper_after waits i (p + rest) ≡ j
        = steps-more waits i p rest ∙ ap (λ x. keeper_after waits x rest) alike.4 ∙ sym (steps-more waits i q rest) ∙ ap (keeper_after waits i) whole ∙ is in
        reached-soon i j less most (p + rest) (omega (arith, few, before, whole)) again)
  ]

  module _ (j : ℕ) (here : j < length waits) (alone : slice_index_or waits j None ≡ None) where
    -- to one that waits for nobody just those lead that wait for it
    kept-led : (i : ℕ) → i < length waits → LeadsTo waits j i → keeper_after waits i (length waits) ≡ j
    kept-led i less led =
        let steps = led-by waits j i led in
        let soon = reached-soon i j less steps.0 steps.0 (omega arith) steps.1 in
        let m = soon.0 in
        let few = soon.1 in
        let whole : m + (length waits - m) ≡ length waits = omega (arith, few) in
        ap (keeper_after waits i) (sym whole) ∙ steps-more waits i m (length waits - m) ∙ ap (λ x. keeper_after waits x (length waits - m)) soon.2
        ∙ stays-there waits j alone (length waits - m)

    not-led : LeadsTo waits j j → ⊥
    not-led led = self j led refl
      where
        self : (i : ℕ) → LeadsTo waits j i → i ≡ j → ⊥
        self _ (straight i is) same = none-some j (sym alone ∙ ap (λ x. slice_index_or waits x None) (sym same) ∙ is)
        self _ (further i k is rest) same = none-some k (sym alone ∙ ap (λ x. slice_index_or waits x None) (sym same) ∙ is)

    abbrev is_kept : ℕ → Bool
    is_kept i = (keeper_after waits i (length waits) == j) && not (i == j)

    abbrev kept_one : ℕ → List ℕ
    kept_one i = if is_kept i then i ∷ [] else []

    pub those : List ℕ
    those = in_turn kept_one (length waits)

    one-at-most : (i : ℕ) → (kept_one i ≡ []) ⊎ ((x : ℕ) × (kept_one i ≡ x ∷ []))
    one-at-most i = elim (cases_Bool (is_kept i)) [
      | inl kept ↦ inr (i, cond-true (is_kept i) (i ∷ []) [] kept)
      | inr other ↦ inl (cond-false (is_kept i) (i ∷ []) [] other)
    ]

    both : (a b : Bool) → (a && b) ≡ true → (a ≡ true) × (b ≡ true)
    both true b e = (refl, e)
    both false b e = absurd (false≢true e)

    not-true : (b : Bool) → not b ≡ true → b ≡ false
    not-true true e = absurd (false≢true e)
    not-true false e = refl

    kept-parts : (i : ℕ) → is_kept i ≡ true → (keeper_after waits i (length waits) ≡ j) × (i ≢ j)
    kept-parts i kept =
        let parts = both (keeper_after waits i (length waits) == j) (not (i == j)) kept in
        (eqb-true (keeper_after waits i (length waits)) j parts.0, eqb-false i j (not-true (i == j) parts.1))

    kept-is : (i : ℕ) → keeper_after waits i (length waits) ≡ j → i ≢ j → is_kept i ≡ true
    kept-is i led other = ap (λ b. b && not (i == j)) (eq-eqb (keeper_after waits i (length waits)) j led) ∙ ap (λ b. not b) (ne_eqb i j other)

    -- where one stands among them
    found-at : (place i : ℕ) → slice_get those place ≡ Some i → (is_kept i ≡ true) × (i < length waits) × (length (in_turn kept_one i) ≡ place)
    unfolding those
    found-at place i there =
        let from = turn-from kept_one one-at-most (length waits) place i there in
        elim (cases_Bool (is_kept from.0)) [
          | inr other ↦ absurd (let bad = ap length (sym (cond-false (is_kept from.0) (from.0 ∷ []) [] other) ∙ from.2) in omega (arith, bad))
          | inl kept ↦
              (let same : from.0 ≡ i = same_Some from.0 i (ap (λ l. slice_get l 0) (sym (cond-true (is_kept from.0) (from.0 ∷ []) [] kept) ∙ from.2)) in
              (subst (λ x. is_kept x ≡ true) same kept, subst (λ x. x < length waits) same from.1, subst (λ x. length (in_turn kept_one x) ≡ place) same from.3))
        ]

    pub those-lead : (place i : ℕ) → slice_get those place ≡ Some i → LeadsTo waits j i
    those-lead place i there =
        let kept = (found-at place i there).0 in
        let parts = kept-parts i kept in
        elim (leads waits (length waits) i j parts.0) [ inl same ↦ absurd (parts.1 same) | inr led ↦ led ]

    pub those-all : (i : ℕ) → i < length waits → LeadsTo waits j i → (place : ℕ) × (slice_get those place ≡ Some i)
    unfolding those
    those-all i less led =
        let other : i ≢ j = λ same. not-led (subst (LeadsTo waits j) same led) in
        let kept = kept-is i (kept-led i less led) other in
        (length (in_turn kept_one i), turn-there kept_one (length waits) i i less (cond-true (is_kept i) (i ∷ []) [] kept))

    pub those-once : (place other i : ℕ) → slice_get those place ≡ Some i → slice_get those other ≡ Some i → place ≡ other
    those-once place other i one two = sym (found-at place i one).2 ∙ (found-at other i two).2

    -- ---- how many there are

    abbrev Ends : ℕ → List ℕ
    Ends n = map (λ i. keeper_after waits i (length waits)) (range_with_len 0 n)

    abbrev one_if : Bool → ℕ
    one_if b = if b then 1 else 0

    one-true : (b : Bool) → b ≡ true → one_if b ≡ 1
    one-true b e = ap one_if e

    one-false : (b : Bool) → b ≡ false → one_if b ≡ 0
    one-false b e = ap one_if e

    count-more : (xs : List ℕ) (x : ℕ) → count_by (λ end. end == j) (xs ++ x ∷ []) ≡ count_by (λ end. end == j) xs + one_if (x == j)
    count-more xs x = sum_by_push (λ end. one_if (end == j)) xs x

    -- among the first agents: those that wait, and the one itself
    abbrev itself : ℕ → ℕ
    itself n = one_if (nat_lt j n)

    count-first : (n : ℕ) → count_by (λ end. end == j) (Ends n) ≡ length (in_turn kept_one n) + itself n
    count-first zero = (let none = one-false (nat_lt j 0) (le-ltb j 0 (omega arith)) in omega (arith, none))
    count-first (suc n) =
        let one : suc n ≡ n + 1 = omega arith in
        let ends = ap (count_by (λ end. end == j)) (ap Ends one ∙ map-range_with_len_more (λ i. keeper_after waits i (length waits)) 0 n n (omega arith)) ∙ count-more (Ends n)
        (keeper_after waits n (length waits)) in
        let before = count-first n in
        let more = ap length (turn-suc kept_one n) ∙ length-append (in_turn kept_one n) (kept_one n) in
        elim (cases_eq n j) [
          | inl self ↦
              (let led : keeper_after waits n (length waits) ≡ j = ap (λ x. keeper_after waits x (length waits)) self ∙ stays-there waits j alone (length waits) in
              let yes = one-true (keeper_after waits n (length waits) == j) (eq-eqb (keeper_after waits n (length waits)) j led) in
              let not_kept : is_kept n ≡ false = kept-not n self in
              let none = ap length (cond-false (is_kept n) (n ∷ []) [] not_kept) in
              let now = one-true (nat_lt j (suc n)) (lt-ltb j (suc n) (omega (arith, self))) in
              let then_not = one-false (nat_lt j n) (le-ltb j n (omega (arith, self))) in
              omega (arith, ends, before, more, yes, none, now, then_not))
          | inr other ↦
              (let same : itself (suc n) ≡ itself n = elim (cases_lt j n) [
                | inl less ↦ one-true (nat_lt j (suc n)) (lt-ltb j (suc n) (omega (arith, less))) ∙ sym (one-true (nat_lt j n) (lt-ltb j n less))
                | inr past ↦
                    (let beyond : suc n ≤ j = elim (cases_lt j (suc n)) [ inl less ↦ absurd (other (omega (arith, less, past))) | inr most ↦ most ] in
                    one-false (nat_lt j (suc n)) (le-ltb j (suc n) beyond) ∙ sym (one-false (nat_lt j n) (le-ltb j n past)))
              ] in
              elim (cases_eq (keeper_after waits n (length waits)) j) [
                | inl led ↦
                    (let yes = one-true (keeper_after waits n (length waits) == j) (eq-eqb (keeper_after waits n (length waits)) j led) in
                    let kept = ap length (cond-true (is_kept n) (n ∷ []) [] (kept-is n led other)) in
                    omega (arith, ends, before, more, yes, kept, same))
                | inr apart ↦
                    (let no = one-false (keeper_after waits n (length waits) == j) (ne_eqb (keeper_after waits n (length waits)) j apart) in
                    let none = ap length (cond-false (is_kept n) (n ∷ []) [] (ap (λ b. b && not (n == j)) (ne_eqb (keeper_after waits n (length waits)) j apart))) in
                    omega (arith, ends, before, more, no, none, same))
              ])
        ]
      where
        kept-not : (n : ℕ) → n ≡ j → is_kept n ≡ false
        kept-not n self = by (keeper_after waits n (length waits) == j) (n == j) (eq-eqb n j self)
          where
            by : (a b : Bool) → b ≡ true → (a && not b) ≡ false
            by true true e = refl
            by true false e = absurd (false≢true e)
            by false b e = refl

    pub count-those : length those ≡ kept_count (keepers_of waits) j
    unfolding those
    count-those =
        let all = count-first (length waits) in
        let own = one-true (nat_lt j (length waits)) (lt-ltb j (length waits) here) in
        omega (arith, all, own)
