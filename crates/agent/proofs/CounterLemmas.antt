-- What is found in a list of counters, and what an edit of the list does to it.
use Rattle.std.proofs.Common.{◌≡◌, ℕ, zero, suc, ◌+◌, ◌-◌, ◌<◌, ◌≤◌, ◌≢◌, eqb, List, [], ◌∷◌, length, get_or, set, if◌then◌else◌, Some, None, Result, Ok, Err, IfOk, IfErr, refl, sym, ap, subst, arith}
use Rattle.std.specs.Prelude.{max, unwrap_or}
use Rattle.std.specs.List.{insert}
use Rattle.std.specs.List.Sorted.{IsSearchInRange, IsBinarySearchResult, IsNonDecreasingBy}
use Rattle.std.specs.Ordering.{nat_cmp, ordering_index}
use Rattle.std.proofs.lemmas.Cmp.{ranked}
use Rattle.std.proofs.lemmas.List.Sorted.{IsNonDecreasingBy-from_default}
use Rattle.std.proofs.lemmas.List.Edits.{length-insert, get_or-insert_below, get_or-insert_at, get_or-insert_above}
use Rattle.std.proofs.lemmas.Bool.Decides.{nat_tests}
use Rattle.std.proofs.lemmas.Grind.{common_steps}
use Rattle.agent.specs.declared.counters.Counter.{Counter}
use Rattle.agent.specs.Counters.{heard_of, known_in, agent_at, SetsOnly, IsRising}
use Rattle.agent.specs.Code.Places.{IsCounterAt, IsGapFor}

abbrev pub no_counter : Counter
no_counter = record { agent = 0; done = 0 }

-- no counter before a place is that of the agent
abbrev pub NoneBefore : List Counter → ℕ → ℕ → Type 0
NoneBefore l a i = (j : ℕ) → j < i → agent_at l j ≢ a

-- new has the number for the agent, and what old has for any other
abbrev pub HearsAfterSet : List Counter → List Counter → ℕ → ℕ → Type 0
HearsAfterSet old new a n = (q : ℕ) → heard_of new q ≡ (if eqb a q then Some n else heard_of old q)

-- none of the tail is that of the agent either
none_before_tail : (x : Counter) (l : List Counter) (a i : ℕ) → NoneBefore (x ∷ l) a (suc i) → NoneBefore l a i
none_before_tail x l a i none j lt = none (suc j) (omega arith)

-- in the tail a counter is one place lower
is_at_tail : (x : Counter) (l : List Counter) (a i : ℕ) → IsCounterAt (x ∷ l) a (suc i) → IsCounterAt l a i
is_at_tail x l a i is_at = record { in_range = omega (arith, is_at.in_range); is_own = is_at.is_own }

-- an agent without a counter is not found
pub heard_absent : (l : List Counter) (a : ℕ) → NoneBefore l a (length l) → heard_of l a ≡ None
heard_absent [] a none = refl
heard_absent (x ∷ l) a none = grind (arith, nat_tests, none 0 (omega arith), heard_absent l a (none_before_tail x l a _ none))

-- the first counter of the agent gives the number
pub heard_present : (l : List Counter) (a i : ℕ) → IsCounterAt l a i → NoneBefore l a i → heard_of l a ≡ Some (get_or l i no_counter).done
heard_present [] a i is_at none = absurd (omega (arith, is_at.in_range))
heard_present (x ∷ l) a zero is_at none = grind (arith, nat_tests, is_at.is_own)
heard_present (x ∷ l) a (suc i) is_at none = grind (arith, nat_tests, none 0 (omega arith), heard_present l a i (is_at_tail x l a i is_at) (none_before_tail x l a i none))

-- writing over the agent's first counter sets its number
pub heard_set : (l : List Counter) (a n i : ℕ) → IsCounterAt l a i → NoneBefore l a i → HearsAfterSet l (set l i (record { agent = a; done = n })) a n
heard_set [] a n i is_at none q = absurd (omega (arith, is_at.in_range))
heard_set (x ∷ l) a n zero is_at none q = grind (arith, nat_tests, is_at.is_own)
heard_set (x ∷ l) a n (suc i) is_at none q = grind (arith, nat_tests, none 0 (omega arith), heard_set l a n i (is_at_tail x l a i is_at) (none_before_tail x l a i none) q)

-- so does a new counter before any of the agent
pub heard-insert : (l : List Counter) (a n i : ℕ) → NoneBefore l a i → HearsAfterSet l (insert l i (record { agent = a; done = n })) a n
heard-insert l a n zero none q = refl
heard-insert [] a n (suc i) none q = refl
heard-insert (x ∷ l) a n (suc i) none q = grind (arith, nat_tests, none 0 (omega arith), heard-insert l a n i (none_before_tail x l a i none) q)

-- one equation for every agent gives the two facts
sets_only : (old new : List Counter) (a n : ℕ) → HearsAfterSet old new a n → SetsOnly old new a n
sets_only old new a n hears = record { this_agent = grind (arith, nat_tests, hears a); other_agents = λ q differs. grind (arith, nat_tests, hears q) }

module _ (l : List Counter) (rising : IsRising l) (a : ℕ) where
  -- the comparisons with the agent rise along the list, as a binary search asks
  comparisons_rise : IsNonDecreasingBy (λ c. ordering_index (nat_cmp c.agent a)) l
  comparisons_rise = IsNonDecreasingBy-from_default (λ c. ordering_index (nat_cmp c.agent a)) l no_counter (λ i j le in_range.
      let agents_rise : agent_at l i ≤ agent_at l j = grind (arith, rising i j, λ (same : i ≡ j). ap (agent_at l) same) in
      grind (arith, nat_tests))

  -- a binary search ends at the agent's counter, or at the gap for it
  pub searched : (r : Result ℕ ℕ) → IsSearchInRange r (length l) → IsBinarySearchResult (λ c. nat_cmp c.agent a) l r → record { found : IfOk r (IsCounterAt l a); absent : IfErr r (IsGapFor l a) }
  searched (Ok at) in_range equal = record { found = record { in_range = in_range; is_own = ranked _ a _ (sym (equal no_counter)) }; absent = tt }
  searched (Err at) in_range parted = record {
    found = tt;
    absent = record {
      in_range = in_range;
      lesser_before = λ j lt. ranked _ a _ (sym ((parted comparisons_rise).0 j no_counter (omega arith) lt));
      greater_after = λ j le lt. ranked _ a _ (sym ((parted comparisons_rise).1 j no_counter le lt));
    };
  }

module _ (l : List Counter) (rising : IsRising l) (a at : ℕ) (is_at : IsCounterAt l a at) where
  -- the agents before the place are lesser, so none is this one
  none_before_at : NoneBefore l a at
  none_before_at j lt same = omega (arith, rising j at lt is_at.in_range, is_at.is_own)

  -- the counter is found at its place
  pub heard_at : heard_of l a ≡ Some (get_or l at no_counter).done
  heard_at = heard_present l a at is_at none_before_at

  -- writing over it changes that agent's number alone
  pub sets_only_set : (n : ℕ) → SetsOnly l (set l at (record { agent = a; done = n })) a n
  sets_only_set n = sets_only _ _ a n (heard_set l a n at is_at none_before_at)

  -- and keeps the order, since every agent stays
  pub rising_set : (n : ℕ) → IsRising (set l at (record { agent = a; done = n }))
  rising_set n i j lt in_range = grind (arith, common_steps, rising i j, rising i at, rising at j, is_at.in_range, is_at.is_own)

module _ (l : List Counter) (a at : ℕ) (gap : IsGapFor l a at) where
  -- an agent that has a gap is not found
  pub heard_in_gap : heard_of l a ≡ None
  heard_in_gap = heard_absent l a (λ j lt same. grind (arith, gap.lesser_before j, gap.greater_after j))

  -- any number is the greater
  pub greater_in_gap : (n : ℕ) → n ≡ max (known_in l a) n
  greater_in_gap n = (let known : known_in l a ≡ 0 = ap (λ o. unwrap_or o 0) heard_in_gap in omega (arith, known))

  -- a new counter in the gap changes that agent's number alone
  pub sets_only_insert : (n : ℕ) → SetsOnly l (insert l at (record { agent = a; done = n })) a n
  sets_only_insert n = sets_only _ _ a n (heard-insert l a n at (λ j lt same. omega (arith, gap.lesser_before j lt)))

  -- it keeps the order: each agent is an old one below the gap, the new one at it, or an old one moved up by one
  pub rising_insert : (n : ℕ) → IsRising l → IsRising (insert l at (record { agent = a; done = n }))
  rising_insert n rising i j lt in_range =
      let new = insert l at (record { agent = a; done = n }) in
      let agent = λ (c : Counter). c.agent in
      let length_new = length-insert l at (record { agent = a; done = n }) gap.in_range in
      let below : (i : ℕ) → i < at → agent_at new i ≡ agent_at l i = λ i less. ap agent (get_or-insert_below l at (record { agent = a; done = n }) no_counter i less gap.in_range) in
      let here : (i : ℕ) → i ≡ at → agent_at new i ≡ a = λ i same. rw same (ap agent (get_or-insert_at l at (record { agent = a; done = n }) no_counter gap.in_range)) in
      let above : (i : ℕ) → at < i → agent_at new i ≡ agent_at l (i - 1) = λ i more. subst (λ q. agent_at new q ≡ agent_at l (i - 1)) {x = i - 1 + 1} (omega arith)
      (ap agent (get_or-insert_above l at (record { agent = a; done = n }) no_counter (i - 1) (omega arith) gap.in_range)) in
      grind (arith, below i, here i, above i, below j, here j, above j, rising i j, rising i (j - 1), rising (i - 1) (j - 1), gap.lesser_before i, gap.greater_after (j - 1))
