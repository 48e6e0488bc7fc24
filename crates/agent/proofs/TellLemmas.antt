-- What an agent tells of its counters.
use Rattle.std.proofs.Common.{◌≡◌, ◌≢◌, ℕ, zero, suc, ◌+◌, ◌-◌, ◌*◌, ◌/◌, ◌<◌, ◌≤◌, eqb, List, []}
use Rattle.std.proofs.Common.{◌∷◌, ◌++◌, length, get_or, take, drop, inl, inr, refl, sym, ap, subst}
use Rattle.std.proofs.Common.{◌∙◌, arith, cond, append_assoc, append-nil, length-append}
use Rattle.std.proofs.Common.{length-drop, add-one, drop-cons}
use Rattle.std.specs.Prelude.{flat_map, unwrap_or}
use Rattle.std.specs.List.{AllByRecursion}
use Rattle.std.proofs.lemmas.List.{take-append-drop, take_all, drop_all}
use Rattle.std.proofs.lemmas.Bool.{cases_lt}
use Rattle.std.proofs.lemmas.Bool.Decides.{nat_tests}
use Rattle.std.proofs.lemmas.Grind.{flat_map-append}
use Rattle.model.specs.declared.entry.Entry.{Entry}
use Rattle.model.specs.Messages.{entries_from, number_told, entry_bytes, big_endian, whole_message, IsTold}
use Rattle.model.specs.Laws.Entries.{entries-rising, entries-few}
use Rattle.agent.specs.declared.counters.Counter.{Counter}
use Rattle.agent.specs.Counters.{heard_of, known_in, agent_at, AreWithin, IsRising}
use Rattle.agent.specs.Code.Places.{IsCounterAt, IsGapFor, AreAround}
use Rattle.agent.specs.Code.Told.{told_entries}
use Rattle.agent.proofs.CounterLemmas.{no_counter}
use Rattle.agent.proofs.MergeLemmas.{Rises, rises_from_0, heard_before, all_there}

abbrev AreLesser : ℕ → List Counter → Type 0
AreLesser a l = AllByRecursion (λ c. c.agent < a) l

abbrev AreGreater : ℕ → List Counter → Type 0
AreGreater a l = AllByRecursion (λ c. a < c.agent) l

abbrev AreOwn : ℕ → List Counter → Type 0
AreOwn a l = AllByRecursion (λ c. c.agent ≡ a) l

-- ---- the counters around an agent's own

first_lesser : (l : List Counter) (a n : ℕ) → ((j : ℕ) → j < n → j < length l → agent_at l j < a) → AreLesser a (take n l)
first_lesser l a zero all = tt
first_lesser [] a (suc n) all = tt
first_lesser (c ∷ l) a (suc n) all = (all 0 (omega arith) (omega arith), first_lesser l a n (λ j lt in_range. all (suc j) (omega arith) (omega arith)))

later_greater : (l : List Counter) (a n : ℕ) → ((j : ℕ) → n ≤ j → j < length l → a < agent_at l j) → AreGreater a (drop n l)
later_greater [] a zero all = tt
later_greater (c ∷ l) a zero all = (all 0 (omega arith) (omega arith), later_greater l a zero (λ j le in_range. all (suc j) (omega arith) (omega arith)))
later_greater [] a (suc n) all = tt
later_greater (c ∷ l) a (suc n) all = later_greater l a n (λ j le in_range. all (suc j) (omega arith) (omega arith))

module _ (l : List Counter) (rising : IsRising l) (a at : ℕ) where
  pub around_own : IsCounterAt l a at → AreAround a l (take at l) (take (length l - (at + 1)) (drop (at + 1) l))
  around_own is_at = subst (AreAround a l (take at l)) (sym (all_there l (at + 1))) (record {
    own = get_or l at no_counter ∷ [];
    parts = sym (take-append-drop at l) ∙ ap (λ r. take at l ++ r) (let in_range = is_at.in_range in rw (add-one, drop-cons l at no_counter)) ∙ sym
        (append_assoc (take at l) (get_or l at no_counter ∷ []) (drop (at + 1) l));
    rising = rising;
    are_lesser = first_lesser l a at (λ j lt in_range. (let less = rising j at lt is_at.in_range in omega (arith, less, is_at.is_own)));
    are_own = (is_at.is_own, tt);
    are_greater = later_greater l a (at + 1) (λ j le in_range. (let less = rising at j (omega arith) in_range in omega (arith, less, is_at.is_own)));
  })

  pub around_gap : IsGapFor l a at → AreAround a l (take at l) (take (length l - at) (drop at l))
  around_gap gap = subst (AreAround a l (take at l)) (sym (all_there l at)) (record {
    own = [];
    parts = sym (take-append-drop at l) ∙ ap (λ r. r ++ drop at l) (sym (append-nil (take at l)));
    rising = rising;
    are_lesser = first_lesser l a at (λ j lt in_range. gap.lesser_before j lt);
    are_own = tt;
    are_greater = later_greater l a at (λ j le in_range. gap.greater_after j le in_range);
  })

-- ---- the agent's own number in place of what it heard of itself

abbrev pub mine : ℕ → ℕ → Counter
mine from done = record { agent = from; done = done }

above_rises : (least from : ℕ) (own above : List Counter) → Rises least (own ++ above) → AreGreater from above → Rises (from + 1) above
above_rises least from (o ∷ own) above rising greater = above_rises (o.agent + 1) from own above rising.1 greater
above_rises least from [] [] rising greater = tt
above_rises least from [] (c ∷ above) rising greater = (omega (arith, greater.0), rising.1)

-- the counters with the agent's own number rise
whole_rises : (least from done : ℕ) (below own above : List Counter) → least ≤ from → Rises least (below ++ (own ++ above)) → AreLesser from below → AreGreater from above → Rises least
    (below ++ (mine from done ∷ above))
whole_rises least from done [] own above le rising lesser greater = (le, above_rises least from own above rising greater)
whole_rises least from done (c ∷ below) own above le rising lesser greater =
    (rising.0, whole_rises (c.agent + 1) from done below own above (omega (arith, lesser.0)) rising.1 lesser.1 greater)

-- what it heard of itself is no other agent's
past_own : (from j : ℕ) (own above : List Counter) → AreOwn from own → j ≢ from → heard_of (own ++ above) j ≡ heard_of above j
past_own from j [] above are_own differs = refl
past_own from j (o ∷ own) above are_own differs = grind (arith, nat_tests, are_own.0, past_own from j own above are_own.1 differs)

-- they know what is told
whole_known : (from done : ℕ) (below own above : List Counter) → AreLesser from below → AreOwn from own → (j : ℕ)
    → known_in (below ++ (mine from done ∷ above)) j ≡ number_told from done (known_in (below ++ (own ++ above))) j
whole_known from done [] own above lesser are_own j = grind (arith, nat_tests, past_own from j own above are_own)
whole_known from done (c ∷ below) own above lesser are_own j = grind (arith, nat_tests, lesser.0, whole_known from done below own above lesser.1 are_own j)

-- each counter is of one of so many agents
all_within : (agents : ℕ) (l : List Counter) → AreWithin agents l → AreLesser agents l
all_within agents [] within = tt
all_within agents (c ∷ l) within =
    (within c.agent (grind (arith, nat_tests)), all_within agents l (λ j heard. within j (grind (arith, nat_tests, heard))))

whole_within : (agents from done : ℕ) (below own above : List Counter) → from < agents → AreLesser agents (below ++ (own ++ above)) → AreLesser agents (below ++ (mine from done ∷ above))
whole_within agents from done (c ∷ below) own above less within = (within.0, whole_within agents from done below own above less within.1)
whole_within agents from done [] (o ∷ own) above less within = whole_within agents from done [] own above less within.1
whole_within agents from done [] [] above less within = (less, within)

-- ---- the entries of agents one after another are those of the counters

same_entries : (f g : ℕ → ℕ) (first count : ℕ) → ((j : ℕ) → first ≤ j → f j ≡ g j) → entries_from f first count ≡ entries_from g first count
same_entries f g first zero same = refl
same_entries f g first (suc count) same =
    (let here = same first (omega arith) in let later = same_entries f g (first + 1) count (λ j le. same j (omega arith)) in cc)

-- the counters lie in the range of agents
entries_of_counters : (count first top : ℕ) (l : List Counter) → top ≡ first + count → Rises first l → AreLesser top l → entries_from (known_in l) first count ≡ told_entries l
entries_of_counters zero first top [] ends rising within = refl
entries_of_counters zero first top (c ∷ l) ends rising within = absurd (omega (arith, ends, rising.0, within.0))
entries_of_counters (suc count) first top [] ends rising within = entries_of_counters count (first + 1) top [] (omega arith) tt tt
entries_of_counters (suc count) first top (c ∷ l) ends rising within =
    elim (cases_lt first c.agent) [
      | inl less ↦ (
          let none : known_in (c ∷ l) first ≡ 0 = ap (λ o. unwrap_or o 0) (heard_before c.agent (c ∷ l) first (omega arith, rising.1) less) in
          let later = entries_of_counters count (first + 1) top (c ∷ l) (omega arith) (omega arith, rising.1) within in
          subst (λ n. cond (eqb n 0) (entries_from (known_in (c ∷ l)) (first + 1) count) (record { agent = first; done = n } ∷ entries_from (known_in (c ∷ l)) (first + 1) count) ≡ told_entries
          (c ∷ l)) (sym none) later
          )
      | inr not_less ↦ (
          let own : c.agent ≡ first = omega (arith, rising.0) in
          let known : known_in (c ∷ l) first ≡ c.done = grind (arith, nat_tests, own) in
          let others = same_entries (known_in (c ∷ l)) (known_in l) (first + 1) count (λ j le. grind (arith, nat_tests, own)) in
          let later = entries_of_counters count (first + 1) top l (omega arith) (subst (λ a. Rises (a + 1) l) own rising.1) within.1 in
          cc
          )
    ]

-- what is told of so many agents, by the counters around the agent's own
pub entries_told : (agents from done : ℕ) (counters below above : List Counter) → AreAround from counters below above → from < agents → AreWithin agents counters
    → entries_from (number_told from done (known_in counters)) 0 agents ≡ told_entries (below ++ (mine from done ∷ above))
entries_told agents from done counters below above around less within =
    let parts = around.parts ∙ append_assoc below around.own above in
    let whole_rising = whole_rises 0 from done below around.own above (omega arith) (subst (Rises 0) parts (rises_from_0 counters around.rising)) around.are_lesser around.are_greater in
    let lesser = whole_within agents from done below around.own above less (subst (AreLesser agents) parts (all_within agents counters within)) in
    same_entries _ (known_in (below ++ (mine from done ∷ above))) 0 agents
    (λ j le. ap (λ l. number_told from done (known_in l) j) parts ∙ sym (whole_known from done below around.own above around.are_lesser around.are_own j))
    ∙ entries_of_counters agents 0 agents (below ++ (mine from done ∷ above)) (omega arith) whole_rising lesser

-- ---- bytes

-- an entry has six bytes
length-entries : (es : List Entry) → length (flat_map entry_bytes es) ≡ 6 * length es
length-entries [] = refl
length-entries (e ∷ es) = (let later = length-entries es in omega (arith, later))

pub told-append : (xs ys : List Counter) → told_entries (xs ++ ys) ≡ told_entries xs ++ told_entries ys
told-append [] ys = refl
told-append (c ∷ xs) ys = grind (arith, nat_tests, told-append xs ys)

-- the entries of counters around one, put in three parts
pub puts_around : (front a b c : List ℕ) (own : Counter) (below above : List Counter) → a ≡ front ++ flat_map entry_bytes (told_entries below) → b ≡ a ++ flat_map entry_bytes (told_entries (own ∷ []))
    → c ≡ b ++ flat_map entry_bytes (told_entries above)
    → c ≡ front ++ flat_map entry_bytes (told_entries (below ++ (own ∷ above)))
puts_around front a b c own below above puts_below puts_own puts_above =
    let spelled = λ (l : List Counter). flat_map entry_bytes (told_entries l) in
    let spelled-append = λ (k l : List Counter). ap (flat_map entry_bytes) (told-append k l) ∙ flat_map-append entry_bytes (told_entries k) (told_entries l) in
    let whole = spelled-append below (own ∷ above) ∙ ap (λ r. spelled below ++ r) (spelled-append (own ∷ []) above) in
    puts_above ∙ ap (λ r. r ++ spelled above) (puts_own ∙ ap (λ r. r ++ spelled (own ∷ [])) puts_below)
    ∙ append_assoc (front ++ spelled below) (spelled (own ∷ [])) (spelled above) ∙ append_assoc front (spelled below) (spelled (own ∷ []) ++ spelled above)
    ∙ ap (λ r. front ++ r) (sym whole)

-- so many of them
length-put : (front d : List ℕ) (es : List Entry) → d ≡ front ++ flat_map entry_bytes es → length d ≡ length front + 6 * length es
length-put front d es puts = (let lengths = ap length puts in omega (arith, length-entries es, simp length-append at lengths))

-- the head is put in place of the bytes that were left for it
is_told : (plan agents from done : ℕ) (known : ℕ → ℕ) (es : List Entry) (head rest : List ℕ) (count : ℕ) → entries_from (number_told from done known) 0 agents ≡ es → count ≡ length es
    → head ≡ 0x46 ∷ 2 ∷ (big_endian 2 from ++ big_endian 4 plan ++ big_endian 2 count) → rest ≡ flat_map entry_bytes es → IsTold plan (whole_message agents from done known) (head ++ rest)
is_told plan agents from done known es head rest count told counts heads rests = record {
  spelled = ap (λ h. h ++ rest) heads ∙ ap (λ n. 0x46 ∷ 2 ∷ (big_endian 2 from ++ big_endian 4 plan ++ big_endian 2 n ++ rest)) counts
      ∙ ap (λ r. 0x46 ∷ 2 ∷ (big_endian 2 from ++ big_endian 4 plan ++ big_endian 2 (length es) ++ r)) rests
      ∙ ap (λ l. 0x46 ∷ 2 ∷ (big_endian 2 from ++ big_endian 4 plan ++ big_endian 2 (length l) ++ flat_map entry_bytes l)) (sym told);
  rising = entries-rising (number_told from done known) 0 agents;
}

abbrev pub blank : List ℕ
blank = 0 ∷ 0 ∷ 0 ∷ 0 ∷ 0 ∷ 0 ∷ 0 ∷ 0 ∷ 0 ∷ 0 ∷ []

abbrev pub spelled : (from done : ℕ) → List Counter → List Counter → List ℕ
spelled from done below above = flat_map entry_bytes (told_entries (below ++ (mine from done ∷ above)))

-- what was put, behind the bytes that are left for the head
module _ (from done : ℕ) (counters below above : List Counter) (around : AreAround from counters below above) (items : List ℕ) (len : ℕ)
    (puts : items ≡ blank ++ spelled from done below above) (lengths : len ≡ length items) where
  counted : len ≡ 10 + 6 * length (told_entries (below ++ (mine from done ∷ above)))
  counted = lengths ∙ length-put blank items (told_entries (below ++ (mine from done ∷ above))) puts

  pub has_head : 10 ≤ length items
  has_head = omega (arith, counted, lengths)

  pub count_small : from < 65535 → AreWithin 65535 counters → (len - 10) / 6 < 65536
  count_small less within =
      let told = entries_told 65535 from done counters below above around less within in
      let few = subst (λ l. length l ≤ 65535) told (entries-few (number_told from done (known_in counters)) 0 65535) in
      omega (arith, counted, few)

  pub all_told : (plan agents size : ℕ) (head written : List ℕ) → size ≡ len → from < agents → AreWithin agents counters → head ≡ 0x46 ∷ 2 ∷
      (big_endian 2 from ++ big_endian 4 plan ++ big_endian 2 ((len - 10) / 6)) → written ≡ head ++ drop 10 items
      → IsTold plan (whole_message agents from done (known_in counters)) (take size (written ++ drop (length written) items))
  all_told plan agents size head written same less within heads writes =
      let told = entries_told agents from done counters below above around less within in
      let head_length = ap length heads in
      let written_length = ap length writes in
      let as_long : length written ≡ len = omega (arith, head_length, length-drop 10 items, has_head, lengths, simp length-append at written_length) in
      let nothing = drop_all (length written) items (omega (arith, as_long, lengths)) in
      let whole = ap (λ n. take n (written ++ drop (length written) items)) same ∙ ap (λ r. take len (written ++ r)) nothing ∙ ap (take len) (append-nil written) ∙ take_all len written
      (omega (arith, as_long)) in
      subst (IsTold plan (whole_message agents from done (known_in counters))) (sym (whole ∙ writes))
      (is_told plan agents from done (known_in counters) _ head (drop 10 items) ((len - 10) / 6) told (omega (arith, counted)) heads (ap (drop 10) puts))
