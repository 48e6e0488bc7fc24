-- What counters come to that are merged with entries.
use Rattle.std.proofs.Common.{◌≡◌, ◌≢◌, ℕ, zero, suc, ◌+◌, ◌<◌, ◌≤◌, eqb, List, [], ◌∷◌, ◌++◌}
use Rattle.std.proofs.Common.{length, get_or, take, drop, set, true, false, if◌then◌else◌, Option}
use Rattle.std.proofs.Common.{Some, None, inl, inr, refl, sym, ap, subst, ◌∙◌, arith, add-one}
use Rattle.std.proofs.Common.{drop-cons, append_assoc, length-append, length-drop, ◌-◌, take-add}
use Rattle.std.proofs.Common.{length-take}
use Rattle.std.proofs.Math.Seq.{take-append_seam, drop-append_seam}
use Rattle.std.proofs.lemmas.List.{take-append-drop, drop_all, take_all, take_more_set, drop-set-lt, drop-drop}
use Rattle.std.proofs.lemmas.List.Sums.{prefix_len_stops}
use Rattle.std.specs.Prelude.{max, nat_lt, slice_get, unwrap_or, is_some}
use Rattle.std.specs.List.{prefix_len, AllByRecursion}
use Rattle.std.proofs.lemmas.Option.{same_Some, none-some}
use Rattle.std.proofs.lemmas.Bool.{cond_both, cases_lt, ltb-true, ltb-false, eqb-true, eqb-false}
use Rattle.std.proofs.lemmas.Bool.Decides.{nat_tests}
use Rattle.model.specs.declared.entry.Entry.{Entry}
use Rattle.model.specs.Messages.{told_by, AreRising}
use Rattle.agent.specs.declared.counters.Counter.{Counter}
use Rattle.agent.specs.Counters.{heard_of, agent_at, tells_of, raised, Raises, TellsOfNew, IsRising}
use Rattle.agent.specs.Code.Merging.{AreParted, StartsAbove, own_counter, merged, merged_with}
use Rattle.agent.proofs.CounterLemmas.{no_counter}

-- ---- counters that rise, told along the list

abbrev pub Rises : ℕ → List Counter → Type 0
Rises least [] = Unit {0}
Rises least (c ∷ l) = (least ≤ c.agent) × Rises (c.agent + 1) l

-- a list that rises by places rises along
rises : (least : ℕ) (l : List Counter) → IsRising l → (0 < length l → least ≤ agent_at l 0) → Rises least l
rises least [] rising head = tt
rises least (c ∷ l) rising head = (
  head (omega arith),
  rises (c.agent + 1) l (λ i j lt in_range. rising (suc i) (suc j) (omega arith) (omega arith))
      (λ some. (let later = rising 0 1 (omega arith) (omega arith) in omega (arith, later))),
)

pub rises_from_0 : (l : List Counter) → IsRising l → Rises 0 l
rises_from_0 l rising = rises 0 l rising (λ some. omega arith)

-- no counter is of an agent before the first
at_least : (least : ℕ) (l : List Counter) → Rises least l → (i : ℕ) → i < length l → least ≤ agent_at l i
at_least least [] rising i in_range = absurd (omega arith)
at_least least (c ∷ l) rising zero in_range = rising.0
at_least least (c ∷ l) rising (suc i) in_range = (let later = at_least (c.agent + 1) l rising.1 i (omega arith) in omega (arith, later, rising.0))

is_rising : (least : ℕ) (l : List Counter) → Rises least l → IsRising l
is_rising least [] rising i j lt in_range = absurd (omega arith)
is_rising least (c ∷ l) rising zero zero lt in_range = absurd (omega arith)
is_rising least (c ∷ l) rising (suc i) zero lt in_range = absurd (omega arith)
is_rising least (c ∷ l) rising zero (suc j) lt in_range = (let later = at_least (c.agent + 1) l rising.1 j (omega arith) in omega (arith, later))
is_rising least (c ∷ l) rising (suc i) (suc j) lt in_range = is_rising (c.agent + 1) l rising.1 i j (omega arith) (omega arith)

-- an agent before the first was not heard of
pub heard_before : (least : ℕ) (l : List Counter) (j : ℕ) → Rises least l → j < least → heard_of l j ≡ None
heard_before least [] j rising less = refl
heard_before least (c ∷ l) j rising less = grind (arith, nat_tests, rising.0, heard_before (c.agent + 1) l j rising.1 (omega (arith, rising.0)))

-- nor is it told of
tells_before : (least : ℕ) (es : List Entry) (j : ℕ) → AreRising least es → j < least → tells_of es j ≡ false
tells_before least [] j rising less = refl
tells_before least (e ∷ es) j rising less = grind (arith, nat_tests, rising.0, tells_before (e.agent + 1) es j rising.2 (omega (arith, rising.0)))

told_before : (least : ℕ) (es : List Entry) (j : ℕ) → AreRising least es → j < least → told_by es j ≡ 0
told_before least [] j rising less = refl
told_before least (e ∷ es) j rising less = grind (arith, nat_tests, rising.0, told_before (e.agent + 1) es j rising.2 (omega (arith, rising.0)))

-- ---- the counters rise again

abbrev Onward : List Entry → (List Counter → List Counter) → Type 0
Onward es rest = (least : ℕ) (l : List Counter) → Rises least l → AreRising least es → Rises least (rest l)

merged_with-rises : (e : Entry) (es : List Entry) (rest : List Counter → List Counter) → Onward es rest → Onward (e ∷ es) (merged_with e rest)
merged_with-rises e es rest onward least [] rising entries = (entries.0, onward (e.agent + 1) [] tt entries.2)
merged_with-rises e es rest onward least (c ∷ l) rising entries =
    cond_both (nat_lt c.agent e.agent) _ _ (Rises least)
    (λ less. (rising.0, merged_with-rises e es rest onward (c.agent + 1) l rising.1 (ltb_next less, entries.1, entries.2)))
    (λ not_less. cond_both (eqb c.agent e.agent) _ _ (Rises least)
    (λ same. (entries.0, onward (e.agent + 1) l (subst (λ a. Rises (a + 1) l) (eqb-true c.agent e.agent same) rising.1) entries.2))
    (λ differs. (entries.0, onward (e.agent + 1) (c ∷ l) (above not_less differs, rising.1) entries.2)))
  where
    ltb_next : nat_lt c.agent e.agent ≡ true → c.agent + 1 ≤ e.agent
    ltb_next less = (let lt = ltb-true c.agent e.agent less in omega (arith, lt))

    above : nat_lt c.agent e.agent ≡ false → eqb c.agent e.agent ≡ false → e.agent + 1 ≤ c.agent
    above not_less differs = (let le = ltb-false c.agent e.agent not_less in let ne = eqb-false c.agent e.agent differs in omega (arith, le, ne))

merged-onward : (es : List Entry) → Onward es (merged es)
merged-onward [] least l rising entries = rising
merged-onward (e ∷ es) least l rising entries = merged_with-rises e es (merged es) (merged-onward es) least l rising entries

pub merged-rising : (es : List Entry) (l : List Counter) → IsRising l → AreRising 0 es → IsRising (merged es l)
merged-rising es l rising entries = is_rising 0 _ (merged-onward es 0 l (rises_from_0 l rising) entries)

-- ---- each counter is raised

abbrev Raising : List Entry → (List Counter → List Counter) → Type 0
Raising es rest = (least : ℕ) (l : List Counter) → Rises least l → AreRising least es → (j : ℕ) → heard_of (rest l) j ≡ raised l es j

merged_with-raises : (e : Entry) (es : List Entry) (rest : List Counter → List Counter) → Raising es rest → Raising (e ∷ es) (merged_with e rest)
merged_with-raises e es rest raising least [] rising entries j =
    grind (arith, nat_tests, raising (e.agent + 1) [] tt entries.2 j, tells_before (e.agent + 1) es j entries.2, told_before (e.agent + 1) es j entries.2)
merged_with-raises e es rest raising least (c ∷ l) rising entries j =
    cond_both (nat_lt c.agent e.agent) _ _ (λ new. heard_of new j ≡ raised (c ∷ l) (e ∷ es) j)
    (λ less.
    let past = tells_before (c.agent + 1) (e ∷ es) j (omega (arith, ltb-true c.agent e.agent less), entries.1, entries.2) in
    grind (arith, nat_tests, past, merged_with-raises e es rest raising (c.agent + 1) l rising.1 (omega (arith, ltb-true c.agent e.agent less), entries.1, entries.2) j))
    (λ not_less. cond_both (eqb c.agent e.agent) _ _ (λ new. heard_of new j ≡ raised (c ∷ l) (e ∷ es) j)
    (λ same.
    let is_own = eqb-true c.agent e.agent same in
    let later = raising (e.agent + 1) l (subst (λ a. Rises (a + 1) l) is_own rising.1) entries.2 j in
    grind (arith, nat_tests, is_own, later, told_before (e.agent + 1) es j entries.2, tells_before (e.agent + 1) es j entries.2))
    (λ differs.
    let less : e.agent + 1 ≤ c.agent = omega (arith, ltb-false c.agent e.agent not_less, eqb-false c.agent e.agent differs) in
    let later = raising (e.agent + 1) (c ∷ l) (less, rising.1) entries.2 j in
    let absent = heard_before (e.agent + 1) (c ∷ l) j (less, rising.1) in
    grind (arith, nat_tests, later, absent, told_before (e.agent + 1) es j entries.2, tells_before (e.agent + 1) es j entries.2)))

merged-raising : (es : List Entry) → Raising es (merged es)
merged-raising [] least l rising entries j = refl
merged-raising (e ∷ es) least l rising entries j = merged_with-raises e es (merged es) (merged-raising es) least l rising entries j

pub merged-raises : (es : List Entry) (l : List Counter) → IsRising l → AreRising 0 es → Raises l (merged es l) es
merged-raises es l rising entries j = merged-raising es 0 l (rises_from_0 l rising) entries j

-- ---- none is lost, and one that comes is of an agent that was not heard of

abbrev Growing : (List Counter → List Counter) → Type 0
Growing rest = (l : List Counter) → length l ≤ length (rest l)

merged_with-growing : (e : Entry) (rest : List Counter → List Counter) → Growing rest → Growing (merged_with e rest)
merged_with-growing e rest growing [] = omega arith
merged_with-growing e rest growing (c ∷ l) =
    cond_both (nat_lt c.agent e.agent) _ _ (λ new. length (c ∷ l) ≤ length new)
    (λ less. (let later = merged_with-growing e rest growing l in omega (arith, later)))
    (λ not_less. cond_both (eqb c.agent e.agent) _ _ (λ new. length (c ∷ l) ≤ length new)
    (λ same. (let later = growing l in omega (arith, later)))
    (λ differs. (let later = growing (c ∷ l) in omega (arith, later))))

merged-growing : (es : List Entry) → Growing (merged es)
merged-growing [] l = omega arith
merged-growing (e ∷ es) l = merged_with-growing e (merged es) (merged-growing es) l

-- of agents from one on both lists say the same
abbrev SameFrom : ℕ → List Counter → List Counter → Type 0
SameFrom least whole l = (j : ℕ) → least ≤ j → heard_of whole j ≡ heard_of l j

abbrev Telling : List Counter → List Entry → (List Counter → List Counter) → Type 0
Telling whole es rest = (least : ℕ) (l : List Counter) → SameFrom least whole l → Rises least l → AreRising least es → length l < length (rest l) → TellsOfNew whole es

tells_here : (whole : List Counter) (e : Entry) (es : List Entry) → heard_of whole e.agent ≡ None → TellsOfNew whole (e ∷ es)
tells_here whole e es absent = (0, e, omega arith, refl, ap is_some absent)

tells_later : (whole : List Counter) (e : Entry) (es : List Entry) → TellsOfNew whole es → TellsOfNew whole (e ∷ es)
tells_later whole e es tells = (suc tells.0, tells.1, omega (arith, tells.2), tells.3, tells.4)

merged_with-telling : (whole : List Counter) (e : Entry) (es : List Entry) (rest : List Counter → List Counter) → Telling whole es rest → Telling whole (e ∷ es) (merged_with e rest)
merged_with-telling whole e es rest telling least [] same rising entries = λ grows. tells_here whole e es (same e.agent entries.0)
merged_with-telling whole e es rest telling least (c ∷ l) same rising entries =
    cond_both (nat_lt c.agent e.agent) _ _ (λ new. length (c ∷ l) < length new → TellsOfNew whole (e ∷ es))
    (λ less grows. merged_with-telling whole e es rest telling (c.agent + 1) l
    (λ j le. grind (arith, nat_tests, rising.0, same j))
    rising.1 (omega (arith, ltb-true c.agent e.agent less), entries.1, entries.2) (omega (arith, grows)))
    (λ not_less. cond_both (eqb c.agent e.agent) _ _ (λ new. length (c ∷ l) < length new → TellsOfNew whole (e ∷ es))
    (λ is_own grows.
    let own = eqb-true c.agent e.agent is_own in
    tells_later whole e es (telling (e.agent + 1) l
    (λ j le. grind (arith, nat_tests, own, rising.0, same j))
    (subst (λ a. Rises (a + 1) l) own rising.1) entries.2 (omega (arith, grows))))
    (λ differs grows.
    let less : e.agent + 1 ≤ c.agent = omega (arith, ltb-false c.agent e.agent not_less, eqb-false c.agent e.agent differs) in
    tells_here whole e es (same e.agent entries.0 ∙ heard_before (e.agent + 1) (c ∷ l) e.agent (less, rising.1) (omega arith))))

merged-telling : (whole : List Counter) (es : List Entry) → Telling whole es (merged es)
merged-telling whole [] least l same rising entries grows = absurd (omega (arith, grows))
merged-telling whole (e ∷ es) least l same rising entries grows = merged_with-telling whole e es (merged es) (merged-telling whole es) least l same rising entries grows

pub merged-new : (es : List Entry) (l : List Counter) → IsRising l → AreRising 0 es → length l < length (merged es l) → TellsOfNew l es
merged-new es l rising entries grows = merged-telling l es 0 l (λ j least. refl) (rises_from_0 l rising) entries grows

-- ---- one step of a pass: what is merged up to the entry's agent, and what is left

abbrev raised_by : Entry → Option ℕ → Counter
raised_by e own = record { agent = e.agent; done = max (unwrap_or own 0) e.done }

-- an entry is put in behind the counters of lesser agents
step : (e : Entry) (rest : List Counter → List Counter) (lesser : List Counter) (own : Option ℕ) (others : List Counter) → AllByRecursion (λ c. c.agent < e.agent) lesser →
    (own ≡ None → StartsAbove e.agent others)
    → merged_with e rest (lesser ++ (own_counter e.agent own ++ others)) ≡ lesser ++ (raised_by e own ∷ rest others)
step e rest [] None [] are_lesser has_gap = ap (λ n. record { agent = e.agent; done = n } ∷ rest []) (omega arith)
step e rest [] None (c ∷ others) are_lesser has_gap = (let above = has_gap refl in grind (arith, nat_tests, above))
step e rest [] (Some done) others are_lesser has_gap = grind (arith, nat_tests)
step e rest (c ∷ lesser) own others are_lesser has_gap = (let first = are_lesser.0 in grind (arith, nat_tests, first, step e rest lesser own others are_lesser.1 has_gap))

step_parted : (e : Entry) (es : List Entry) (counters lesser : List Counter) (own : Option ℕ) (others : List Counter) → AreParted e.agent counters lesser own others
    → merged (e ∷ es) counters ≡ lesser ++ (raised_by e own ∷ merged es others)
step_parted e es counters lesser own others parted =
    ap (merged_with e (merged es)) parted.parts ∙ step e (merged es) lesser own others parted.are_lesser parted.has_gap

-- the entry at a place is the first of those from there on
drop_first : (es : List Entry) (n : ℕ) (e : Entry) → slice_get es n ≡ Some e → drop n es ≡ e ∷ drop (suc n) es
drop_first [] n e there = absurd (none-some e there)
drop_first (x ∷ es) zero e there = ap (λ y. y ∷ es) (same_Some x e there)
drop_first (x ∷ es) (suc n) e there = drop_first es n e there

drop_entry : (es : List Entry) (n : ℕ) (e : Entry) → slice_get es n ≡ Some e → drop n es ≡ e ∷ drop (n + 1) es
drop_entry es n e there = rw add-one (drop_first es n e there)

-- a step at an entry of a list
pub merged_step : (es : List Entry) (n : ℕ) (e : Entry) (counters lesser : List Counter) (own : Option ℕ) (others : List Counter) → slice_get es n ≡ Some e → AreParted e.agent counters lesser own
    others
    → merged (drop n es) counters ≡ lesser ++ (raised_by e own ∷ merged (drop (n + 1) es) others)
merged_step es n e counters lesser own others there parted =
    ap (λ later. merged later counters) (drop_entry es n e there) ∙ step_parted e (drop (n + 1) es) counters lesser own others parted

-- what is left of the entries rises from the next agent on
pub rising_step : (es : List Entry) (n least : ℕ) (e : Entry) → slice_get es n ≡ Some e → AreRising least (drop n es) → (least ≤ e.agent) × AreRising (e.agent + 1) (drop (n + 1) es)
rising_step es n least e there rising = (let at = subst (AreRising least) (drop_entry es n e there) rising in (at.0, at.2))

-- the counters that a step makes, and those that it takes up
pub length-step : (es : List Entry) (n : ℕ) (e : Entry) (counters lesser : List Counter) (own : Option ℕ) (others : List Counter) → slice_get es n ≡ Some e → AreParted e.agent counters lesser own
    others
    → length (merged (drop n es) counters) ≡ length lesser + 1 + length (merged (drop (n + 1) es) others)
length-step es n e counters lesser own others there parted =
    (let same = ap length (merged_step es n e counters lesser own others there parted) in omega (arith, simp length-append at same))

pub length-parts : (agent : ℕ) (counters lesser : List Counter) (own : Option ℕ) (others : List Counter) → AreParted agent counters lesser own others
    → length counters ≡ length lesser + length (own_counter agent own) + length others
length-parts agent counters lesser own others parted = (let same = ap length parted.parts in omega (arith, simp length-append at same))

-- what is appended in a step, and what is left
pub appended : (all grown pushed lesser : List Counter) (y : Counter) (later now total : List Counter) → grown ≡ all ++ lesser → pushed ≡ grown ++ (y ∷ []) → now ≡ lesser ++ (y ∷ later) → all ++ now ≡
    total
    → pushed ++ later ≡ total
appended all grown pushed lesser y later now total grows pushes stepped before =
    ap (λ r. r ++ later) (pushes ∙ ap (λ r. r ++ (y ∷ [])) grows) ∙ append_assoc (all ++ lesser) (y ∷ []) later ∙ append_assoc all lesser (y ∷ later) ∙ ap (λ r. all ++ r) (sym stepped) ∙ before

-- the entry's agent is new, or has its counter among those that were parted
pub length-own : (agent : ℕ) (own : Option ℕ) → length (own_counter agent own) ≡ (if is_some own then 1 else 0)
length-own agent None = refl
length-own agent (Some done) = refl

-- ---- a step in place: the counter behind the lesser ones is written over

module _ (list : List Counter) (next : ℕ) (lesser : List Counter) (x : Counter) (others : List Counter) (within : next ≤ length list) (left : drop next list ≡ lesser ++ (x ∷ others)) where
  pub place_in_range : next + length lesser < length list
  place_in_range = (let lengths = ap length left in omega (arith, simp (length-append, length-drop) at lengths))

  front : take (next + length lesser) list ≡ take next list ++ lesser
  front = take-add next (length lesser) list ∙ ap (λ r. take next list ++ take (length lesser) r) left ∙ ap (λ r. take next list ++ r) (take-append_seam lesser (x ∷ others))

  back : drop (next + length lesser + 1) list ≡ others
  back = sym (drop-drop 1 (next + length lesser) list) ∙ ap (drop 1) (sym (drop-drop (length lesser) next list) ∙ ap (drop (length lesser)) left ∙ drop-append_seam lesser (x ∷ others))

  written_front : (y : Counter) → take (next + length lesser + 1) (set list (next + length lesser) y) ≡ (take next list ++ lesser) ++ (y ∷ [])
  written_front y = take_more_set list (next + length lesser) y place_in_range ∙ ap (λ r. r ++ (y ∷ [])) front

  written_back : (y : Counter) → drop (next + length lesser + 1) (set list (next + length lesser) y) ≡ others
  written_back y = drop-set-lt (next + length lesser + 1) list (next + length lesser) y (omega arith) ∙ back

  -- so what stands before the place, and what is left to be merged, are all as before
  pub known_step : (es : List Entry) (n : ℕ) (y : Counter) (all : List Counter) → merged (drop n es) (drop next list) ≡ lesser ++ (y ∷ merged (drop (n + 1) es) others)
      → take next list ++ merged (drop n es) (drop next list) ≡ all
      → take (next + length lesser + 1) (set list (next + length lesser) y) ++ merged (drop (n + 1) es) (drop (next + length lesser + 1) (set list (next + length lesser) y)) ≡ all
  known_step es n y all stepped before = rw (written_front y, written_back y)
      (append_assoc (take next list ++ lesser) (y ∷ []) _ ∙ append_assoc (take next list) lesser _ ∙ ap (λ r. take next list ++ r) (sym stepped) ∙ before)

-- a step over an agent without a counter would make the list longer
pub none_missing : (es : List Entry) (n : ℕ) (e : Entry) (list : List Counter) (next : ℕ) (lesser : List Counter) (own : Option ℕ) (others old : List Counter) → slice_get es n ≡ Some e → next ≤ length
    list → AreParted e.agent (drop next list) lesser own others → own ≡ None
    → length (merged es old) ≡ length old → length list ≡ length old → take next list ++ merged (drop n es) (drop next list) ≡ merged es old → ⊥
none_missing es n e list next lesser own others old there within parted none known same_length raised =
    let stepped = length-step es n e (drop next list) lesser own others there parted in
    let parts = length-parts e.agent (drop next list) lesser own others parted in
    let missing = ap (λ o. length (own_counter e.agent o)) none in
    let more = merged-growing (drop (n + 1) es) others in
    let lengths = ap length raised in
    omega (arith, stepped, parts, missing, more, length-drop next list, simp (length-append, length-take) at lengths)

-- a slice to the end is all that is left
pub all_there : (list : List Counter) (n : ℕ) → take (length list - n) (drop n list) ≡ drop n list
all_there list n = take_all (length list - n) (drop n list) (omega (arith, length-drop n list))

-- ---- parting

-- what is counted is of lesser agents
lesser_first : (l : List Counter) (a n : ℕ) → n ≤ prefix_len (λ c. nat_lt c.agent a) l → AllByRecursion (λ c. c.agent < a) (take n l)
lesser_first l a zero few = tt
lesser_first [] a (suc n) few = tt
lesser_first (c ∷ l) a (suc n) few = cond_both (nat_lt c.agent a) (1 + prefix_len (λ d. nat_lt d.agent a) l) 0 (λ most. suc n ≤ most → AllByRecursion (λ d. d.agent < a) (c ∷ take n l))
    (λ less few. (ltb-true c.agent a less, lesser_first l a n (omega (arith, few)))) (λ none few. absurd (omega (arith, few))) few

module _ (l : List Counter) (a n : ℕ) (count : n ≡ prefix_len (λ c. nat_lt c.agent a) l) where
  are_lesser : AllByRecursion (λ c. c.agent < a) (take n l)
  are_lesser = lesser_first l a n (omega (arith, count))

  from_there : n < length l → drop n l ≡ get_or l n no_counter ∷ drop (n + 1) l
  from_there in_range = rw (add-one, drop-cons l n no_counter)

  pub parted_own : n < length l → (get_or l n no_counter).agent ≡ a → AreParted a l (take n l) (Some (get_or l n no_counter).done) (take (length l - (n + 1)) (drop (n + 1) l))
  parted_own in_range is_own = subst (AreParted a l (take n l) (Some (get_or l n no_counter).done)) (sym (all_there l (n + 1))) (record {
    parts = sym (take-append-drop n l) ∙ ap (λ r. take n l ++ r) (from_there in_range) ∙ ap (λ i. take n l ++ (record { agent = i; done = (get_or l n no_counter).done } ∷ drop (n + 1) l)) is_own;
    are_lesser = are_lesser;
    has_gap = λ none. cc;
  })

  starts_above : (n < length l → (get_or l n no_counter).agent ≢ a) → StartsAbove a (drop n l)
  starts_above not_own = elim (cases_lt n (length l)) [
    | inl in_range ↦ (
        let stops = prefix_len_stops (λ c. nat_lt c.agent a) l no_counter (subst (λ k. k < length l) count in_range) in
        let least : a ≤ (get_or l n no_counter).agent = subst (λ k. a ≤ (get_or l k no_counter).agent) (sym count) (ltb-false _ a stops) in
        let other = not_own in_range in
        subst (StartsAbove a) (sym (from_there in_range)) (omega (arith, least, other))
        )
    | inr past ↦ subst (StartsAbove a) (sym (drop_all n l past)) tt
  ]

  pub parted_gap : (n < length l → (get_or l n no_counter).agent ≢ a) → AreParted a l (take n l) None (take (length l - n) (drop n l))
  parted_gap not_own = subst (AreParted a l (take n l) None) (sym (all_there l n)) (record {
    parts = sym (take-append-drop n l);
    are_lesser = are_lesser;
    has_gap = λ none. starts_above not_own;
  })
