-- A walk along links from an entry that no entry with a link is less than.
use Rattle.std.proofs.Common.{◌≡◌, ℕ, zero, suc, ◌+◌, ◌-◌, ◌<◌, ◌≤◌, List, [], ◌∷◌, ◌++◌, length, get_or, Some, inl, inr, arith, refl, sym, ap, subst, cond, eqb, true, false, ◌∙◌}
use Rattle.std.specs.Prelude.{◌⊎◌, slice_get, count_by}
use Rattle.std.proofs.Math.ListN.{set}
use Rattle.std.proofs.lemmas.Bool.{cases_lt, cases_eq, cases_order, ne_eqb}
use Rattle.std.proofs.lemmas.List.{length-set, length_push}
use Rattle.std.proofs.lemmas.List.Sums.{sum_by-set}
use Rattle.std.proofs.lemmas.Option.{slice_get-get_or, slice_get_within}
use Rattle.model.specs.Dependency.{following}
use Rattle.depgraph.specs.Code.Cycles.{LinksTo, AreLinks, IsCycle, IsCut, IsCycleWalked}
use Rattle.depgraph.specs.Code.Waits.{no_entry}
use Rattle.depgraph.proofs.RingLemmas.{push-old, push-new, push-cases, write-same, write-other, one_at, same_at, following-next, following-first, follower-within, follower, followed, same_by_places}

-- Different entries from the first on, each with a link to the next.
pub record IsPath (first : ℕ) (ahead path : List ℕ) : Type 0 where
  pub head : slice_get path 0 ≡ Some first
  pub different : (place other i : ℕ) → slice_get path place ≡ Some i → slice_get path other ≡ Some i → place ≡ other
  pub linked : (place i j : ℕ) → slice_get path place ≡ Some i → slice_get path (suc place) ≡ Some j → LinksTo ahead i j
  pub within : (place i : ℕ) → slice_get path place ≡ Some i → i < length ahead

-- The links of these entries are gone, and no others.
pub record AreTaken (ahead now taken : List ℕ) : Type 0 where
  pub count : length now ≡ length ahead
  pub gone : (place i : ℕ) → slice_get taken place ≡ Some i → slice_get now i ≡ Some no_entry
  pub rest : (i : ℕ) → ((place : ℕ) → slice_get taken place ≡ Some i → ⊥) → slice_get now i ≡ slice_get ahead i

-- how many links are left
abbrev pub links_left : List ℕ → ℕ
links_left now = count_by (λ j. cond (eqb j no_entry) false true) now

-- ---- one entry more

pub path-start : (first : ℕ) (ahead : List ℕ) → first < length ahead → IsPath first ahead (first ∷ [])
path-start first ahead less = record {
  head = refl;
  different = λ place other i at_place at_other.
      let one = slice_get_within (first ∷ []) place i at_place in
      let two = slice_get_within (first ∷ []) other i at_other in
      omega (arith, one, two);
  linked = λ place i j at_place at_next. absurd (let two = slice_get_within (first ∷ []) (suc place) j at_next in omega (arith, two));
  within = λ place i at_place.
      let one = slice_get_within (first ∷ []) place i at_place in
      let none : place ≡ 0 = omega (arith, one) in
      let same = same_at (first ∷ []) 0 first i refl (ap (slice_get (first ∷ [])) (sym none) ∙ at_place) in
      omega (arith, less, same);
}

-- the entry at the end isn't among those before it
last-new : (first : ℕ) (ahead taken : List ℕ) (entry place : ℕ) → IsPath first ahead (taken ++ entry ∷ []) → slice_get taken place ≡ Some entry → ⊥
last-new first ahead taken entry place path there =
    let same = path.different place (length taken) entry (push-old taken entry entry place there) (push-new taken entry) in
    let less = slice_get_within taken place entry there in
    omega (arith, same, less)

pub next-told : (first : ℕ) (ahead now taken : List ℕ) (entry next : ℕ) → IsPath first ahead (taken ++ entry ∷ []) → AreTaken ahead now taken
    → slice_get now entry ≡ Some next → slice_get ahead entry ≡ Some next
next-told first ahead now taken entry next path before there = sym (before.rest entry (λ place. last-new first ahead taken entry place path)) ∙ there

pub taken-more : (first : ℕ) (ahead now taken : List ℕ) (entry : ℕ) → IsPath first ahead (taken ++ entry ∷ []) → AreTaken ahead now taken
    → AreTaken ahead (set now entry no_entry) (taken ++ entry ∷ [])
taken-more first ahead now taken entry path before =
    let count = before.count in
    let inside = path.within (length taken) entry (push-new taken entry) in
    let own = write-same now entry no_entry (omega (arith, count, inside)) in
    record {
      count = length-set now entry no_entry ∙ count;
      gone = λ place i there. elim (push-cases taken entry i place there) [
        | inl old ↦ elim (cases_eq i entry) [
          | inl same ↦ ap (slice_get (set now entry no_entry)) same ∙ own
          | inr other ↦ write-other now entry i no_entry other ∙ before.gone place i old
        ]
        | inr new ↦ ap (slice_get (set now entry no_entry)) (sym new.1) ∙ own
      ];
      rest = λ i apart.
          write-other now entry i no_entry (λ same. apart (length taken) (push-new taken entry ∙ ap Some (sym same)))
          ∙ before.rest i (λ place there. apart place (push-old taken entry i place there));
    }

-- the link of the entry at the end, and what is left when it is taken away
pub link-taken : (first : ℕ) (ahead now taken : List ℕ) (entry : ℕ) → IsPath first ahead (taken ++ entry ∷ []) → AreTaken ahead now taken
    → (slice_get ahead entry ≡ Some (get_or now entry 0)) × AreTaken ahead (set now entry no_entry) (taken ++ entry ∷ [])
link-taken first ahead now taken entry path before =
    let inside = path.within (length taken) entry (push-new taken entry) in
    let count = before.count in
    let there = slice_get-get_or now entry 0 (omega (arith, count, inside)) in
    (next-told first ahead now taken entry (get_or now entry 0) path before there, taken-more first ahead now taken entry path before)

-- one link less
pub fewer-links : (now : List ℕ) (index : ℕ) → index < length now → (get_or now index 0 ≡ no_entry → ⊥) → links_left (set now index no_entry) < links_left now
fewer-links now index inside linked =
    let sum = sum_by-set (λ j. cond (cond (eqb j no_entry) false true) 1 0) now index no_entry 0 inside in
    let was = ap {B = ℕ} (λ b. cond (cond b false true) 1 0) (ne_eqb (get_or now index 0) no_entry linked) in
    omega (arith, sum, was)

-- two entries with a link to one are one
pub path-more : (first : ℕ) (ahead taken : List ℕ) (entry next : ℕ) → AreLinks ahead → IsPath first ahead (taken ++ entry ∷ [])
    → LinksTo ahead entry next → (next ≡ first → ⊥) → IsPath first ahead ((taken ++ entry ∷ []) ++ next ∷ [])
path-more first ahead taken entry next links path leads other_than = record {
  head = push-old (taken ++ entry ∷ []) next first 0 path.head;
  different = λ place other i at_place at_other. elim (push-cases (taken ++ entry ∷ []) next i place at_place) [
    | inl old ↦ elim (push-cases (taken ++ entry ∷ []) next i other at_other) [
      | inl too ↦ path.different place other i old too
      | inr new ↦ absurd (fresh place (old ∙ ap Some (sym new.1)))
    ]
    | inr new ↦ elim (push-cases (taken ++ entry ∷ []) next i other at_other) [
      | inl old ↦ absurd (fresh other (old ∙ ap Some (sym new.1)))
      | inr too ↦ new.0 ∙ sym too.0
    ]
  ];
  linked = λ place i j at_place at_next. elim (push-cases (taken ++ entry ∷ []) next j (suc place) at_next) [
    | inl old ↦ path.linked place i j (was place i at_place (let less = slice_get_within (taken ++ entry ∷ []) (suc place) j old in omega (arith, less))) old
    | inr new ↦ (
        let long = new.0 in
        let before = was place i at_place (omega (arith, long)) in
        let same = same_at (taken ++ entry ∷ []) place i entry before (ap (slice_get (taken ++ entry ∷ [])) (is_last place long) ∙ push-new taken entry) in
        let to = new.1 in
        (ap (slice_get ahead) same ∙ leads.0 ∙ ap Some to, λ none. leads.1 (to ∙ none))
        )
  ];
  within = λ place i at_place. elim (push-cases (taken ++ entry ∷ []) next i place at_place) [
    | inl old ↦ path.within place i old
    | inr new ↦ (let inside = links.within entry next leads in let same = new.1 in omega (arith, inside, same))
  ];
} where
  push_long : length (taken ++ entry ∷ []) ≡ length taken + 1
  push_long = length_push taken entry

  fresh : (place : ℕ) → slice_get (taken ++ entry ∷ []) place ≡ Some next → ⊥
  fresh zero there = other_than (same_at (taken ++ entry ∷ []) 0 next first there path.head)
  fresh (suc place) there =
      let less = slice_get_within (taken ++ entry ∷ []) (suc place) next there in
      let before = one_at (taken ++ entry ∷ []) place (omega (arith, less)) in
      let same = links.injective before.0 entry next (path.linked place before.0 next before.1 there) leads in
      let last = path.different place (length taken) entry (before.1 ∙ ap Some same) (push-new taken entry) in
      let long = push_long in
      omega (arith, less, last, long)

  is_last : (place : ℕ) → suc place ≡ length (taken ++ entry ∷ []) → place ≡ length taken
  is_last place long = let one = push_long in omega (arith, long, one)

  was : (place i : ℕ) → slice_get ((taken ++ entry ∷ []) ++ next ∷ []) place ≡ Some i → place < length (taken ++ entry ∷ []) → slice_get (taken ++ entry ∷ []) place ≡ Some i
  was place i there less = elim (push-cases (taken ++ entry ∷ []) next i place there) [
    | inl old ↦ old
    | inr new ↦ absurd (let past = new.0 in omega (arith, past, less))
  ]

-- ---- cycles

pub inside_links : (ahead entries : List ℕ) (place i : ℕ) → IsCycle ahead entries → slice_get entries place ≡ Some i → i < length ahead
inside_links ahead entries place i h there =
    let next = follower entries place h.some in
    slice_get_within ahead i next.0 (h.cycle place i next.0 there next.1)

not_none : (ahead : List ℕ) (i : ℕ) → AreLinks ahead → i < length ahead → i ≡ no_entry → ⊥
not_none ahead i links inside same = let few = links.few in omega (arith, few, inside, same)

pub cycle-leads : (ahead entries : List ℕ) (place i j : ℕ) → AreLinks ahead → IsCycle ahead entries → slice_get entries place ≡ Some i → following entries place ≡ Some j
    → LinksTo ahead i j
cycle-leads ahead entries place i j links h there next =
    let other = follower-within entries place j next in
    (h.cycle place i j there next, not_none ahead j links (inside_links ahead entries other.0 j h other.1))

pub cycle-cut : (ahead now entries : List ℕ) → AreLinks ahead → IsCut ahead now → IsCycle now entries → IsCycle ahead entries
cycle-cut ahead now entries links cut h = record {
  some = h.some;
  different = h.different;
  least = h.least;
  cycle = λ place i j there next.
      let other = follower-within entries place j next in
      let inside = inside_links now entries other.0 j h other.1 in
      let count = cut.count in
      (cut.kept i j (h.cycle place i j there next, not_none ahead j links (omega (arith, inside, count)))).0;
}

-- an entry of a path from outside a cycle is no entry of the cycle
path-outside : (first : ℕ) (ahead path entries : List ℕ) → AreLinks ahead → IsPath first ahead path → IsCycle ahead entries
    → ((other : ℕ) → slice_get entries other ≡ Some first → ⊥) → (place i : ℕ) → slice_get path place ≡ Some i → (other : ℕ) → slice_get entries other ≡ Some i → ⊥
path-outside first ahead path entries links is_path h outside zero i there other too =
    outside other (too ∙ ap Some (same_at path 0 i first there is_path.head))
path-outside first ahead path entries links is_path h outside (suc place) i there other too =
    let less = slice_get_within path (suc place) i there in
    let before = one_at path place (omega (arith, less)) in
    let leads = is_path.linked place before.0 i before.1 there in
    let behind = followed entries other i too in
    let same = links.injective before.0 behind.1 i leads (cycle-leads ahead entries behind.0 behind.1 i links h behind.2 behind.3) in
    path-outside first ahead path entries links is_path h outside place before.0 before.1 behind.0 (behind.2 ∙ ap Some (sym same))

-- a cycle and a path that begin with one entry go on alike
path-along : (first : ℕ) (ahead path entries : List ℕ) → IsPath first ahead path → IsCycle ahead entries → slice_get entries 0 ≡ Some first
    → (place : ℕ) → place < length entries → place < length path → slice_get entries place ≡ slice_get path place
path-along first ahead path entries is_path h begins zero within inside = begins ∙ sym is_path.head
path-along first ahead path entries is_path h begins (suc place) within inside =
    let here = one_at path place (omega (arith, inside)) in
    let there = one_at path (suc place) inside in
    let own = one_at entries (suc place) within in
    let next : place + 1 ≡ suc place = omega arith in
    let along = path-along first ahead path entries is_path h begins place (omega (arith, within)) (omega (arith, inside)) ∙ here.1 in
    let step = h.cycle place here.0 own.0 along (following-next entries place (omega (arith, within)) ∙ ap (slice_get entries) next ∙ own.1) in
    own.1 ∙ sym step ∙ (is_path.linked place here.0 there.0 here.1 there.1).0 ∙ sym there.1

-- A path that comes to an end: from its last entry, the link is to the first or to no_entry.
pub record IsWhole (first : ℕ) (ahead path : List ℕ) (last next : ℕ) : Type 0 where
  pub is_path : IsPath first ahead path
  pub place : ℕ
  pub is_last : suc place ≡ length path
  pub there : slice_get path place ≡ Some last
  pub leads : slice_get ahead last ≡ Some next
  pub ends : (next ≡ first) ⊎ (next ≡ no_entry)

first-inside : (first : ℕ) (ahead path : List ℕ) → IsPath first ahead path → first < length ahead
first-inside first ahead path is_path = is_path.within 0 first is_path.head

-- a cycle with the same first entry is the path
cycle_is_path : (first : ℕ) (ahead path : List ℕ) (last next : ℕ) (entries : List ℕ) → AreLinks ahead → IsWhole first ahead path last next → IsCycle ahead entries
    → slice_get entries 0 ≡ Some first → (next ≡ first) × (entries ≡ path)
cycle_is_path first ahead path last next entries links whole h begins = elim (cases_order (length entries) (length path)) [
  | inl long ↦ (
      let end = whole.is_last in
      let own = along whole.place (omega (arith, end, long)) (omega (arith, end)) ∙ whole.there in
      let back = h.cycle whole.place last first own (following-first entries whole.place (omega (arith, end, long)) ∙ begins) in
      (same_at ahead last next first whole.leads back, same_by_places entries path long (λ k less. along k less (omega (arith, less, long))))
      )
  | inr unlike ↦ absurd (elim unlike [
    | inl shorter ↦ (
        let some = h.some in
        let end : suc (length entries - 1) ≡ length entries = omega (arith, some) in
        let here = one_at path (length entries - 1) (omega (arith, some, shorter)) in
        let after = one_at path (suc (length entries - 1)) (omega (arith, end, shorter)) in
        let own = along (length entries - 1) (omega (arith, some)) (omega (arith, some, shorter)) ∙ here.1 in
        let back = h.cycle (length entries - 1) here.0 first own (following-first entries (length entries - 1) (omega (arith, some)) ∙ begins) in
        let same = same_at ahead here.0 first after.0 back (is_path.linked (length entries - 1) here.0 after.0 here.1 after.1).0 in
        let twice = is_path.different 0 (suc (length entries - 1)) first is_path.head (after.1 ∙ ap Some (sym same)) in
        omega (arith, twice)
        )
    | inr longer ↦ (
        let end = whole.is_last in
        let own = along whole.place (omega (arith, end, longer)) (omega (arith, end)) ∙ whole.there in
        let after = one_at entries (suc whole.place) (omega (arith, end, longer)) in
        let next_place : whole.place + 1 ≡ suc whole.place = omega arith in
        let goes = h.cycle whole.place last after.0 own (following-next entries whole.place (omega (arith, end, longer)) ∙ ap (slice_get entries) next_place ∙ after.1) in
        let same = same_at ahead last after.0 next goes whole.leads in
        elim whole.ends [
          | inl back ↦ (let twice = h.different 0 (suc whole.place) first begins (after.1 ∙ ap Some (same ∙ back)) in omega (arith, twice))
          | inr none ↦ not_none ahead after.0 links (inside_links ahead entries (suc whole.place) after.0 h after.1) (same ∙ none)
        ]
        )
  ])
] where
  is_path : IsPath first ahead path
  is_path = whole.is_path

  along : (place : ℕ) → place < length entries → place < length path → slice_get entries place ≡ slice_get path place
  along = path-along first ahead path entries is_path h begins

-- a path whose last entry has a link to the first is a cycle
path_is_cycle : (first : ℕ) (ahead path : List ℕ) (last next : ℕ) → AreLinks ahead → ((i j : ℕ) → LinksTo ahead i j → first ≤ i) → IsWhole first ahead path last next
    → next ≡ first → IsCycle ahead path
path_is_cycle first ahead path last next links least whole back = record {
  some = slice_get_within path 0 first is_path.head;
  different = is_path.different;
  least = λ place start i at_first there.
      let same = same_at path 0 start first at_first is_path.head in
      let next_one = follower path place (slice_get_within path 0 first is_path.head) in
      let other = follower-within path place next_one.0 next_one.1 in
      let least_i = least i next_one.0 (goes place i next_one.0 there next_one.1, not_none ahead next_one.0 links (is_path.within other.0 next_one.0 other.1)) in
      omega (arith, same, least_i);
  cycle = goes;
} where
  is_path : IsPath first ahead path
  is_path = whole.is_path

  goes : (place i j : ℕ) → slice_get path place ≡ Some i → following path place ≡ Some j → slice_get ahead i ≡ Some j
  goes place i j there follows = elim (cases_lt (place + 1) (length path)) [
    | inl less ↦ (
        let next_place : place + 1 ≡ suc place = omega arith in
        (is_path.linked place i j there (ap (slice_get path) (sym next_place) ∙ sym (following-next path place less) ∙ follows)).0
        )
    | inr past ↦ (
        let end = whole.is_last in
        let inside = slice_get_within path place i there in
        let same_place : place ≡ whole.place = omega (arith, end, past, inside) in
        let is_end = same_at path whole.place i last (ap (slice_get path) (sym same_place) ∙ there) whole.there in
        let is_first = same_at path 0 j first (sym (following-first path place past) ∙ follows) is_path.head in
        ap (slice_get ahead) is_end ∙ whole.leads ∙ ap Some (back ∙ sym is_first)
        )
  ]

-- a cycle without the first entry keeps its links
cycle-apart : (first : ℕ) (ahead now path entries : List ℕ) → AreLinks ahead → IsPath first ahead path → AreTaken ahead now path → IsCycle ahead entries
    → ((other : ℕ) → slice_get entries other ≡ Some first → ⊥) → IsCycle now entries
cycle-apart first ahead now path entries links is_path taken h outside = record {
  some = h.some;
  different = h.different;
  least = h.least;
  cycle = λ place i j there next.
      taken.rest i (λ other too. path-outside first ahead path entries links is_path h outside other i too place there) ∙ h.cycle place i j there next;
}

walked : (first : ℕ) (ahead now path : List ℕ) (last next : ℕ) (found : Type 0) → AreLinks ahead → ((i j : ℕ) → LinksTo ahead i j → first ≤ i)
    → IsWhole first ahead path last next → AreTaken ahead now path → (found → next ≡ first) → (next ≡ first → found) → IsCycleWalked first ahead now path found
walked first ahead now path last next found links least whole taken back is_found = record {
  is_cut = record {
    count = taken.count;
    kept = λ i j leads. (sym (taken.rest i (λ place there. leads.1 (same_at now i j no_entry leads.0 (taken.gone place i there)))) ∙ leads.0, leads.1);
  };
  gone = λ j leads. leads.1 (same_at now first j no_entry leads.0 (taken.gone 0 first whole.is_path.head));
  is_cycle = λ is. (path_is_cycle first ahead path last next links least whole (back is), whole.is_path.head);
  others = λ entries h.
      let start = one_at entries 0 h.some in
      elim (cases_eq start.0 first) [
        | inl same ↦ (
            let both = cycle_is_path first ahead path last next entries links whole h (start.1 ∙ ap Some same) in
            inl (is_found both.0, both.1)
            )
        | inr other ↦ inr (cycle-apart first ahead now path entries links whole.is_path taken h (λ place there.
            let below = h.least place start.0 first start.1 there in
            let start_next = follower entries 0 h.some in
            let from = least start.0 start_next.0 (cycle-leads ahead entries 0 start.0 start_next.0 links h start.1 start_next.1) in
            other (omega (arith, below, from))))
      ];
}

-- a walk ends where the last entry has a link back to the first, or no link
pub walk-ends : (first : ℕ) (ahead now taken trail : List ℕ) (entry : ℕ) (found : Type 0) → AreLinks ahead → ((i j : ℕ) → LinksTo ahead i j → first ≤ i)
    → IsPath first ahead (taken ++ entry ∷ []) → AreTaken ahead now taken → trail ≡ taken ++ entry ∷ []
    → ((get_or now entry 0 ≡ first) × found) ⊎ ((get_or now entry 0 ≡ no_entry) × (found → ⊥)) → IsCycleWalked first ahead (set now entry no_entry) trail found
walk-ends first ahead now taken trail entry found links least path before is_trail ends =
    let told = link-taken first ahead now taken entry path before in
    let long = length_push taken entry in
    let whole : IsWhole first ahead (taken ++ entry ∷ []) entry (get_or now entry 0) = record {
      is_path = path;
      place = length taken;
      is_last = omega (arith, long);
      there = push-new taken entry;
      leads = told.0;
      ends = elim ends [ inl back ↦ inl back.0 | inr none ↦ inr none.0 ];
    } in
    subst (λ l. IsCycleWalked first ahead (set now entry no_entry) l found) (sym is_trail)
    (walked first ahead (set now entry no_entry) (taken ++ entry ∷ []) entry (get_or now entry 0) found links least whole told.1
    (λ is. elim ends [ inl back ↦ back.0 | inr none ↦ absurd (none.1 is) ])
    (λ is. elim ends [ inl back ↦ back.1 | inr none ↦ absurd (not_none ahead first links (first-inside first ahead (taken ++ entry ∷ []) path) (sym is ∙ none.0)) ]))

-- from an entry without a link there is no walk
pub walked-none : (first : ℕ) (ahead trail : List ℕ) (found : Type 0) → first < length ahead → get_or ahead first 0 ≡ no_entry → (found → ⊥) → IsCycleWalked first ahead ahead trail found
walked-none first ahead trail found less none never = record {
  is_cut = record { count = refl; kept = λ i j leads. leads };
  gone = λ j leads. leads.1 (same_at ahead first j no_entry leads.0 (slice_get-get_or ahead first 0 less ∙ ap Some none));
  is_cycle = λ is. absurd (never is);
  others = λ entries cycle. inr cycle;
}
