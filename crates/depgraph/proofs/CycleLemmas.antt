-- The cycles that walks find, one after another, and the turns that are made of them.
use Rattle.std.proofs.Common.{◌≡◌, ℕ, ◌+◌, ◌<◌, ◌≤◌, List, [], ◌∷◌, ◌++◌, length, get_or, map, Some, inl, inr, arith, refl, sym, ap, subst, ◌∙◌}
use Rattle.std.specs.Prelude.{◌⊎◌, slice_get}
use Rattle.std.proofs.lemmas.Bool.{cases_lt}
use Rattle.std.proofs.lemmas.List.{map_push}
use Rattle.std.proofs.lemmas.Option.{none-some, slice_get-get_or, slice_get_within}
use Rattle.model.specs.declared.visit.Rotation.{Rotation}
use Rattle.depgraph.specs.Rotations.{Turn, turns_of}
use Rattle.depgraph.specs.Code.Cycles.{LinksTo, AreLinks, IsCycle, IsCut, IsCycleWalked}
use Rattle.depgraph.proofs.RingLemmas.{push-old, push-new, push-cases, same_at, follower}
use Rattle.depgraph.proofs.WalkLemmas.{cycle-leads, cycle-cut}

-- Each cycle once, by least entry.
pub record AreCycles (ahead : List ℕ) (cycles : List (List ℕ)) : Type 0 where
  pub sound : (n : ℕ) (entries : List ℕ) → slice_get cycles n ≡ Some entries → IsCycle ahead entries
  pub whole : (entries : List ℕ) → IsCycle ahead entries → (n : ℕ) × (slice_get cycles n ≡ Some entries)
  pub rising : (n m i j : ℕ) (entries others : List ℕ) → n < m → slice_get cycles n ≡ Some entries → slice_get cycles m ≡ Some others
      → slice_get entries 0 ≡ Some i → slice_get others 0 ≡ Some j → i < j

-- The turns of the cycles whose least entry is before a place; of the others all links are there, and no entry before the place has one.
pub record AreFound (turn : List ℕ → Turn) (ahead now : List ℕ) (m : ℕ) (turns : List Turn) : Type 0 where
  pub cycles : List (List ℕ)
  pub are_turns : turns ≡ map turn cycles
  pub is_cut : IsCut ahead now
  pub linked : (i j : ℕ) → LinksTo now i j → m ≤ i
  pub sound : (n : ℕ) (entries : List ℕ) → slice_get cycles n ≡ Some entries → IsCycle ahead entries
  pub whole : (entries : List ℕ) → IsCycle ahead entries → ((n : ℕ) × (slice_get cycles n ≡ Some entries)) ⊎ IsCycle now entries
  pub rising : (n m i j : ℕ) (entries others : List ℕ) → n < m → slice_get cycles n ≡ Some entries → slice_get cycles m ≡ Some others
      → slice_get entries 0 ≡ Some i → slice_get others 0 ≡ Some j → i < j
  pub earlier : (n i : ℕ) (entries : List ℕ) → slice_get cycles n ≡ Some entries → slice_get entries 0 ≡ Some i → i < m

pub found-start : (turn : List ℕ → Turn) (ahead : List ℕ) → AreFound turn ahead ahead 0 []
found-start turn ahead = record {
  cycles = [];
  are_turns = refl;
  is_cut = record { count = refl; kept = λ i j leads. leads };
  linked = λ i j leads. omega arith;
  sound = λ n entries there. absurd (none-some entries there);
  whole = λ entries h. inr h;
  rising = λ n m i j entries others less there. absurd (none-some entries there);
  earlier = λ n i entries there. absurd (none-some entries there);
}

-- what a walk requires of the links that are left
pub cut-links : (ahead now : List ℕ) → AreLinks ahead → IsCut ahead now → AreLinks now
cut-links ahead now links cut =
    let count = cut.count in
    let few = links.few in
    record {
      few = omega (arith, few, count);
      within = λ i j leads. let inside = links.within i j (cut.kept i j leads) in omega (arith, inside, count);
      injective = λ i k j one other. links.injective i k j (cut.kept i j one) (cut.kept k j other);
    }

-- ---- after a walk

cut-cut : (ahead now next : List ℕ) → IsCut ahead now → IsCut now next → IsCut ahead next
cut-cut ahead now next one other = record { count = other.count ∙ one.count; kept = λ i j leads. one.kept i j (other.kept i j leads) }

still-linked : (turn : List ℕ → Turn) (ahead now next trail : List ℕ) (m : ℕ) (turns : List Turn) (is : Type 0) → AreFound turn ahead now m turns
    → IsCycleWalked m now next trail is → (i j : ℕ) → LinksTo next i j → m + 1 ≤ i
still-linked turn ahead now next trail m turns is found walked i j leads =
    let from = found.linked i j (walked.is_cut.kept i j leads) in
    elim (cases_lt m i) [
      | inl later ↦ omega (arith, later)
      | inr same ↦ (let one : i ≡ m = omega (arith, from, same) in absurd (walked.gone j (subst (λ n. LinksTo next n j) one leads)))
    ]

pub found-none : (turn : List ℕ → Turn) (ahead now next trail : List ℕ) (m : ℕ) (turns : List Turn) (is : Type 0) → AreFound turn ahead now m turns
    → IsCycleWalked m now next trail is → (is → ⊥) → AreFound turn ahead next (m + 1) turns
found-none turn ahead now next trail m turns is found walked not_found = record {
  cycles = found.cycles;
  are_turns = found.are_turns;
  is_cut = cut-cut ahead now next found.is_cut walked.is_cut;
  linked = still-linked turn ahead now next trail m turns is found walked;
  sound = found.sound;
  whole = λ entries h. elim (found.whole entries h) [
    | inl listed ↦ inl listed
    | inr yet ↦ elim (walked.others entries yet) [ inl own ↦ absurd (not_found own.0) | inr other ↦ inr other ]
  ];
  rising = found.rising;
  earlier = λ n i entries at_n begins. let less = found.earlier n i entries at_n begins in omega (arith, less);
}

-- the walk went round a cycle
pub walked-cycle : (turn : List ℕ → Turn) (ahead now next trail : List ℕ) (m : ℕ) (turns : List Turn) (is : Type 0) → AreLinks ahead → AreFound turn ahead now m turns
    → IsCycleWalked m now next trail is → is → IsCycle ahead trail × (slice_get trail 0 ≡ Some m)
walked-cycle turn ahead now next trail m turns is links found walked is_found =
    let own = walked.is_cycle is_found in
    (cycle-cut ahead now trail links found.is_cut own.0, own.1)

pub found-one : (turn : List ℕ → Turn) (ahead now next trail : List ℕ) (m : ℕ) (turns : List Turn) (is : Type 0) → AreLinks ahead → AreFound turn ahead now m turns
    → IsCycleWalked m now next trail is → is → AreFound turn ahead next (m + 1) (turns ++ turn trail ∷ [])
found-one turn ahead now next trail m turns is links found walked is_found = record {
  cycles = found.cycles ++ trail ∷ [];
  are_turns = ap (λ l. l ++ turn trail ∷ []) found.are_turns ∙ sym (map_push turn found.cycles trail);
  is_cut = cut-cut ahead now next found.is_cut walked.is_cut;
  linked = still-linked turn ahead now next trail m turns is found walked;
  sound = λ n entries at_n. elim (push-cases found.cycles trail entries n at_n) [
    | inl old ↦ found.sound n entries old
    | inr new ↦ subst (IsCycle ahead) new.1 own.0
  ];
  whole = λ entries h. elim (found.whole entries h) [
    | inl listed ↦ inl (listed.0, push-old found.cycles trail entries listed.0 listed.1)
    | inr yet ↦ elim (walked.others entries yet) [
      | inl same ↦ inl (length found.cycles, push-new found.cycles trail ∙ ap Some (sym same.1))
      | inr other ↦ inr other
    ]
  ];
  rising = λ n l i j entries others less at_n at_l begins other_begins. elim (push-cases found.cycles trail others l at_l) [
    | inl old ↦ found.rising n l i j entries others less (was n entries at_n (let inside = slice_get_within found.cycles l others old in omega (arith, less, inside))) old begins other_begins
    | inr new ↦ (
        let last = new.0 in
        let earlier = found.earlier n i entries (was n entries at_n (omega (arith, less, last))) begins in
        let same = same_at trail 0 j m (ap (λ (l : List ℕ). slice_get l 0) new.1 ∙ other_begins) own.1 in
        omega (arith, earlier, same)
        )
  ];
  earlier = λ n i entries at_n begins. elim (push-cases found.cycles trail entries n at_n) [
    | inl old ↦ (let less = found.earlier n i entries old begins in omega (arith, less))
    | inr new ↦ (let same = same_at trail 0 i m (ap (λ (l : List ℕ). slice_get l 0) new.1 ∙ begins) own.1 in omega (arith, same))
  ];
} where
  own : IsCycle ahead trail × (slice_get trail 0 ≡ Some m)
  own = walked-cycle turn ahead now next trail m turns is links found walked is_found

  was : (n : ℕ) (entries : List ℕ) → slice_get (found.cycles ++ trail ∷ []) n ≡ Some entries → n < length found.cycles → slice_get found.cycles n ≡ Some entries
  was n entries at_n less = elim (push-cases found.cycles trail entries n at_n) [
    | inl old ↦ old
    | inr new ↦ absurd (let past = new.0 in omega (arith, past, less))
  ]

pub turns-push : (rotations more : List Rotation) (r : Rotation) (turn : Turn) → more ≡ rotations ++ r ∷ [] → r.step ≡ turn.step → r.agents.items ≡ turn.agents
    → turns_of more ≡ turns_of rotations ++ turn ∷ []
turns-push rotations more r turn is_more is_step is_agents =
    ap turns_of is_more ∙ map_push {Y = Turn} (λ (v : Rotation). record { step = v.step; agents = v.agents.items }) rotations r
    ∙ ap {A = ℕ} {B = List Turn} (λ step. turns_of rotations ++ record { step = step; agents = r.agents.items } ∷ []) is_step
    ∙ ap {A = List ℕ} {B = List Turn} (λ agents. turns_of rotations ++ record { step = turn.step; agents = agents } ∷ []) is_agents

-- ---- after the last walk

pub found-all : (turn : List ℕ → Turn) (ahead now : List ℕ) (m : ℕ) (turns : List Turn) → AreLinks ahead → AreFound turn ahead now m turns → length ahead ≤ m
    → (cycles : List (List ℕ)) × AreCycles ahead cycles × (turns ≡ map turn cycles)
found-all turn ahead now m turns links found past = (
  found.cycles,
  record {
    sound = found.sound;
    whole = λ entries h. elim (found.whole entries h) [
      | inl listed ↦ listed
      | inr yet ↦ absurd (
          let next = follower entries 0 yet.some in
          let first = slice_get-get_or entries 0 0 yet.some in
          let leads = cycle-leads now entries 0 (get_or entries 0 0) next.0 (cut-links ahead now links found.is_cut) yet first next.1 in
          let from = found.linked (get_or entries 0 0) next.0 leads in
          let inside = slice_get_within now (get_or entries 0 0) next.0 leads.0 in
          let count = found.is_cut.count in
          omega (arith, from, inside, past, count)
          )
    ];
    rising = found.rising;
  },
  found.are_turns,
)
