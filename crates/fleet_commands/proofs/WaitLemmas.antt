-- Who waits for whom is what the list of waits tells.
use Rattle.std.proofs.Common.{◌≡◌, ◌∙◌, ℕ, ◌+◌, ◌/◌, ◌%◌, ◌<◌, ◌≤◌, List, length, Some, None, Ok, Err, inl, inr, refl, ap, sym, subst, arith, nat_lt}
use Rattle.std.specs.Prelude.{◌==◌, if◌then◌else◌, Option, slice_get, slice_index_or}
use Rattle.std.proofs.lemmas.Bool.{cases_Bool, cases_lt, cond-true, cond-false, ltb-true}
use Rattle.std.proofs.lemmas.List.{get_or_past}
use Rattle.std.proofs.lemmas.List.FromFn.{get_or-map-range_with_len, length-map-range_with_len}
use Rattle.std.proofs.lemmas.Option.{none-some, same_Some, slice_get_past, slice_get_within}
use Rattle.model.specs.Dependency.{Need, need}
use Rattle.model.specs.Timetable.{Track, Timetable, moves, step_of, track_of}
use Rattle.fleet_commands.specs.FoundTapes.{Found, finished_by}
use Rattle.fleet_commands.specs.Standing.{kept_at, kept_by_need, kept_in, kept_now, waited_for, waits_of}
use Rattle.fleet_commands.specs.Waiting.{WaitsThrough, directly, through}
use Rattle.fleet_commands.specs.declared.keeping.Keeping.TheVariants.{OwnMove, OwnEnd, Nothing, Other}
use Rattle.fleet_commands.proofs.KeptLemmas.{LeadsTo, straight, further}

module _ (table : Timetable) (found : List Found) where
  abbrev pub Waits : List (Option ℕ)
  Waits = waits_of table found

  abbrev waited : ℕ → Option ℕ
  waited i = waited_for (kept_now table found i)

  pub count-waits : length Waits ≡ length table.tracks
  count-waits = length-map-range_with_len waited 0 (length table.tracks)

  -- nobody waits who is no agent
  nobody-waits : (i : ℕ) → length table.tracks ≤ i → waited i ≡ None
  nobody-waits i past = ap (λ o. waited_for (kept_in table found i o (slice_get found i))) (slice_get_past table.tracks i past)

  pub waits-is : (i : ℕ) → slice_index_or Waits i None ≡ waited i
  waits-is i = elim (cases_lt i (length table.tracks)) [
    | inl less ↦ get_or-map-range_with_len waited 0 (length table.tracks) i i None less (omega arith)
    | inr past ↦ get_or_past Waits i None (omega (arith, past, count-waits)) ∙ sym (nobody-waits i past)
  ]

  pub leads-waits : (j i : ℕ) → LeadsTo Waits j i → WaitsThrough table found j i
  leads-waits j _ (straight i is) = directly i (sym (waits-is i) ∙ is)
  leads-waits j _ (further i k is rest) = through i k (sym (waits-is i) ∙ is) (leads-waits j k rest)

  pub waits-leads : (j i : ℕ) → WaitsThrough table found j i → LeadsTo Waits j i
  waits-leads j _ (directly i is) = straight i (waits-is i ∙ is)
  waits-leads j _ (through i k is rest) = further i k (waits-is i ∙ is) (waits-leads j k rest)

  -- who waits is an agent
  agent-if : (i k : ℕ) → waited i ≡ Some k → i < length Waits
  agent-if i k is = elim (cases_lt i (length table.tracks)) [
    | inl less ↦ (let count = count-waits in omega (arith, less, count))
    | inr past ↦ absurd (none-some k (sym (nobody-waits i past) ∙ is))
  ]

  pub waits-agent : (j i : ℕ) → WaitsThrough table found j i → i < length Waits
  waits-agent j _ (directly i is) = agent-if i j is
  waits-agent j _ (through i k is rest) = agent-if i k is

  module _ (planned : (i k : ℕ) (track : Track) (asked : Need) → track_of table i ≡ Some track → k < moves track → need table i track k ≡ Some asked
      → (to : Track) × (last : ℕ) × (track_of table asked.agent ≡ Some to) × (asked.count ≡ last + 1) × (last < moves to) × (step_of to last ≤ step_of track k)) where
    by-need : (k : ℕ) (o : Option Need) → waited_for (kept_by_need (finished_by found) o) ≡ Some k → ((n : Need) → o ≡ Some n → n.agent < length table.tracks) → k < length table.tracks
    by-need k None is there = absurd (none-some k is)
    by-need k (Some n) is there = elim (cases_Bool (nat_lt (finished_by found n.agent) n.count)) [
      | inl less ↦
          (let named = same_Some n.agent k (sym (ap waited_for (cond-true (nat_lt (finished_by found n.agent) n.count) (Other n.agent n.count) Nothing less)) ∙ is) in
          subst (λ x. x < length table.tracks) named (there n refl))
      | inr enough ↦ absurd (none-some k (sym (ap waited_for (cond-false (nat_lt (finished_by found n.agent) n.count) (Other n.agent n.count) Nothing enough)) ∙ is))
    ]

    by-records : (i k : ℕ) (track : Track) (records : ℕ) → track_of table i ≡ Some track → waited_for (kept_at table (finished_by found) i track records) ≡ Some k → k < length table.tracks
    by-records i k track records there is =
        let asked = need table i track (records / 2) in
        let standing = if nat_lt (records / 2) (moves track) then kept_by_need (finished_by found) asked else OwnEnd in
        elim (cases_Bool (records % 2 == 1)) [
          | inl moving ↦ absurd (none-some k (sym (ap waited_for (cond-true (records % 2 == 1) OwnMove standing moving)) ∙ is))
          | inr still ↦
              (let here = sym (ap waited_for (cond-false (records % 2 == 1) OwnMove standing still)) ∙ is in
              elim (cases_Bool (nat_lt (records / 2) (moves track))) [
                | inl less ↦
                    by-need k asked (sym (ap waited_for (cond-true (nat_lt (records / 2) (moves track)) (kept_by_need (finished_by found) asked) OwnEnd less)) ∙ here)
                    (λ n asks. (let to = planned i (records / 2) track n there (ltb-true (records / 2) (moves track) less) asks in slice_get_within table.tracks n.agent to.0 to.2))
                | inr all ↦ absurd (none-some k (sym (ap waited_for (cond-false (nat_lt (records / 2) (moves track)) (kept_by_need (finished_by found) asked) OwnEnd all)) ∙ here))
              ])
        ]

    -- and so is the one that it waits for
    pub waited-within : (i k : ℕ) → slice_index_or Waits i None ≡ Some k → k < length Waits
    waited-within i k is = (let less = by (track_of table i) (slice_get found i) refl (sym (waits-is i) ∙ is) in let count = count-waits in omega (arith, less, count))
      where
        by : (t : Option Track) (f : Option Found) → track_of table i ≡ t → waited_for (kept_in table found i t f) ≡ Some k → k < length table.tracks
        by None f there is = absurd (none-some k is)
        by (Some track) None there is = absurd (none-some k is)
        by (Some track) (Some (Err fault)) there is = absurd (none-some k is)
        by (Some track) (Some (Ok records)) there is = by-records i k track records there is
