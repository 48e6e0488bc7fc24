-- What was told to be free has its need met, and that stays so.
use Rattle.std.proofs.Common.{◌≡◌, ℕ, ◌+◌, ◌-◌, ◌≤◌, ◌<◌, Bool, true, false, List, [], ◌∷◌, ◌++◌, max, Some, inl, inr, refl, sym, ap, subst, ◌∙◌, arith}
use Rattle.std.specs.Prelude.{◌==◌, ◌&&◌, ◌||◌, ◌⊎◌}
use Rattle.std.proofs.lemmas.Bool.{cases_eq, cases_lt, eq-eqb, ne_eqb}
use Rattle.std.proofs.lemmas.Option.{same_Some}
use Rattle.model.specs.Dependency.{need, IsMet}
use Rattle.model.specs.Safety.{HaveNeedsMet}
use Rattle.model.specs.Timetable.{Track, Timetable, track_of}
use Rattle.agent.specs.Counters.{known_in}
use Rattle.agent.specs.States.{State, finished_moves, begun_moves}
use Rattle.agent.specs.Tellings.{Telling, BytesTell}
use Rattle.fleet.specs.Ahead.{is_stop, told_free, free_behind, free_after, most_free, reach, has_stopped, AreLooksWithin, HaveStopped}
use Rattle.fleet.specs.Deeds.{Deed, opens, starts, finishes, says, tells, hears, holds, looks, ends, stops, ends_starting, ends_finishing, Does}
use Rattle.fleet.specs.Fleets.{Logged, Log, deeds_of, spoken, IsHonest, IsTellable}
use Rattle.fleet.specs.OwnPlans.{DoneBy, Doings, logged, log_of, IsFleetBy, SharesMoves}
use Rattle.fleet.proofs.FleetLemmas.{own-deeds, other-deeds, IsOf, last-deed}
use Rattle.fleet.proofs.KnowsLemmas.{free-met, need-there, met-more, Finished, grown-by, Knows, fleet-knows}
use Rattle.fleet.proofs.OwnPlanLemmas.{doings-know}
use Rattle.fleet.proofs.SharedMoves.{needs-same}

-- ---- tests

and_false : (b : Bool) → (b && false) ≡ false
and_false true = refl
and_false false = refl

or_false_parts : (b c : Bool) → (b || c) ≡ false → (b ≡ false) × (c ≡ false)
or_false_parts true c e = absurd cc
or_false_parts false c e = (refl, e)

-- ---- one deed more

-- by the deed, and by what everybody had finished before it, each move that it tells to be free has its need met
module _ (table by : Timetable) (i : ℕ) (track other : Track) (there : track_of table i ≡ Some other) (all : List (List ℕ)) (mid states : ℕ → State) (knows : Knows table all mid)
    (grown : (j : ℕ) → finished_moves (mid j) ≤ finished_moves (states j)) (k : ℕ) where
  told-met : (deed : Deed) → Does by i track (mid i) deed (states i) → k < told_free deed → need table i other k ≡ need by i track k → IsMet (Finished states) (need table i other k)
  told-met (looks begun most count) does less same = elim (cases_lt k (begun_moves (mid i))) [
    | inl early ↦ met-more (Finished mid) (Finished states) (need table i other k) (λ n asks. grown n.agent) (knows.begun i other k there early)
    | inr late ↦
        let begun_is = does.0 in
        let n : ℕ = k - begun_moves (mid i) in
        let sum : begun_moves (mid i) + n ≡ k = omega (arith, late) in
        let free = does.1.starts n (omega (arith, less, late, begun_is)) in
        let met = subst (IsMet (known_in (mid i).heard)) (sym same)
        (subst (λ m. IsMet (known_in (mid i).heard) (need by i track m)) sum (free-met by i track (mid i) n free)) in
        met-more (known_in (mid i).heard) (Finished states) (need table i other k)
        (λ asked asks.
        let to = need-there table i k other asked asks in
        let most_known = knows.known i asked.agent other to.0 there to.1 in
        let more = grown asked.agent in
        omega (arith, most_known, more))
        met
  ]
  told-met (opens what count) does less same = absurd (omega (arith, less))
  told-met (starts answer) does less same = absurd (omega (arith, less))
  told-met (finishes answer) does less same = absurd (omega (arith, less))
  told-met (says answer) does less same = absurd (omega (arith, less))
  told-met (tells answer) does less same = absurd (omega (arith, less))
  told-met (hears bytes answer) does less same = absurd (omega (arith, less))
  told-met (holds what count) does less same = absurd (omega (arith, less))
  told-met ends does less same = absurd (omega (arith, less))
  told-met stops does less same = absurd (omega (arith, less))
  told-met ends_starting does less same = absurd (omega (arith, less))
  told-met ends_finishing does less same = absurd (omega (arith, less))

most-behind : (free : ℕ) (deeds : List Deed) (deed : Deed) → free_after free (deeds ++ deed ∷ []) ≡ free_behind (free_after free deeds) deed
most-behind free [] deed = refl
most-behind free (first ∷ deeds) deed = most-behind (free_behind free first) deeds deed

either : (a b k : ℕ) → k < max a b → (k < a) ⊎ (k < b)
either a b k less = elim (cases_lt k a) [ inl below ↦ inl below | inr past ↦ inr (omega (arith, less, past)) ]

-- what was told to be free was so by this deed or by one before
behind-cases : (free k : ℕ) (deed : Deed) → k < free_behind free deed → (k < free) ⊎ (k < told_free deed)
behind-cases free k (opens what count) less = either free 0 k less
behind-cases free k (starts answer) less = either free 0 k less
behind-cases free k (finishes answer) less = either free 0 k less
behind-cases free k (says answer) less = either free 0 k less
behind-cases free k (tells answer) less = either free 0 k less
behind-cases free k (hears bytes answer) less = either free 0 k less
behind-cases free k (holds what count) less = either free 0 k less
behind-cases free k (looks begun most count) less = either free (begun + count) k less
behind-cases free k ends less = either free 0 k less
behind-cases free k stops less = absurd (omega (arith, less))
behind-cases free k ends_starting less = either free 0 k less
behind-cases free k ends_finishing less = either free 0 k less

-- each move that was ever told to be free has its need met
abbrev AllMet : Timetable → Log → (ℕ → State) → Type 0
AllMet table log states = (i k : ℕ) (track : Track) → track_of table i ≡ Some track → k < most_free (deeds_of log i) → IsMet (Finished states) (need table i track k)

-- one deed more, of which it is known
all-more : (table : Timetable) (now : Logged) (log : Log) (mid states : ℕ → State) → ((j : ℕ) → finished_moves (mid j) ≤ finished_moves (states j)) → AllMet table log mid
    → ((k : ℕ) (track : Track) → track_of table now.agent ≡ Some track → k < told_free now.deed → IsMet (Finished states) (need table now.agent track k)) → AllMet table (now ∷ log) states
all-more table now log mid states grown before last i k track there less = elim (cases_eq now.agent i) [
  | inl own ↦
      let most = ap most_free (own-deeds now log i own) ∙ most-behind 0 (deeds_of log i) now.deed in
      elim (behind-cases (most_free (deeds_of log i)) k now.deed (omega (arith, less, most))) [
        | inl early ↦ still early
        | inr late ↦ subst (λ j. IsMet (Finished states) (need table j track k)) own (last k track (ap (track_of table) own ∙ there) late)
      ]
  | inr apart ↦ (let same = ap most_free (other-deeds now log i apart) in still (omega (arith, less, same)))
] where
  still : k < most_free (deeds_of log i) → IsMet (Finished states) (need table i track k)
  still early = met-more (Finished mid) (Finished states) (need table i track k) (λ n asks. grown n.agent) (before i k track there early)

-- ---- what is begun and what is free

needs-met : (table : Timetable) (log : Log) (all : List (List ℕ)) (states : ℕ → State) → Knows table all states → AllMet table log states → HaveNeedsMet table (reach log states) (Finished states)
needs-met table log said states knows all = record {
  order = λ i track there. omega arith;
  met = λ i track k there less. elim (cases_lt k (begun_moves (states i))) [
    | inl early ↦ knows.begun i track k there early
    | inr late ↦ all i k track there (omega (arith, less, late))
  ];
}

module _ (table : Timetable) (tellable : IsTellable table) (one : (bytes : List ℕ) (t u : Telling) → BytesTell bytes t → BytesTell bytes u → t ≡ u) where
  all-met : (log : Log) (states : ℕ → State) → IsOf IsHonest table log states → AllMet table log states
  all-met [] states fleet = λ i k track there less. absurd (omega (arith, less))
  all-met (now ∷ log) states fleet =
      let last = last-deed IsHonest table now log states fleet in
      let grown = grown-by table now.agent last.track last.before states now.deed last.does last.others in
      all-more table now log last.before states grown (all-met log last.before last.fleet)
      (λ k track there less. subst (λ x. IsMet (Finished states) (need table now.agent x k)) (same_Some last.track track (sym last.is_track ∙ there))
      (told-met table table now.agent last.track last.track last.is_track (spoken log) last.before states (fleet-knows table tellable one log last.before last.fleet) grown k
      now.deed last.does less refl))

  pub fleet-met : (log : Log) (states : ℕ → State) → IsOf IsHonest table log states → HaveNeedsMet table (reach log states) (Finished states)
  fleet-met log states fleet = needs-met table log (spoken log) states (fleet-knows table tellable one log states fleet) (all-met log states fleet)

  -- ---- by plans of their own

  -- of whoever did not stop behind these
  abbrev AllMetBy : Doings → Doings → (ℕ → State) → Type 0
  AllMetBy since doings states = (i k : ℕ) (track : Track) → has_stopped since i ≡ false → track_of table i ≡ Some track → k < most_free (deeds_of (log_of doings) i)
      → IsMet (Finished states) (need table i track k)

  -- one doing more, behind those before
  met-behind : (since : Doings) (now : DoneBy) (doings : Doings) (mid states : ℕ → State) → ((j : ℕ) → finished_moves (mid j) ≤ finished_moves (states j)) → AllMetBy (now ∷ since) doings mid
      → ((k : ℕ) (track : Track) → has_stopped since now.agent ≡ false → track_of table now.agent ≡ Some track → k < told_free now.deed
      → IsMet (Finished states) (need table now.agent track k)) → AllMetBy since (now ∷ doings) states
  met-behind since now doings mid states grown before last i k track runs_on there less = elim (cases_eq now.agent i) [
    | inl own ↦
        let most = ap most_free (own-deeds (logged now) (log_of doings) i own) ∙ most-behind 0 (deeds_of (log_of doings) i) now.deed in
        by_stop own (is_stop now.deed) refl (omega (arith, less, most))
    | inr apart ↦ (
        let same = ap most_free (other-deeds (logged now) (log_of doings) i apart) in
        still (ap (λ b. (b && is_stop now.deed) || has_stopped since i) (ne_eqb now.agent i apart) ∙ runs_on) (omega (arith, less, same))
        )
  ] where
    still : has_stopped (now ∷ since) i ≡ false → k < most_free (deeds_of (log_of doings) i) → IsMet (Finished states) (need table i track k)
    still on early = met-more (Finished mid) (Finished states) (need table i track k) (λ n asks. grown n.agent) (before i k track on there early)

    none-stopped : (deed : Deed) → is_stop deed ≡ true → k < free_behind (most_free (deeds_of (log_of doings) i)) deed → IsMet (Finished states) (need table i track k)
    none-stopped stops is here = absurd (omega (arith, here))
    none-stopped (opens what count) is here = absurd cc
    none-stopped (starts answer) is here = absurd cc
    none-stopped (finishes answer) is here = absurd cc
    none-stopped (says answer) is here = absurd cc
    none-stopped (tells answer) is here = absurd cc
    none-stopped (hears bytes answer) is here = absurd cc
    none-stopped (holds what count) is here = absurd cc
    none-stopped (looks begun most count) is here = absurd cc
    none-stopped ends is here = absurd cc
    none-stopped ends_starting is here = absurd cc
    none-stopped ends_finishing is here = absurd cc

    by_stop : now.agent ≡ i → (b : Bool) → is_stop now.deed ≡ b → k < free_behind (most_free (deeds_of (log_of doings) i)) now.deed → IsMet (Finished states) (need table i track k)
    by_stop own true is here = none-stopped now.deed is here
    by_stop own false is here = elim (behind-cases (most_free (deeds_of (log_of doings) i)) k now.deed here) [
      | inl early ↦ still (ap (λ b. ((now.agent == i) && b) || has_stopped since i) is ∙ ap (λ b. b || has_stopped since i) (and_false (now.agent == i)) ∙ runs_on) early
      | inr late ↦ subst (λ j. IsMet (Finished states) (need table j track k)) own
          (last k track (ap (has_stopped since) own ∙ runs_on) (ap (track_of table) own ∙ there) late)
    ]

  all-met-by : (since doings : Doings) (states : ℕ → State) → IsFleetBy (SharesMoves table) doings states → AreLooksWithin table since doings → AllMetBy since doings states
  all-met-by since [] states led within = λ i k track runs_on there less. absurd (omega (arith, less))
  all-met-by since (now ∷ doings) states (mid, before, led) within =
      let grown = grown-by now.by now.agent led.track mid states now.deed led.does led.others in
      met-behind since now doings mid states grown (all-met-by (now ∷ since) doings mid before within.1)
      (λ k track runs_on there less. told-met table now.by now.agent led.track track there (spoken (log_of doings)) mid states (doings-know table tellable one doings mid before) grown k
      now.deed led.does less (needs-same table now.by now.agent led.track track led.is_track there k (within.0 runs_on k led.track less led.is_track)))

  pub doings-met : (doings : Doings) (states : ℕ → State) → IsFleetBy (SharesMoves table) doings states → AreLooksWithin table [] doings
      → HaveNeedsMet table (reach (log_of doings) states) (Finished states)
  doings-met doings states led within =
      needs-met table (log_of doings) (spoken (log_of doings)) states (doings-know table tellable one doings states led)
      (λ i k track there less. all-met-by [] doings states led within i k track refl there less)

-- ---- drives that stopped

-- a drive that was told of nothing since it stopped last needs no timetable for what it was told before
still-within : (last : Timetable) (since doings : Doings) → ((i : ℕ) → has_stopped since i ≡ false → most_free (deeds_of (log_of doings) i) ≡ 0) → AreLooksWithin last since doings
still-within last since [] none = tt
still-within last since (now ∷ doings) none = (
  λ runs_on k track less there. absurd (
      let most = own-most now.agent refl in
      let is_none = none now.agent runs_on in
      let own = told-most (most_free (deeds_of (log_of doings) now.agent)) now.deed in
      omega (arith, less, most, is_none, own)
      ),
  still-within last (now ∷ since) doings (λ i runs_on. before i runs_on (cases_eq now.agent i)),
) where
  own-most : (i : ℕ) → now.agent ≡ i → most_free (deeds_of (log_of (now ∷ doings)) i) ≡ free_behind (most_free (deeds_of (log_of doings) i)) now.deed
  own-most i own = ap most_free (own-deeds (logged now) (log_of doings) i own) ∙ most-behind 0 (deeds_of (log_of doings) i) now.deed

  told-most : (free : ℕ) (deed : Deed) → told_free deed ≤ free_behind free deed
  told-most free (opens what count) = omega arith
  told-most free (starts answer) = omega arith
  told-most free (finishes answer) = omega arith
  told-most free (says answer) = omega arith
  told-most free (tells answer) = omega arith
  told-most free (hears bytes answer) = omega arith
  told-most free (holds what count) = omega arith
  told-most free (looks begun most count) = omega arith
  told-most free ends = omega arith
  told-most free stops = omega arith
  told-most free ends_starting = omega arith
  told-most free ends_finishing = omega arith

  kept-most : (free : ℕ) (deed : Deed) → is_stop deed ≡ false → free ≤ free_behind free deed
  kept-most free (opens what count) is = omega arith
  kept-most free (starts answer) is = omega arith
  kept-most free (finishes answer) is = omega arith
  kept-most free (says answer) is = omega arith
  kept-most free (tells answer) is = omega arith
  kept-most free (hears bytes answer) is = omega arith
  kept-most free (holds what count) is = omega arith
  kept-most free (looks begun most count) is = omega arith
  kept-most free ends is = omega arith
  kept-most free stops is = absurd cc
  kept-most free ends_starting is = omega arith
  kept-most free ends_finishing is = omega arith

  -- whoever did not stop in this doing or since
  parts : (i : ℕ) → has_stopped (now ∷ since) i ≡ false → (((now.agent == i) && is_stop now.deed) ≡ false) × (has_stopped since i ≡ false)
  parts i on = or_false_parts ((now.agent == i) && is_stop now.deed) (has_stopped since i) on

  before : (i : ℕ) → has_stopped (now ∷ since) i ≡ false → ((now.agent ≡ i) ⊎ (now.agent ≡ i → ⊥)) → most_free (deeds_of (log_of doings) i) ≡ 0
  before i on (inr apart) = sym (ap most_free (other-deeds (logged now) (log_of doings) i apart)) ∙ none i (parts i on).1
  before i on (inl own) =
      let is_none = none i (parts i on).1 in
      let most = own-most i own in
      let no_stop : is_stop now.deed ≡ false = sym (ap (λ b. b && is_stop now.deed) (eq-eqb now.agent i own)) ∙ (parts i on).0 in
      let kept = kept-most (most_free (deeds_of (log_of doings) i)) now.deed no_stop in
      omega (arith, is_none, most, kept)

-- so such a fleet may go any other way
pub within-behind : (last : Timetable) (since later earlier : Doings) → HaveStopped (log_of earlier) → AreLooksWithin last since later → AreLooksWithin last since (later ++ earlier)
within-behind last since [] earlier stopped within = still-within last since earlier (λ i runs_on. stopped i)
within-behind last since (now ∷ later) earlier stopped within = (within.0, within-behind last (now ∷ since) later earlier stopped within.1)
