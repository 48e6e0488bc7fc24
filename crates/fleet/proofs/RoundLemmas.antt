-- Every round brings a fleet on, where there is no rotation.
use Rattle.std.proofs.Common.{◌≡◌, ℕ, zero, suc, ◌+◌, ◌*◌, ◌/◌, ◌%◌, ◌<◌, ◌≤◌, Bool, true, false}
use Rattle.std.proofs.Common.{List, [], ◌∷◌, ◌++◌, length, nat_lt, get_or, Some, None, Result, Err, inl, inr, refl, sym}
use Rattle.std.proofs.Common.{ap, subst, ◌∙◌, arith}
use Rattle.std.specs.Prelude.{◌==◌, ◌⊎◌, Option, MatchOption, if◌then◌else◌, slice_get, sum_by}
use Rattle.std.specs.List.{AllByRecursion}
use Rattle.std.proofs.lemmas.Bool.{cases_Bool, cond-true, cond-false, lt-ltb, ltb-true, ltb-false, le-ltb, ne_eqb, false≢true}
use Rattle.std.proofs.lemmas.List.Sums.{sum_by-cons}
use Rattle.std.proofs.lemmas.Option.{same_Some, none-some, slice_get-get_or, slice_get_within}
use Rattle.grid.specs.declared.cell.Cell.{Cell}
use Rattle.model.specs.Dependency.{Need, need, IsMet}
use Rattle.model.specs.Timetable.{Track, Timetable, moves, track_of, IsConflictFree, IsSwapFree}
use Rattle.model.specs.Laws.Rounds.{first_that}
use Rattle.model.specs.Laws.Stuck.{HasRotation, stuck}
use Rattle.agent.specs.Counters.{known_in}
use Rattle.agent.specs.States.{State, is_on_the_way, finished_moves, next_cell, waits_for, start_refusal, finish_refusal, Answers}
use Rattle.agent.specs.declared.refusal.Refusal.{Refusal}
use Rattle.agent.specs.declared.refusal.Refusal.TheVariants.{Broken, AlreadyMoving, AtEnd, Waits, NotMoving, StoreFailed}
use Rattle.fleet.specs.Deeds.{Deed, opens, starts, finishes, says, tells, hears, holds, looks, ends, stops, ends_starting, ends_finishing, Does, DoesAll}
use Rattle.fleet.specs.Fleets.{Log, deeds_of, fresh, IsFleet}
use Rattle.fleet.specs.Laws.Leading.{leads-apart}
use Rattle.fleet.specs.Rounds.{is_calm, AreLedFrom, IsRound, HasRounds, HaveAllArrived}
use Rattle.fleet.proofs.KnowsLemmas.{Finished}
use Rattle.fleet.proofs.LeadingOn.{heard-broken, records-grow}
use Rattle.fleet.proofs.WithinLemmas.{stays}

-- ---- deeds one behind the other

all-grow : (table : Timetable) (i : ℕ) (track : Track) (old new : State) (deeds : List Deed) → DoesAll table i track old deeds new → old.records ≤ new.records
all-grow table i track old new [] leads = (let e = ap (λ s. s.records) leads in omega (arith, e))
all-grow table i track old new (deed ∷ deeds) leads =
    let first = records-grow table i track old leads.0 deed leads.1 in
    let rest = all-grow table i track leads.0 new deeds leads.2 in
    omega (arith, first, rest)

all-within : (table : Timetable) (i : ℕ) (track : Track) (old new : State) (deeds : List Deed) → old.records ≤ 2 * moves track → DoesAll table i track old deeds new
    → new.records ≤ 2 * moves track
all-within table i track old new [] within leads = (let e = ap (λ s. s.records) leads in omega (arith, e, within))
all-within table i track old new (deed ∷ deeds) within leads =
    all-within table i track leads.0 new deeds (stays table i track old within deed leads.0 leads.1) leads.2

all-apart : (P : Deed → Type 0) (xs ys : List Deed) → AllByRecursion P (xs ++ ys) → AllByRecursion P xs × AllByRecursion P ys
all-apart P [] ys all = (tt, all)
all-apart P (x ∷ xs) ys all = (let rest = all-apart P xs ys all.1 in ((all.0, rest.0), rest.1))

-- ---- calm

abbrev Calm : Deed → Type 0
Calm deed = is_calm deed ≡ true

-- a write that is tried and doesn't fail stores its record
stores-or : (o : Option Refusal) (old new : State) (c : Cell) (answer : Result Cell Refusal) → Answers o old new c answer → (answer ≡ Err StoreFailed → ⊥)
    → (new ≡ old) ⊎ ((o ≡ None) × (new.records ≡ old.records + 1) × (new.broken ≡ old.broken))
stores-or (Some why) old new c answer refuses fine = inl refuses.1
stores-or None old new c answer stores fine = elim stores.outcome [
  | inl good ↦ inr (refl, good.1, good.2)
  | inr bad ↦ absurd (fine bad.0)
]

calm-start : (answer : Result Cell Refusal) → Calm (starts answer) → answer ≡ Err StoreFailed → ⊥
calm-start answer calm failed = false≢true (sym (ap (λ a. is_calm (starts a)) failed) ∙ calm)

calm-finish : (answer : Result Cell Refusal) → Calm (finishes answer) → answer ≡ Err StoreFailed → ⊥
calm-finish answer calm failed = false≢true (sym (ap (λ a. is_calm (finishes a)) failed) ∙ calm)

broken-same : (old new : State) → new ≡ old → old.broken ≡ false → new.broken ≡ false
broken-same old new same whole = ap (λ s. s.broken) same ∙ whole

written-whole : (o : Option Refusal) (old new : State) (c : Cell) (answer : Result Cell Refusal) → Answers o old new c answer → (answer ≡ Err StoreFailed → ⊥) → old.broken ≡ false
    → new.broken ≡ false
written-whole o old new c answer gives fine whole = elim (stores-or o old new c answer gives fine) [
  | inl same ↦ broken-same old new same whole
  | inr stored ↦ stored.2 ∙ whole
]

calm-whole : (table : Timetable) (i : ℕ) (track : Track) (old new : State) (deed : Deed) → Calm deed → Does table i track old deed new → old.broken ≡ false → new.broken ≡ false
calm-whole table i track old new (opens what count) calm does whole = absurd (false≢true calm)
calm-whole table i track old new (starts answer) calm does whole = written-whole _ old new _ answer does (calm-start answer calm) whole
calm-whole table i track old new (finishes answer) calm does whole = written-whole _ old new _ answer does (calm-finish answer calm) whole
calm-whole table i track old new (says answer) calm does whole = broken-same old new does.1 whole
calm-whole table i track old new (tells answer) calm does whole = broken-same old new does.1 whole
calm-whole table i track old new (hears bytes answer) calm does whole = heard-broken table old new bytes answer does ∙ whole
calm-whole table i track old new (holds what count) calm does whole = broken-same old new does.2 whole
calm-whole table i track old new (looks begun most count) calm does whole = broken-same old new does.2 whole
calm-whole table i track old new ends calm does whole = broken-same old new does whole
calm-whole table i track old new stops calm does whole = broken-same old new does whole
calm-whole table i track old new ends_starting calm does whole = absurd (false≢true calm)
calm-whole table i track old new ends_finishing calm does whole = absurd (false≢true calm)

all-whole : (table : Timetable) (i : ℕ) (track : Track) (old new : State) (deeds : List Deed) → AllByRecursion Calm deeds → DoesAll table i track old deeds new → old.broken ≡ false
    → new.broken ≡ false
all-whole table i track old new [] calm leads whole = broken-same old new leads whole
all-whole table i track old new (deed ∷ deeds) calm leads whole =
    all-whole table i track leads.0 new deeds calm.1 leads.2 (calm-whole table i track old leads.0 deed calm.0 leads.1 whole)

-- ---- in a round that stores nothing of an agent, it can't go on

-- The deed of an agent at which it would have gone on, where nothing is stored.
record AtDeed (table : Timetable) (i : ℕ) (track : Track) (old : State) (earlier : List Deed) (deed : Deed) : Type 0 where
  before : State
  leads : DoesAll table i track old earlier before
  after : State
  does : Does table i track before deed after
  whole : before.broken ≡ false
  calm : Calm deed
  records : before.records ≡ old.records
  stays_so : after.records ≡ old.records

at-deed : (table : Timetable) (i : ℕ) (track : Track) (old new : State) (deeds earlier later : List Deed) (deed : Deed) → deeds ≡ earlier ++ deed ∷ later → DoesAll table i track old deeds new
    → AllByRecursion Calm deeds → old.broken ≡ false → new.records ≡ old.records → AtDeed table i track old earlier deed
at-deed table i track old new deeds earlier later deed is leads calm whole same =
    let parts = leads-apart table i track old new earlier (deed ∷ later) (subst (λ l. DoesAll table i track old l new) is leads) in
    let calms = all-apart Calm earlier (deed ∷ later) (subst (AllByRecursion Calm) is calm) in
    let rest = parts.2 in
    let first = all-grow table i track old parts.0 earlier parts.1 in
    let second = records-grow table i track parts.0 rest.0 deed rest.1 in
    let third = all-grow table i track rest.0 new later rest.2 in
    record {
      before = parts.0;
      leads = parts.1;
      after = rest.0;
      does = rest.1;
      whole = all-whole table i track old parts.0 earlier calms.0 parts.1 whole;
      calm = calms.1.0;
      records = omega (arith, first, second, third, same);
      stays_so = omega (arith, first, second, third, same);
    }

-- where nothing refuses a write and it doesn't fail, something is stored
goes-on-if : (first after : State) (c : Cell) (answer : Result Cell Refusal) → Answers None first after c answer → (answer ≡ Err StoreFailed → ⊥) → after.records ≡ first.records → ⊥
goes-on-if first after c answer stores fine still = elim stores.outcome [
  | inl good ↦ (let more = good.1 in omega (arith, more, still))
  | inr bad ↦ fine bad.0
]

module _ (table : Timetable) (old new : ℕ → State) (during : Log) (round : IsRound table old during new) (i : ℕ) (track : Track) (there : track_of table i ≡ Some track)
    (same : (new i).records ≡ (old i).records) where
  not-moving : is_on_the_way (old i) ≡ true → ⊥
  not-moving way =
      let asked = round.finishes i track there way in
      let at = at-deed table i track (old i) (new i) (deeds_of during i) asked.earlier asked.later (finishes asked.answer) asked.when (round.led i track there) (round.calm i)
      (round.whole i track there) same in
      let still_way : is_on_the_way at.before ≡ true = ap (λ n. n % 2 == 1) at.records ∙ way in
      let none : finish_refusal at.before ≡ None =
      cond-false at.before.broken (Some Broken) (if is_on_the_way at.before then None else Some NotMoving) at.whole ∙ ap (λ b. if b then None else Some NotMoving) still_way in
      let c = next_cell track at.before in
      goes-on-if at.before at.after c asked.answer (subst (λ o. Answers o at.before at.after c asked.answer) none at.does) (calm-finish asked.answer at.calm)
      (at.stays_so ∙ sym at.records)

  none-waits : (s : State) (o : Option Need) → MatchOption o (Unit {0}) (λ n. finished_moves (old n.agent) ≤ known_in s.heard n.agent) → IsMet (Finished old) o → waits_for s.heard o ≡ None
  none-waits s None heard met = refl
  none-waits s (Some n) heard met =
      cond-false (nat_lt (known_in s.heard n.agent) n.count) (Some (Waits n.agent n.count)) None (le-ltb (known_in s.heard n.agent) n.count (omega (arith, heard, met)))

  not-ready : is_on_the_way (old i) ≡ false → finished_moves (old i) < moves track → IsMet (Finished old) (need table i track (finished_moves (old i))) → ⊥
  not-ready stands left met =
      let tried = round.starts i track there stands left in
      let at = at-deed table i track (old i) (new i) (deeds_of during i) tried.earlier tried.later (starts tried.answer) tried.when (round.led i track there) (round.calm i)
      (round.whole i track there) same in
      let r = at.records in
      let finished : finished_moves at.before ≡ finished_moves (old i) = ap (λ n. n / 2) r in
      let still_stands : is_on_the_way at.before ≡ false = ap (λ n. n % 2 == 1) r ∙ stands in
      let free = none-waits at.before (need table i track (finished_moves (old i))) (tried.has_heard at.before at.leads) met in
      let none : start_refusal table i track at.before ≡ None =
      cond-false at.before.broken (Some Broken) _ at.whole
      ∙ cond-false (is_on_the_way at.before) (Some AlreadyMoving) _ still_stands
      ∙ cond-false (finished_moves at.before == moves track) (Some AtEnd) _ (ne_eqb (finished_moves at.before) (moves track) (λ e. omega (arith, e, left, finished)))
      ∙ ap (λ k. waits_for at.before.heard (need table i track k)) finished ∙ free in
      let c = next_cell track at.before in
      goes-on-if at.before at.after c tried.answer (subst (λ o. Answers o at.before at.after c tried.answer) none at.does) (calm-start tried.answer at.calm)
      (at.stays_so ∙ sym r)

-- ---- a round

abbrev moves_of : Option Track → ℕ
moves_of None = 0
moves_of (Some track) = moves track

abbrev no_track : Track
no_track = record { start = record { x = 0; y = 0 }; later = [] }

-- something more is stored of some agent's moves
abbrev StoresMore : Timetable → (ℕ → State) → (ℕ → State) → Type 0
StoresMore table old new = (i : ℕ) × (i < length table.tracks) × ((old i).records < (new i).records)

abbrev AllWithin : Timetable → (ℕ → State) → Type 0
AllWithin table states = (i : ℕ) (track : Track) → track_of table i ≡ Some track → (states i).records ≤ 2 * moves track

-- whoever has finished all moves stands
arrived-if : (records most : ℕ) → records ≤ 2 * most → most ≤ records / 2 → records ≡ 2 * most
arrived-if records most within all = grind (arith, within, all)

module _ (table : Timetable) (free : IsConflictFree table) (unswapped : IsSwapFree table) (no_rotation : HasRotation table → ⊥) where
  pub comes-on : (old new : ℕ → State) (during : Log) → AllWithin table old → IsRound table old during new → HaveAllArrived table old ⊎ StoresMore table old new
  comes-on old new during within round = elim (first_that (length table.tracks) (λ k. nat_lt (old k).records (new k).records)) [
    | inl found ↦ inr (found.0, found.1, ltb-true (old found.0).records (new found.0).records found.2)
    | inr none ↦
        let same : (k : ℕ) (track : Track) → track_of table k ≡ Some track → (new k).records ≡ (old k).records
        = λ k track there. (let most = ltb-false (old k).records (new k).records (none k (slice_get_within table.tracks k track there)) in
        let more = all-grow table k track (old k) (new k) (deeds_of during k) (round.led k track there) in omega (arith, most, more)) in
        elim (first_that (length table.tracks) (λ k. nat_lt (finished_moves (old k)) (moves_of (track_of table k)))) [
          | inr all ↦ inl (λ i track there.
              arrived-if (old i).records (moves track) (within i track there)
              (ltb-false (finished_moves (old i)) (moves track)
              (subst (λ o. nat_lt (finished_moves (old i)) (moves_of o) ≡ false) there (all i (slice_get_within table.tracks i track there)))))
          | inl left ↦
              let there = slice_get-get_or table.tracks left.0 no_track left.1 in
              let fewer = ltb-true (finished_moves (old left.0)) _ (subst (λ o. nat_lt (finished_moves (old left.0)) (moves_of o) ≡ true) there left.2) in
              absurd (elim (stuck table (Finished old) free unswapped left.0 (_, there, fewer)) [
                | inr rotation ↦ no_rotation rotation
                | inl can ↦
                    let own = same can.agent can.track can.there in
                    elim (cases_Bool (is_on_the_way (old can.agent))) [
                      | inl moves_now ↦ not-moving table old new during round can.agent can.track can.there own moves_now
                      | inr stands ↦ not-ready table old new during round can.agent can.track can.there own stands can.left can.met
                    ]
              ])
        ]
  ]

-- ---- rounds one behind the other

-- the sum of numbers, one for each track from one on
abbrev total : List Track → ℕ → (ℕ → ℕ) → ℕ
total [] first f = 0
total (track ∷ tracks) first f = f first + total tracks (first + 1) f

total-rise : (tracks : List Track) (first : ℕ) (f g : ℕ → ℕ) → ((k : ℕ) → f k ≤ g k) → total tracks first f ≤ total tracks first g
total-rise [] first f g most = omega arith
total-rise (track ∷ tracks) first f g most = (let rest = total-rise tracks (first + 1) f g most in let here = most first in omega (arith, rest, here))

total-less : (tracks : List Track) (first i : ℕ) (f g : ℕ → ℕ) → ((k : ℕ) → f k ≤ g k) → i < length tracks → f (first + i) < g (first + i) → total tracks first f < total tracks first g
total-less [] first i f g most within less = absurd (omega (arith, within))
total-less (track ∷ tracks) first zero f g most within less =
    let rest = total-rise tracks (first + 1) f g most in
    let here : f first < g first = (let same : first + zero ≡ first = omega arith in subst (λ n. f n < g n) same less) in
    omega (arith, rest, here)
total-less (track ∷ tracks) first (suc i) f g most within less =
    let place : first + suc i ≡ (first + 1) + i = omega arith in
    let rest = total-less tracks (first + 1) i f g most (omega (arith, within)) (subst (λ n. f n < g n) place less) in
    let here = most first in
    omega (arith, rest, here)

abbrev AreWithin : List Track → ℕ → (ℕ → ℕ) → Type 0
AreWithin tracks first f = (k : ℕ) (track : Track) → slice_get tracks k ≡ Some track → f (first + k) ≤ 2 * moves track

within-rest : (track : Track) (tracks : List Track) (first : ℕ) (f : ℕ → ℕ) → AreWithin (track ∷ tracks) first f → AreWithin tracks (first + 1) f
within-rest track tracks first f within k other there = (let place : first + suc k ≡ (first + 1) + k = omega arith in subst (λ n. f n ≤ 2 * moves other) place (within (suc k) other there))

within-first : (track : Track) (tracks : List Track) (first : ℕ) (f : ℕ → ℕ) → AreWithin (track ∷ tracks) first f → f first ≤ 2 * moves track
within-first track tracks first f within = (let place : first + zero ≡ first = omega arith in subst (λ n. f n ≤ 2 * moves track) place (within zero track refl))

total-most : (tracks : List Track) (first : ℕ) (f : ℕ → ℕ) → AreWithin tracks first f → total tracks first f ≤ 2 * sum_by moves tracks
total-most [] first f within = omega arith
total-most (track ∷ tracks) first f within =
    let rest = total-most tracks (first + 1) f (within-rest track tracks first f within) in
    let here = within-first track tracks first f within in
    let sum = sum_by-cons moves track tracks in
    omega (arith, rest, here, sum)

-- where the sum is as great as it can be, each number is
total-full : (tracks : List Track) (first : ℕ) (f : ℕ → ℕ) → AreWithin tracks first f → 2 * sum_by moves tracks ≤ total tracks first f
    → (k : ℕ) (track : Track) → slice_get tracks k ≡ Some track → 2 * moves track ≤ f (first + k)
total-full [] first f within full k track there = absurd (none-some track there)
total-full (head ∷ tracks) first f within full k track there =
    let rest = total-most tracks (first + 1) f (within-rest head tracks first f within) in
    let here = within-first head tracks first f within in
    let sum = sum_by-cons moves head tracks in
    by k there (omega (arith, full, rest, sum)) (λ l at. total-full tracks (first + 1) f (within-rest head tracks first f within) (omega (arith, full, here, sum)) l track at)
  where
    by : (k : ℕ) → slice_get (head ∷ tracks) k ≡ Some track → 2 * moves head ≤ f first
        → ((l : ℕ) → slice_get tracks l ≡ Some track → 2 * moves track ≤ f ((first + 1) + l)) → 2 * moves track ≤ f (first + k)
    by zero at own others =
        (let place : first ≡ first + zero = omega arith in subst (λ n. 2 * moves track ≤ f n) place (subst (λ t. 2 * moves t ≤ f first) (same_Some head track at) own))
    by (suc l) at own others = (let place : (first + 1) + l ≡ first + suc l = omega arith in subst (λ n. 2 * moves track ≤ f n) place (others l at))

-- what is stored of an agent's moves; nothing of one that there isn't
abbrev stored_of : Timetable → (ℕ → State) → ℕ → ℕ
stored_of table states i = if nat_lt i (length table.tracks) then (states i).records else 0

module _ (table : Timetable) (free : IsConflictFree table) (unswapped : IsSwapFree table) (no_rotation : HasRotation table → ⊥) where
  is-stored : (states : ℕ → State) (i : ℕ) (track : Track) → track_of table i ≡ Some track → stored_of table states i ≡ (states i).records
  is-stored states i track there = cond-true (nat_lt i (length table.tracks)) _ _ (lt-ltb i (length table.tracks) (slice_get_within table.tracks i track there))

  stored-later : (old new : ℕ → State) (log : Log) → AreLedFrom table old log new → (k : ℕ) → stored_of table old k ≤ stored_of table new k
  stored-later old new log led k = by (nat_lt k (length table.tracks)) refl where
    by : (b : Bool) → nat_lt k (length table.tracks) ≡ b → (if b then (old k).records else 0) ≤ (if b then (new k).records else 0)
    by false is = omega arith
    by true is =
        let track : Track = get_or table.tracks k no_track in
        let there : track_of table k ≡ Some track = slice_get-get_or table.tracks k no_track (ltb-true k (length table.tracks) is) in
        all-grow table k track (old k) (new k) (deeds_of log k) (led k track there)

  abbrev stored_in_all : (ℕ → State) → ℕ
  stored_in_all states = total table.tracks 0 (stored_of table states)

  -- nobody had more before
  within-before : (old new : ℕ → State) (log : Log) → AreLedFrom table old log new → AllWithin table new → AllWithin table old
  within-before old new log led within i track there =
      let more = all-grow table i track (old i) (new i) (deeds_of log i) (led i track there) in
      let most = within i track there in
      omega (arith, more, most)

  arrived-later : (old new : ℕ → State) (log : Log) → AreLedFrom table old log new → AllWithin table new → HaveAllArrived table old → HaveAllArrived table new
  arrived-later old new log led within arrive i track there =
      let more = all-grow table i track (old i) (new i) (deeds_of log i) (led i track there) in
      let most = within i track there in
      let all = arrive i track there in
      omega (arith, more, most, all)

  counted : (n : ℕ) (states : ℕ → State) → AllWithin table states → HasRounds table n states → HaveAllArrived table states ⊎ (n ≤ stored_in_all states)
  counted zero states within rounds = inr (omega arith)
  counted (suc n) states within (old, new, during, after, round, led, rounds) =
      let within_new = within-before new states after led within in
      let within_old = within-before old new during round.led within_new in
      elim (counted n old within_old rounds) [
        | inl arrive ↦ inl (arrived-later new states after led within (arrived-later old new during round.led within_new arrive))
        | inr some ↦ elim (comes-on table free unswapped no_rotation old new during within_old round) [
          | inl arrive ↦ inl (arrived-later new states after led within (arrived-later old new during round.led within_new arrive))
          | inr more ↦
              let place : more.0 ≡ 0 + more.0 = omega arith in
              let there = slice_get-get_or table.tracks more.0 no_track more.1 in
              let first = is-stored old more.0 _ there in
              let second = is-stored new more.0 _ there in
              let rise = more.2 in
              let less : stored_of table old more.0 < stored_of table new more.0 = omega (arith, first, second, rise) in
              let grown = total-less table.tracks 0 more.0 (stored_of table old) (stored_of table new) (stored-later old new during round.led) more.1
              (subst (λ k. stored_of table old k < stored_of table new k) place less) in
              let later = total-rise table.tracks 0 (stored_of table new) (stored_of table states) (stored-later new states after led) in
              inr (omega (arith, some, grown, later))
        ]
      ]

  within-all : (states : ℕ → State) → AllWithin table states → AreWithin table.tracks 0 (stored_of table states)
  within-all states within k track there =
      let place : 0 + k ≡ k = omega arith in
      let is = is-stored states k track there in
      let most = within k track there in
      subst (λ n. stored_of table states n ≤ 2 * moves track) (sym place) (omega (arith, is, most))

  pub ends-in-time : (n : ℕ) (states : ℕ → State) → AllWithin table states → HasRounds table n states → 2 * sum_by moves table.tracks ≤ n → HaveAllArrived table states
  ends-in-time n states within rounds enough = elim (counted n states within rounds) [
    | inl arrive ↦ arrive
    | inr some ↦ λ i track there.
        let place : 0 + i ≡ i = omega arith in
        let all = subst (λ k. 2 * moves track ≤ stored_of table states k) place
        (total-full table.tracks 0 (stored_of table states) (within-all states within) (omega (arith, some, enough)) i track there) in
        let is = is-stored states i track there in
        let most = within i track there in
        omega (arith, all, is, most)
  ]

-- no agent of a fleet has more than its plan's moves
pub fleet-within : (table : Timetable) (log : Log) (states : ℕ → State) → IsFleet table log states → AllWithin table states
fleet-within table log states fleet i track there = all-within table i track fresh (states i) (deeds_of log i) (omega arith) (fleet.own i track there)
