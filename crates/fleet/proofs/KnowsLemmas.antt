-- What agents begin, know and say, by their deeds alone: never more than is finished.
use Rattle.std.proofs.Common.{◌≡◌, ℕ, zero, suc, ◌+◌, ◌*◌, ◌/◌, ◌%◌, ◌≤◌, ◌<◌, ◌^◌, eqb, Bool, true, false, List, [], ◌∷◌, ◌++◌, length, max, nat_lt, get_or, Some, None, Result, Ok, Err}
use Rattle.std.proofs.Common.{inl, inr, refl, sym, ap, subst, ◌∙◌, arith}
use Rattle.std.specs.Prelude.{◌==◌, ◌⊎◌, Option, MatchOption, if◌then◌else◌, slice_get}
use Rattle.std.proofs.Math.Nat.{mul-div_cancel_left}
use Rattle.std.proofs.lemmas.Bool.{cases_eq, cases_lt, ltb-false, cond-true, cond-false, eq-eqb, ne_eqb, eqb-true, eqb-false}
use Rattle.std.proofs.lemmas.Option.{none-some, same_Some, slice_get-get_or, slice_get_within}
use Rattle.grid.specs.declared.cell.Cell.{Cell}
use Rattle.model.specs.declared.entry.Entry.{Entry}
use Rattle.model.specs.Dependency.{Need, Stand, moves_to, need_by, need, IsMet, last_stand}
use Rattle.model.specs.Messages.{Message, told_by, told, own_message, number_told, whole_message, IsMessage, IsTold}
use Rattle.model.specs.Timetable.{Track, Timetable, moves, cell_at, step_of, track_of}
use Rattle.model.specs.Laws.Entries.{entries-own, entries-few}
use Rattle.model.specs.Laws.Needs.{stands-track, IsLastBelow, last_stand-is}
use Rattle.agent.specs.Ahead.{gone_on}
use Rattle.agent.specs.Counters.{known_in}
use Rattle.agent.specs.States.{State, is_on_the_way, finished_moves, begun_moves, waits_for, start_refusal, finish_refusal, Answers, Keeps, Refuses, IsTaken, IsHeard, bytes_refusal, telling_refusal}
use Rattle.agent.specs.Tellings.{Telling, IsInRange, BytesTell}
use Rattle.agent.specs.declared.refusal.HearFault.{HearFault}
use Rattle.agent.specs.declared.refusal.Refusal.{Refusal}
use Rattle.agent.specs.declared.refusal.Refusal.TheVariants.{Broken, AlreadyMoving, AtEnd, Waits, NotMoving}
use Rattle.fleet.specs.Deeds.{Deed, opens, starts, finishes, says, tells, hears, holds, looks, ends, stops, ends_starting, ends_finishing, Does}
use Rattle.fleet.specs.Fleets.{Log, bytes_of, spoken, IsHonest, IsTellable}
use Rattle.fleet.specs.Laws.Speaking.{raised-known}
use Rattle.fleet.specs.Laws.Telling.{none-refused-of}
use Rattle.fleet.proofs.FleetLemmas.{IsOf, last-deed}
use Rattle.fleet.proofs.LeadingOn.{heard-same, records-grow}
use Rattle.fleet.proofs.SpelledLemmas.{telling_in, all-of}
use Rattle.fleet.proofs.UnsaidLemmas.{refused-same}
use Rattle.fleet.proofs.WithinLemmas.{stays}

-- ---- what refuses nothing

pub none_if : (b : Bool) (w : Refusal) (o : Option Refusal) → (if b then Some w else o) ≡ None → (b ≡ false) × (o ≡ None)
none_if true w o e = absurd (none-some w (sym e))
none_if false w o e = (refl, e)

waits-met : (s : State) (o : Option Need) → waits_for s.heard o ≡ None → IsMet (known_in s.heard) o
waits-met s None e = tt
waits-met s (Some n) e = ltb-false (known_in s.heard n.agent) n.count (none_if (nat_lt (known_in s.heard n.agent) n.count) (Waits n.agent n.count) None e).0

-- a move ahead that is free has its need met by what is known
pub free-met : (by : Timetable) (i : ℕ) (track : Track) (s : State) (n : ℕ) → start_refusal by i track (gone_on s n) ≡ None → IsMet (known_in s.heard) (need by i track (begun_moves s + n))
free-met by i track s n free =
    let first = none_if s.broken Broken _ free in
    let second = none_if (is_on_the_way (gone_on s n)) AlreadyMoving _ first.1 in
    let third = none_if (finished_moves (gone_on s n) == moves track) AtEnd _ second.1 in
    subst (λ k. IsMet (known_in s.heard) (need by i track k)) (mul-div_cancel_left (begun_moves s + n) (omega arith)) (waits-met s _ third.1)

-- ---- whom a need names

asked-there : (table : Timetable) (i t : ℕ) (asked : Need) (o : Option Stand) → MatchOption o (Unit {0}) (λ s. (track : Track) × (track_of table s.agent ≡ Some track))
    → need_by table i o ≡ Some asked → (to : Track) × (track_of table asked.agent ≡ Some to)
asked-there table i t asked None there e = absurd (none-some asked e)
asked-there table i t asked (Some s) there e = by_own (s.agent == i) e where
  by_own : (b : Bool) → (if b then None else Some (record { agent = s.agent; count = moves_to table s.agent (s.time + 1) })) ≡ Some asked → (to : Track) × (track_of table asked.agent ≡ Some to)
  by_own true none = absurd (none-some asked none)
  by_own false same = subst (λ n. (to : Track) × (track_of table n.agent ≡ Some to)) (same_Some _ asked same) there

last-there : (table : Timetable) (t : ℕ) (o : Option Stand) → (c : _) → IsLastBelow table c t o → MatchOption o (Unit {0}) (λ s. (track : Track) × (track_of table s.agent ≡ Some track))
last-there table t None c is = tt
last-there table t (Some s) c is = (let found = stands-track table s.agent s.time c is.0 in (found.0, found.1))

pub need-there : (table : Timetable) (i k : ℕ) (track : Track) (asked : Need) → need table i track k ≡ Some asked → (to : Track) × (track_of table asked.agent ≡ Some to)
need-there table i k track asked e =
    let c = cell_at track (step_of track k + 1) in
    let t = step_of track k in
    asked-there table i t asked (last_stand table c t) (last-there table _ (last_stand table c t) c (last_stand-is table c t)) e

-- a need stays met where those whom it may name have finished no fewer
pub met-more : (f g : ℕ → ℕ) (o : Option Need) → ((n : Need) → o ≡ Some n → f n.agent ≤ g n.agent) → IsMet f o → IsMet g o
met-more f g None more met = tt
met-more f g (Some n) more met = (let most = more n refl in omega (arith, most, met))

-- where nothing refuses a start its need is met by what is known
start-met : (by : Timetable) (i : ℕ) (track : Track) (s : State) → start_refusal by i track s ≡ None → IsMet (known_in s.heard) (need by i track (begun_moves s))
start-met by i track s free =
    let first = none_if s.broken Broken _ free in
    let second = none_if (is_on_the_way s) AlreadyMoving _ first.1 in
    let third = none_if (finished_moves s == moves track) AtEnd _ second.1 in
    let odd = eqb-false (s.records % 2) 1 second.0 in
    let half : s.records % 2 ≡ 0 = grind (arith, odd) in
    let same : finished_moves s ≡ begun_moves s = grind (arith, half) in
    subst (λ k. IsMet (known_in s.heard) (need by i track k)) same (waits-met s _ third.1)

-- ---- what is finished

abbrev pub Finished : (ℕ → State) → ℕ → ℕ
Finished states j = finished_moves (states j)

-- nobody has finished fewer after a deed
pub grown-by : (by : Timetable) (i : ℕ) (track : Track) (mid states : ℕ → State) (deed : Deed) → Does by i track (mid i) deed (states i) → ((k : ℕ) → (k ≡ i → ⊥) → states k ≡ mid k)
    → (j : ℕ) → finished_moves (mid j) ≤ finished_moves (states j)
grown-by by i track mid states deed does others j = elim (cases_eq j i) [
  | inl same ↦ (let grow = records-grow by i track (mid i) (states i) deed does in subst (λ k. finished_moves (mid k) ≤ finished_moves (states k)) (sym same) (omega (arith, grow)))
  | inr apart ↦ (let e = ap finished_moves (others j apart) in omega (arith, e))
]

-- ---- what is said

told-below : (entries : List Entry) (j most : ℕ) → ((e : ℕ) (entry : Entry) → slice_get entries e ≡ Some entry → entry.agent ≡ j → entry.done ≤ most) → told_by entries j ≤ most
told-below [] j most each = omega arith
told-below (entry ∷ entries) j most each =
    let rest = told-below entries j most (λ e. each (suc e)) in
    elim (cases_eq entry.agent j) [
      | inl own ↦
          let here = each 0 entry refl own in
          let both = cond-true (eqb entry.agent j) (max entry.done (told_by entries j)) (told_by entries j) (eq-eqb entry.agent j own) in
          omega (arith, rest, here, both)
      | inr other ↦
          let same = cond-false (eqb entry.agent j) (max entry.done (told_by entries j)) (told_by entries j) (ne_eqb entry.agent j other) in
          omega (arith, rest, same)
    ]

-- The bytes tell of no agent more than it has finished, under the timetable's number.
pub record TellsDone (table : Timetable) (states : ℕ → State) (bytes : List ℕ) : Type 0 where
  pub message : Message
  pub tells : BytesTell bytes (telling_in table message)
  pub sender : message.sender < length table.tracks
  pub entries : (n : ℕ) (e : Entry) → slice_get message.entries n ≡ Some e → (own : Track) × (track_of table e.agent ≡ Some own) × (e.done ≤ finished_moves (states e.agent))

-- What a fleet's agents have begun, know and said: each begun move has its need met, and of nobody more is known or said than it has finished.
pub record Knows (table : Timetable) (all : List (List ℕ)) (states : ℕ → State) : Type 0 where
  pub begun : (i : ℕ) (track : Track) (k : ℕ) → track_of table i ≡ Some track → k < begun_moves (states i) → IsMet (Finished states) (need table i track k)
  pub known : (i j : ℕ) (track other : Track) → track_of table i ≡ Some track → track_of table j ≡ Some other → known_in (states i).heard j ≤ finished_moves (states j)
  pub said : (m : ℕ) (bytes : List ℕ) → slice_get all m ≡ Some bytes → TellsDone table states bytes
  pub within : (i : ℕ) (track : Track) → track_of table i ≡ Some track → (states i).records ≤ 2 * moves track

pub tells-more : (table : Timetable) (mid states : ℕ → State) (bytes : List ℕ) → ((j : ℕ) → finished_moves (mid j) ≤ finished_moves (states j)) → TellsDone table mid bytes
    → TellsDone table states bytes
tells-more table mid states bytes grown was = record {
  message = was.message;
  tells = was.tells;
  sender = was.sender;
  entries = λ n e there. (
      let own = was.entries n e there in
      let before = own.2 in
      let more = grown e.agent in
      (own.0, own.1, omega (arith, before, more))
      );
}

-- such numbers are spelled
in_range : (table : Timetable) (message : Message) → IsTellable table → message.sender < length table.tracks → length message.entries < 2 ^ 16
    → ((n : ℕ) (e : Entry) → slice_get message.entries n ≡ Some e → (own : Track) × (track_of table e.agent ≡ Some own) × (e.done ≤ moves own)) → IsInRange (telling_in table message)
in_range table message tellable sender few each = record {
  plan = tellable.number;
  sender = (let most = tellable.agents in omega (arith, sender, most));
  count = few;
  agents = all-of (λ e. e.agent < 2 ^ 16) message.entries (λ n e there.
      let own = each n e there in
      let within = slice_get_within table.tracks e.agent own.0 own.1 in
      let most = tellable.agents in
      omega (arith, within, most));
  numbers = all-of (λ e. e.done < 2 ^ 32) message.entries (λ n e there.
      let own = each n e there in
      let done = own.2 in
      let most = tellable.each_moves e.agent own.0 own.1 in
      omega (arith, done, most));
}

half_within : (records most : ℕ) → records ≤ 2 * most → records / 2 ≤ most
half_within records most h = grind (arith, h)

module _ (table : Timetable) (tellable : IsTellable table) (i : ℕ) (track : Track) (there : track_of table i ≡ Some track) (all : List (List ℕ)) (states : ℕ → State)
    (knows : Knows table all states) where
  abbrev s : State
  s = states i

  is_agent : i < length table.tracks
  is_agent = slice_get_within table.tracks i track there

  own_entry : (n : ℕ) (e : Entry) → slice_get (own_message i (finished_moves s)).entries n ≡ Some e
      → (own : Track) × (track_of table e.agent ≡ Some own) × (e.done ≤ finished_moves (states e.agent))
  own_entry zero e is = subst (λ x. (own : Track) × (track_of table x.agent ≡ Some own) × (x.done ≤ finished_moves (states x.agent))) (same_Some _ e is)
      (track, there, omega arith)
  own_entry (suc n) e is = absurd (none-some e is)

  -- no agent has finished more than its moves
  done-within : (n : ℕ) (e : Entry) (own : Track) → track_of table e.agent ≡ Some own → e.done ≤ finished_moves (states e.agent) → e.done ≤ moves own
  done-within n e own is done =
      let within = half_within (states e.agent).records (moves own) (knows.within e.agent own is) in
      omega (arith, done, within)

  pub says-done : (bytes : List ℕ) → IsMessage table.number i (finished_moves s) bytes → TellsDone table states bytes
  says-done bytes is = record {
    message = own_message i (finished_moves s);
    tells = record {
      in_range = in_range table (own_message i (finished_moves s)) tellable is_agent (omega arith)
          (λ n e at. (let own = own_entry n e at in (own.0, own.1, done-within n e own.0 own.1 own.2)));
      spelled = inl (finished_moves s, refl, is);
    };
    sender = is_agent;
    entries = own_entry;
  }

  abbrev whole : Message
  whole = whole_message (length table.tracks) i (finished_moves s) (known_in s.heard)

  whole_entry : (n : ℕ) (e : Entry) → slice_get whole.entries n ≡ Some e → (own : Track) × (track_of table e.agent ≡ Some own) × (e.done ≤ finished_moves (states e.agent))
  whole_entry n e at =
      let own = entries-own (number_told i (finished_moves s) (known_in s.heard)) 0 (length table.tracks) n e at in
      let less = own.1 in
      let other = get_or table.tracks e.agent track in
      let is : track_of table e.agent ≡ Some other = slice_get-get_or table.tracks e.agent track (omega (arith, less)) in
      let told_is = own.2 in
      elim (cases_eq e.agent i) [
        | inl self ↦ (
            let number = cond-true (e.agent == i) (finished_moves s) (known_in s.heard e.agent) (eq-eqb e.agent i self) in
            let same = ap (λ j. finished_moves (states j)) self in
            (other, is, omega (arith, told_is, number, same)))
        | inr apart ↦ (
            let number = cond-false (e.agent == i) (finished_moves s) (known_in s.heard e.agent) (ne_eqb e.agent i apart) in
            let most = knows.known i e.agent track other there is in
            (other, is, omega (arith, told_is, number, most)))
      ]

  pub tells-done : (bytes : List ℕ) → IsTold table.number whole bytes → TellsDone table states bytes
  tells-done bytes is = record {
    message = whole;
    tells = record {
      in_range = in_range table whole tellable is_agent
          (let few = entries-few (number_told i (finished_moves s) (known_in s.heard)) 0 (length table.tracks) in
          let most = tellable.agents in
          omega (arith, few, most))
          (λ n e at. (let own = whole_entry n e at in (own.0, own.1, done-within n e own.0 own.1 own.2)));
      spelled = inr is;
    };
    sender = is_agent;
    entries = whole_entry;
  }

-- ---- one deed more

begun-same : (old new : State) → new.records ≡ old.records → begun_moves new ≡ begun_moves old
begun-same old new e = ap (λ n. (n + 1) / 2) e

-- a finish begins no move
pub finish-begins : (old new : State) (c : Cell) (answer : Result Cell Refusal) → Answers (finish_refusal old) old new c answer → begun_moves new ≡ begun_moves old
finish-begins old new c answer gives = by (finish_refusal old) refl gives where
  one-more : old.records % 2 ≡ 1 → new.records ≡ old.records + 1 → begun_moves new ≡ begun_moves old
  one-more odd more = grind (arith, odd, more)

  by : (o : Option Refusal) → finish_refusal old ≡ o → Answers o old new c answer → begun_moves new ≡ begun_moves old
  by (Some why) is refuses = begun-same old new (ap (λ s. s.records) refuses.1)
  by None is stores =
      let first = none_if old.broken Broken _ is in
      let way : is_on_the_way old ≡ true = some_if (is_on_the_way old) first.1 in
      let odd = eqb-true (old.records % 2) 1 way in
      elim stores.outcome [
        | inl good ↦ one-more odd good.1
        | inr bad ↦ elim bad.1 [ inl same ↦ begun-same old new same | inr more ↦ one-more odd more ]
      ]
    where
      some_if : (b : Bool) → (if b then None else Some NotMoving) ≡ None → b ≡ true
      some_if true e = refl
      some_if false e = absurd (none-some NotMoving (sym e))

-- a start begins the next move, if its need is met by what is known
start-begins : (by : Timetable) (i : ℕ) (track : Track) (old new : State) (c : Cell) (answer : Result Cell Refusal) (k : ℕ)
    → Answers (start_refusal by i track old) old new c answer → begun_moves old ≤ k → k < begun_moves new → IsMet (known_in old.heard) (need by i track k)
start-begins table i track old new c answer k gives late less = by (start_refusal table i track old) refl gives where
  stays-begun : new.records ≡ old.records → IsMet (known_in old.heard) (need table i track k)
  stays-begun e = absurd (let same = begun-same old new e in omega (arith, same, late, less))

  begins : new.records ≡ old.records + 1 → start_refusal table i track old ≡ None → IsMet (known_in old.heard) (need table i track k)
  begins more none =
      let next : begun_moves old ≡ k = grind (arith, more, late, less) in
      subst (λ n. IsMet (known_in old.heard) (need table i track n)) next (start-met table i track old none)

  by : (o : Option Refusal) → start_refusal table i track old ≡ o → Answers o old new c answer → IsMet (known_in old.heard) (need table i track k)
  by (Some why) is refuses = stays-begun (ap (λ s. s.records) refuses.1)
  by None is stores = elim stores.outcome [
    | inl good ↦ begins good.1 is
    | inr bad ↦ elim bad.1 [ inl same ↦ stays-begun same | inr more ↦ begins more is ]
  ]

answers-heard : (o : Option Refusal) (old new : State) (c : Cell) (answer : Result Cell Refusal) → Answers o old new c answer → new.heard ≡ old.heard
answers-heard (Some why) old new c answer refuses = ap (λ s. s.heard) refuses.1
answers-heard None old new c answer stores = stores.heard

module _ (table : Timetable) (tellable : IsTellable table) (one : (bytes : List ℕ) (t u : Telling) → BytesTell bytes t → BytesTell bytes u → t ≡ u) where
  -- what the timetable's agents said is refused by none of them
  pub said-fine : (all : List (List ℕ)) (states : ℕ → State) (m : ℕ) (bytes : List ℕ) (t : Telling) → Knows table all states → slice_get all m ≡ Some bytes → BytesTell bytes t
      → telling_refusal table t ≡ None
  said-fine all states m bytes t knows there telling =
      let was = knows.said m bytes there in
      subst (λ u. telling_refusal table u ≡ None) (one bytes (telling_in table was.message) t was.tells telling)
      (none-refused-of table was.message was.sender (λ n e at.
      let own = was.entries n e at in
      let done = own.2 in
      let within = half_within (states e.agent).records (moves own.0) (knows.within e.agent own.0 own.1) in
      (own.0, own.1, omega (arith, done, within))))

  -- and tells of nobody more than it has finished
  pub never-ahead : (all : List (List ℕ)) (states : ℕ → State) (m : ℕ) (bytes : List ℕ) (t : Telling) (j : ℕ) → Knows table all states → slice_get all m ≡ Some bytes → BytesTell bytes t
      → told t.message j ≤ finished_moves (states j)
  never-ahead all states m bytes t j knows there telling =
      let was = knows.said m bytes there in
      subst (λ u. told u.message j ≤ finished_moves (states j)) (one bytes (telling_in table was.message) t was.tells telling)
      (told-below was.message.entries j (finished_moves (states j)) (λ n e at own.
      let entry = was.entries n e at in
      subst (λ k. e.done ≤ finished_moves (states k)) own entry.2))

  module _ (i : ℕ) (track : Track) (there : track_of table i ≡ Some track) (all : List (List ℕ)) (mid states : ℕ → State) (knows : Knows table all mid)
      (others : (k : ℕ) → (k ≡ i → ⊥) → states k ≡ mid k) where
    -- what is heard of an agent it has finished
    keeps-known : (bytes : List ℕ) (pair : ℕ × ℕ) (m : ℕ) → slice_get all m ≡ Some bytes → IsHeard table (mid i) (states i) bytes (Ok pair) → (j : ℕ) (other : Track)
        → track_of table j ≡ Some other → known_in (states i).heard j ≤ finished_moves (mid j)
    keeps-known bytes pair m was_said heard j other there_j = by_bytes (bytes_refusal (mid i) bytes) heard where
      taken : (u : Telling) (o : Option HearFault) → BytesTell bytes u → MatchOption o (Keeps (mid i) (states i) u.message (Ok pair)) (Refuses (mid i) (states i) (Ok pair))
          → known_in (states i).heard j ≤ finished_moves (mid j)
      taken u (Some why) tells_it refuses = absurd cc
      taken u None tells_it keeps =
          let raised_is = raised-known (mid i).heard (states i).heard u.message.entries keeps.1 j in
          let before = knows.known i j track other there there_j in
          let new = never-ahead all mid m bytes u j knows was_said tells_it in
          omega (arith, raised_is, before, new)

      by_bytes : (o : Option HearFault) → MatchOption o ((u : Telling) × BytesTell bytes u × IsTaken table (mid i) (states i) u (Ok pair)) (Refuses (mid i) (states i) (Ok pair))
          → known_in (states i).heard j ≤ finished_moves (mid j)
      by_bytes None takes = taken takes.0 (telling_refusal table takes.0) takes.1 takes.2
      by_bytes (Some why) refuses = absurd cc

    known-kept : (j : ℕ) (other : Track) → track_of table j ≡ Some other → (states i).heard ≡ (mid i).heard → known_in (states i).heard j ≤ finished_moves (mid j)
    known-kept j other there_j same = (let before = knows.known i j track other there there_j in let e = ap (λ l. known_in l j) same in omega (arith, before, e))

    known-stays : (j : ℕ) (other : Track) → track_of table j ≡ Some other → states i ≡ mid i → known_in (states i).heard j ≤ finished_moves (mid j)
    known-stays j other there_j same = known-kept j other there_j (ap (λ s. s.heard) same)

    known-after : (deed : Deed) → Does table i track (mid i) deed (states i) → IsHonest all deed → (j : ℕ) (other : Track) → track_of table j ≡ Some other
        → known_in (states i).heard j ≤ finished_moves (mid j)
    known-after (opens what count) does honest j other is = (let e = ap (λ s. known_in s.heard j) does.2 in omega (arith, e))
    known-after (starts answer) does honest j other is = known-kept j other is (answers-heard _ (mid i) (states i) _ answer does)
    known-after (finishes answer) does honest j other is = known-kept j other is (answers-heard _ (mid i) (states i) _ answer does)
    known-after (says answer) does honest j other is = known-stays j other is does.1
    known-after (tells answer) does honest j other is = known-stays j other is does.1
    known-after (hears bytes (Ok pair)) does honest j other is = keeps-known bytes pair honest.0 honest.1 does j other is
    known-after (hears bytes (Err fault)) does honest j other is = known-stays j other is (refused-same table (mid i) (states i) bytes fault does)
    known-after (holds what count) does honest j other is = known-stays j other is does.2
    known-after (looks begun most count) does honest j other is = known-stays j other is does.2
    known-after ends does honest j other is = known-stays j other is does
    known-after stops does honest j other is = known-stays j other is does
    known-after ends_starting does honest j other is = known-kept j other is (answers-heard _ (mid i) (states i) _ _ does)
    known-after ends_finishing does honest j other is = known-kept j other is (answers-heard _ (mid i) (states i) _ _ does)

    -- a need that is met by what is known is met by what is finished
    known-met : (k : ℕ) → IsMet (known_in (mid i).heard) (need table i track k) → IsMet (Finished mid) (need table i track k)
    known-met k met = met-more (known_in (mid i).heard) (Finished mid) (need table i track k)
        (λ asked asks. (let to = need-there table i k track asked asks in knows.known i asked.agent track to.0 there to.1)) met

    pub begun-after : (deed : Deed) (k : ℕ) → Does table i track (mid i) deed (states i) → k < begun_moves (states i) → IsMet (Finished mid) (need table i track k)
    begun-after deed k does less = elim (cases_lt k (begun_moves (mid i))) [
      | inl early ↦ knows.begun i track k there early
      | inr late ↦ begins deed does late
    ] where
      none-new : begun_moves (states i) ≡ begun_moves (mid i) → begun_moves (mid i) ≤ k → IsMet (Finished mid) (need table i track k)
      none-new same late = absurd (omega (arith, same, late, less))

      stays-so : states i ≡ mid i → begun_moves (mid i) ≤ k → IsMet (Finished mid) (need table i track k)
      stays-so same late = none-new (ap begun_moves same) late

      begins : (d : Deed) → Does table i track (mid i) d (states i) → begun_moves (mid i) ≤ k → IsMet (Finished mid) (need table i track k)
      begins (opens what count) done late = none-new (ap begun_moves done.2) late
      begins (starts answer) done late = known-met k (start-begins table i track (mid i) (states i) _ answer k done late less)
      begins (finishes answer) done late = none-new (finish-begins (mid i) (states i) _ answer done) late
      begins (says answer) done late = stays-so done.1 late
      begins (tells answer) done late = stays-so done.1 late
      begins (hears bytes answer) done late = none-new (begun-same (mid i) (states i) (heard-same table (mid i) (states i) bytes answer done)) late
      begins (holds what count) done late = stays-so done.2 late
      begins (looks begun most count) done late = stays-so done.2 late
      begins ends done late = stays-so done late
      begins stops done late = stays-so done late
      begins ends_starting done late = known-met k (start-begins table i track (mid i) (states i) _ _ k done late less)
      begins ends_finishing done late = none-new (finish-begins (mid i) (states i) _ _ done) late

    -- what the deed says
    says-on : (deed : Deed) → Does table i track (mid i) deed (states i) → (n : ℕ) (bytes : List ℕ) → slice_get (bytes_of deed) n ≡ Some bytes → TellsDone table mid bytes
    says-on (says (Ok bytes)) does zero other at = subst (TellsDone table mid) (same_Some bytes other at) (says-done table tellable i track there all mid knows bytes does.0.1)
    says-on (says (Ok bytes)) does (suc n) other at = absurd (none-some other at)
    says-on (says (Err why)) does n other at = absurd (none-some other at)
    says-on (tells (Ok bytes)) does zero other at = subst (TellsDone table mid) (same_Some bytes other at) (tells-done table tellable i track there all mid knows bytes does.0.1)
    says-on (tells (Ok bytes)) does (suc n) other at = absurd (none-some other at)
    says-on (tells (Err why)) does n other at = absurd (none-some other at)
    says-on (opens what count) does n other at = absurd (none-some other at)
    says-on (starts answer) does n other at = absurd (none-some other at)
    says-on (finishes answer) does n other at = absurd (none-some other at)
    says-on (hears bytes answer) does n other at = absurd (none-some other at)
    says-on (holds what count) does n other at = absurd (none-some other at)
    says-on (looks begun most count) does n other at = absurd (none-some other at)
    says-on ends does n other at = absurd (none-some other at)
    says-on stops does n other at = absurd (none-some other at)
    says-on ends_starting does n other at = absurd (none-some other at)
    says-on ends_finishing does n other at = absurd (none-some other at)

    either : (first more : List (List ℕ)) (m : ℕ) (bytes : List ℕ) → slice_get (first ++ more) m ≡ Some bytes
        → (slice_get first m ≡ Some bytes) ⊎ ((n : ℕ) × (slice_get more n ≡ Some bytes))
    either [] more m bytes at = inr (m, at)
    either (x ∷ first) more zero bytes at = inl at
    either (x ∷ first) more (suc m) bytes at = either first more m bytes at

    pub knows-on : (deed : Deed) → Does table i track (mid i) deed (states i) → IsHonest all deed → Knows table (all ++ bytes_of deed) states
    knows-on deed does honest =
        let grown = grown-by table i track mid states deed does others in
        record {
          begun = λ a own k is less. met-more (Finished mid) (Finished states) (need table a own k) (λ n asks. grown n.agent) (elim (cases_eq a i) [
            | inl self ↦ (
                let mine = same_Some track own (sym there ∙ ap (track_of table) (sym self) ∙ is) in
                subst (λ x. IsMet (Finished mid) (need table a x k)) mine
                (subst (λ j. IsMet (Finished mid) (need table j track k)) (sym self)
                (begun-after deed k does (subst (λ j. k < begun_moves (states j)) self less)))
                )
            | inr apart ↦ knows.begun a own k is (subst (λ s. k < begun_moves s) (others a apart) less)
          ]);
          known = λ a j own other is there_j. (
              let more = grown j in
              elim (cases_eq a i) [
                | inl self ↦ (
                    let most = known-after deed does honest j other there_j in
                    let same = ap (λ k. known_in (states k).heard j) self in
                    omega (arith, most, same, more)
                    )
                | inr apart ↦ (
                    let most = knows.known a j own other is there_j in
                    let same = ap (λ s. known_in s.heard j) (others a apart) in
                    omega (arith, most, same, more)
                    )
              ]
              );
          said = λ m bytes at. elim (either all (bytes_of deed) m bytes at) [
            | inl before ↦ tells-more table mid states bytes grown (knows.said m bytes before)
            | inr (n, new) ↦ tells-more table mid states bytes grown (says-on deed does n bytes new)
          ];
          within = λ a own is. elim (cases_eq a i) [
            | inl self ↦ (
                let mine = same_Some track own (sym there ∙ ap (track_of table) (sym self) ∙ is) in
                subst (λ x. (states a).records ≤ 2 * moves x) mine
                (subst (λ j. (states j).records ≤ 2 * moves track) (sym self)
                (stays table i track (mid i) (knows.within i track there) deed (states i) does))
                )
            | inr apart ↦ subst (λ s. s.records ≤ 2 * moves own) (sym (others a apart)) (knows.within a own is)
          ];
        }

  pub fleet-knows : (log : Log) (states : ℕ → State) → IsOf IsHonest table log states → Knows table (spoken log) states
  fleet-knows [] states fleet = record {
    begun = λ i track k there less. absurd (let e = ap begun_moves (fleet.own i track there) in omega (arith, e, less));
    known = λ i j track other there is. (let e = ap (λ s. known_in s.heard j) (fleet.own i track there) in omega (arith, e));
    said = λ m bytes at. absurd (none-some bytes at);
    within = λ i track there. (let e = ap (λ s. s.records) (fleet.own i track there) in omega (arith, e));
  }
  fleet-knows (now ∷ log) states fleet =
      let last = last-deed IsHonest table now log states fleet in
      knows-on now.agent last.track last.is_track (spoken log) last.before states (fleet-knows log last.before last.fleet) last.others now.deed last.does last.is
