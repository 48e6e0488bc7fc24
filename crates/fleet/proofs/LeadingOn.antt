-- Doings one behind the other, and which timetables fit them.
use Rattle.std.proofs.Common.{◌≡◌, ℕ, ◌≤◌, List, [], ◌∷◌, ◌++◌, Some, None, Result, Ok, Err, inl, inr, sym, ap, subst, ◌∙◌, arith, append_assoc}
use Rattle.std.specs.Prelude.{Option}
use Rattle.std.proofs.lemmas.Bool.{cases_eq}
use Rattle.std.proofs.lemmas.List.{append-nil}
use Rattle.grid.specs.declared.cell.Cell.{Cell}
use Rattle.model.specs.Timetable.{Track, Timetable, track_of}
use Rattle.agent.specs.States.{State, begun_moves, Answers, bytes_refusal, telling_refusal, Keeps, Refuses, IsTaken, IsHeard}
use Rattle.agent.specs.Tellings.{Telling, BytesTell}
use Rattle.agent.specs.declared.refusal.HearFault.{HearFault}
use Rattle.agent.specs.declared.refusal.Refusal.{Refusal}
use Rattle.std.specs.Prelude.{MatchOption}
use Rattle.fleet.specs.Deeds.{Deed, opens, starts, finishes, says, tells, hears, holds, looks, ends, stops, ends_starting, ends_finishing, Does}
use Rattle.fleet.specs.Fleets.{bytes_of, spoken}
use Rattle.fleet.specs.OwnPlans.{Doings, log_of, IsLedOn, AreLedOn}

-- ---- tapes grow

answers-grow : (o : Option Refusal) (old new : State) (c : Cell) (answer : Result Cell Refusal) → Answers o old new c answer → old.records ≤ new.records
answers-grow (Some why) old new c answer refuses = (let same = ap (λ s. s.records) refuses.1 in omega (arith, same))
answers-grow None old new c answer stores = elim stores.outcome [
  | inl good ↦ (let more = good.1 in omega (arith, more))
  | inr bad ↦ elim bad.1 [ inl same ↦ omega (arith, same) | inr more ↦ omega (arith, more) ]
]

grows-by : (old new : State) → new ≡ old → old.records ≤ new.records
grows-by old new same = (let e = ap (λ s. s.records) same in omega (arith, e))

pub heard-same : (table : Timetable) (old new : State) (bytes : List ℕ) (answer : Result (ℕ × ℕ) HearFault) → IsHeard table old new bytes answer → new.records ≡ old.records
heard-same table old new bytes answer heard = by_bytes (bytes_refusal old bytes) heard where
  kept : (u : Telling) (r : Result (ℕ × ℕ) HearFault) → Keeps old new u.message r → new.records ≡ old.records
  kept u (Ok pair) keeps = keeps.2
  kept u (Err why) keeps = ap (λ s. s.records) keeps.2

  taken : (u : Telling) (o : Option HearFault) → MatchOption o (Keeps old new u.message answer) (Refuses old new answer) → new.records ≡ old.records
  taken u None keeps = kept u answer keeps
  taken u (Some why) refuses = ap (λ s. s.records) refuses.1

  by_bytes : (o : Option HearFault) → MatchOption o ((u : Telling) × BytesTell bytes u × IsTaken table old new u answer) (Refuses old new answer) → new.records ≡ old.records
  by_bytes None takes = taken takes.0 (telling_refusal table takes.0) takes.2
  by_bytes (Some why) refuses = ap (λ s. s.records) refuses.1

-- and it breaks nobody
pub heard-broken : (table : Timetable) (old new : State) (bytes : List ℕ) (answer : Result (ℕ × ℕ) HearFault) → IsHeard table old new bytes answer → new.broken ≡ old.broken
heard-broken table old new bytes answer heard = by_bytes (bytes_refusal old bytes) heard where
  kept : (u : Telling) (r : Result (ℕ × ℕ) HearFault) → Keeps old new u.message r → new.broken ≡ old.broken
  kept u (Ok pair) keeps = keeps.3
  kept u (Err why) keeps = ap (λ s. s.broken) keeps.2

  taken : (u : Telling) (o : Option HearFault) → MatchOption o (Keeps old new u.message answer) (Refuses old new answer) → new.broken ≡ old.broken
  taken u None keeps = kept u answer keeps
  taken u (Some why) refuses = ap (λ s. s.broken) refuses.1

  by_bytes : (o : Option HearFault) → MatchOption o ((u : Telling) × BytesTell bytes u × IsTaken table old new u answer) (Refuses old new answer) → new.broken ≡ old.broken
  by_bytes None takes = taken takes.0 (telling_refusal table takes.0) takes.2
  by_bytes (Some why) refuses = ap (λ s. s.broken) refuses.1

pub records-grow : (table : Timetable) (i : ℕ) (track : Track) (old new : State) (deed : Deed) → Does table i track old deed new → old.records ≤ new.records
records-grow table i track old new (opens what count) does = (let e = ap (λ s. s.records) does.2 in omega (arith, e))
records-grow table i track old new (starts answer) does = answers-grow _ old new _ answer does
records-grow table i track old new (finishes answer) does = answers-grow _ old new _ answer does
records-grow table i track old new (says answer) does = grows-by old new does.1
records-grow table i track old new (tells answer) does = grows-by old new does.1
records-grow table i track old new (hears bytes answer) does = (let e = heard-same table old new bytes answer does in omega (arith, e))
records-grow table i track old new (holds what count) does = grows-by old new does.2
records-grow table i track old new (looks begun most count) does = grows-by old new does.2
records-grow table i track old new ends does = grows-by old new does
records-grow table i track old new stops does = grows-by old new does
records-grow table i track old new ends_starting does = answers-grow _ old new _ _ does
records-grow table i track old new ends_finishing does = answers-grow _ old new _ _ does

-- ---- which timetables fit

module _ (said : List (List ℕ)) (from : ℕ → State) where
  -- what fits more fits too
  pub led-as : (P Q : Timetable → ℕ → Track → ℕ → Type 0) → ((by : Timetable) (i : ℕ) (track : Track) (count : ℕ) → track_of by i ≡ Some track → P by i track count → Q by i track count)
      → (doings : Doings) (states : ℕ → State) → AreLedOn P said from doings states → AreLedOn Q said from doings states
  led-as P Q more [] states led = led
  led-as P Q more (now ∷ doings) states (mid, before, step) = (
    mid,
    led-as P Q more doings mid before,
    record {
      track = step.track;
      is_track = step.is_track;
      fits = more now.by now.agent step.track (begun_moves (states now.agent)) step.is_track step.fits;
      honest = step.honest;
      does = step.does;
      others = step.others;
    },
  )

  -- nobody had begun more when it did something than it has in the end
  pub led-within : (P : Timetable → ℕ → Track → ℕ → Type 0) (most : ℕ → ℕ) (doings : Doings) (states : ℕ → State) → ((i : ℕ) → begun_moves (states i) ≤ most i)
      → AreLedOn P said from doings states → AreLedOn (λ by i track count. P by i track count × (count ≤ most i)) said from doings states
  led-within P most [] states within led = led
  led-within P most (now ∷ doings) states within (mid, before, step) = (
    mid,
    led-within P most doings mid earlier before,
    record {
      track = step.track;
      is_track = step.is_track;
      fits = (step.fits, within now.agent);
      honest = step.honest;
      does = step.does;
      others = step.others;
    },
  ) where
    earlier : (i : ℕ) → begun_moves (mid i) ≤ most i
    earlier i = elim (cases_eq i now.agent) [
      | inl same ↦
          let grow = records-grow now.by now.agent step.track (mid now.agent) (states now.agent) now.deed step.does in
          let end = within now.agent in
          subst (λ j. begun_moves (mid j) ≤ most j) (sym same) (omega (arith, grow, end))
      | inr apart ↦ subst (λ s. begun_moves s ≤ most i) (step.others i apart) (within i)
    ]

-- ---- one behind the other

said-more : (earlier later : Doings) → spoken (log_of (later ++ earlier)) ≡ spoken (log_of earlier) ++ spoken (log_of later)
said-more earlier [] = sym (append-nil (spoken (log_of earlier)))
said-more earlier (now ∷ later) =
    ap (λ l. l ++ bytes_of now.deed) (said-more earlier later) ∙ append_assoc (spoken (log_of earlier)) (spoken (log_of later)) (bytes_of now.deed)

module _ (P : Timetable → ℕ → Track → ℕ → Type 0) (from : ℕ → State) where
  same-end : (doings : Doings) (states others : ℕ → State) → ((i : ℕ) → others i ≡ states i) → AreLedOn P [] from doings states → AreLedOn P [] from doings others
  same-end [] states others same led = λ i. same i ∙ led i
  same-end (now ∷ doings) states others same (mid, before, step) = (
    mid,
    before,
    record {
      track = step.track;
      is_track = step.is_track;
      fits = subst (λ s. P now.by now.agent step.track (begun_moves s)) (sym (same now.agent)) step.fits;
      honest = step.honest;
      does = subst (Does now.by now.agent step.track (mid now.agent) now.deed) (sym (same now.agent)) step.does;
      others = λ k apart. same k ∙ step.others k apart;
    },
  )

  pub led-on : (earlier later : Doings) (mid states : ℕ → State) → AreLedOn P [] from earlier mid → AreLedOn P (spoken (log_of earlier)) mid later states
      → AreLedOn P [] from (later ++ earlier) states
  led-on earlier [] mid states led more = same-end earlier mid states more led
  led-on earlier (now ∷ later) mid states led (between, before, step) = (
    between,
    led-on earlier later mid between led before,
    subst (λ l. IsLedOn P l now between states) (sym (said-more earlier later)) step,
  )
