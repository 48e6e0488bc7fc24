-- What a deed leaves on its agent's tape: what it had, or for a start or a finish one record more.
use Rattle.std.proofs.Common.{◌≡◌, ℕ, ◌+◌, ◌*◌, ◌≤◌, List, [], ◌∷◌, Some, None, Result, Ok, Err, inl, inr, ap, arith}
use Rattle.std.specs.Prelude.{Option, MatchOption, ◌⊎◌}
use Rattle.grid.specs.declared.cell.Cell.{Cell}
use Rattle.model.specs.Timetable.{Track, Timetable, moves}
use Rattle.agent.specs.States.{State, Answers, bytes_refusal, telling_refusal, Keeps, Refuses, IsTaken, IsHeard}
use Rattle.agent.specs.Tellings.{Telling, BytesTell}
use Rattle.agent.specs.declared.refusal.HearFault.{HearFault}
use Rattle.agent.specs.declared.refusal.Refusal.{Refusal}
use Rattle.fleet.specs.Deeds.{Deed, opens, starts, finishes, says, tells, hears, holds, looks, ends, stops, ends_starting, ends_finishing, Does, DoesAll}

abbrev pub Grown : State → State → Type 0
Grown old new = (new.records ≡ old.records) ⊎ (new.records ≡ old.records + 1)

answers-grow : (o : Option Refusal) (old new : State) (c : Cell) (answer : Result Cell Refusal) → Answers o old new c answer → Grown old new
answers-grow (Some why) old new c answer refuses = inl (ap (λ s. s.records) refuses.1)
answers-grow None old new c answer stores = elim stores.outcome [
  | inl good ↦ inr good.1
  | inr bad ↦ bad.1
]

pub same-records : (old new : State) → new ≡ old → new.records ≡ old.records
same-records old new same = ap (λ s. s.records) same

pub heard-records : (table : Timetable) (old new : State) (bytes : List ℕ) (answer : Result (ℕ × ℕ) HearFault) → IsHeard table old new bytes answer → new.records ≡ old.records
heard-records table old new bytes answer heard = by_bytes (bytes_refusal old bytes) heard where
  kept : (u : Telling) (r : Result (ℕ × ℕ) HearFault) → Keeps old new u.message r → new.records ≡ old.records
  kept u (Ok pair) keeps = keeps.2
  kept u (Err why) keeps = ap (λ s. s.records) keeps.2

  taken : (u : Telling) (o : Option HearFault) → MatchOption o (Keeps old new u.message answer) (Refuses old new answer) → new.records ≡ old.records
  taken u None keeps = kept u answer keeps
  taken u (Some why) refuses = ap (λ s. s.records) refuses.1

  by_bytes : (o : Option HearFault) → MatchOption o ((u : Telling) × BytesTell bytes u × IsTaken table old new u answer) (Refuses old new answer) → new.records ≡ old.records
  by_bytes None takes = taken takes.0 (telling_refusal table takes.0) takes.2
  by_bytes (Some why) refuses = ap (λ s. s.records) refuses.1

module _ (table : Timetable) (i : ℕ) (track : Track) where
  pub grown : (old new : State) (deed : Deed) → Does table i track old deed new → Grown old new
  grown old new (opens what count) does = inl (ap (λ s. s.records) does.2)
  grown old new (starts answer) does = answers-grow _ old new _ answer does
  grown old new (finishes answer) does = answers-grow _ old new _ answer does
  grown old new (says answer) does = inl (same-records old new does.1)
  grown old new (tells answer) does = inl (same-records old new does.1)
  grown old new (hears bytes answer) does = inl (heard-records table old new bytes answer does)
  grown old new (holds what count) does = inl (same-records old new does.2)
  grown old new (looks begun most count) does = inl (same-records old new does.2)
  grown old new ends does = inl (same-records old new does)
  grown old new stops does = inl (same-records old new does)
  grown old new ends_starting does = answers-grow _ old new _ _ does
  grown old new ends_finishing does = answers-grow _ old new _ _ does

  pub grows : (old new : State) (deed : Deed) → Does table i track old deed new → old.records ≤ new.records
  grows old new deed does = elim (grown old new deed does) [ inl same ↦ omega (arith, same) | inr more ↦ omega (arith, more) ]

  pub grows-all : (old new : State) (deeds : List Deed) → DoesAll table i track old deeds new → old.records ≤ new.records
  grows-all old new [] does = (let e = same-records old new does in omega (arith, e))
  grows-all old new (deed ∷ deeds) (mid, first, rest) =
      let here = grows old mid deed first in
      let later = grows-all mid new deeds rest in
      omega (arith, here, later)

-- no deed goes past the end of the plan by which it is done
abbrev pub StayWithin : Type 0
StayWithin =
    (table : Timetable) (i : ℕ) (track : Track) (old : State) (deed : Deed) (new : State) → old.records ≤ 2 * moves track → Does table i track old deed new → new.records ≤ 2 * moves track
