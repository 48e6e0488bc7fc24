-- No deed goes past the end of the plan by which it is done.
use Rattle.std.proofs.Common.{◌≡◌, ℕ, ◌+◌, ◌*◌, ◌%◌, ◌≤◌, Bool, true, false, Some, None, Result, inl, inr, refl, sym, ap, ◌∙◌, arith}
use Rattle.std.specs.Prelude.{Option, if◌then◌else◌, ◌==◌}
use Rattle.std.proofs.lemmas.Bool.{eqb-true, eqb-false, eq-eqb, false≢true}
use Rattle.grid.specs.declared.cell.Cell.{Cell}
use Rattle.model.specs.Timetable.{Track, Timetable, moves}
use Rattle.agent.specs.States.{State, is_on_the_way, finished_moves, Answers}
use Rattle.agent.specs.declared.refusal.Refusal.{Refusal}
use Rattle.agent.specs.declared.refusal.Refusal.TheVariants.{Broken, AlreadyMoving, AtEnd, NotMoving}
use Rattle.fleet.specs.Deeds.{Deed, opens, starts, finishes, says, tells, hears, holds, looks, ends, stops, ends_starting, ends_finishing, Does}
use Rattle.fleet.proofs.LeadingOn.{heard-same}

-- at most one record more
one-more : (o : Option Refusal) (old new : State) (c : Cell) (answer : Result Cell Refusal) (most : ℕ) → old.records ≤ most → (o ≡ None → old.records + 1 ≤ most) → Answers o old new c answer →
    new.records ≤ most
one-more (Some why) old new c answer most within room refuses = (let same = ap (λ s. s.records) refuses.1 in omega (arith, same, within))
one-more None old new c answer most within room stores =
    let free = room refl in
    elim stores.outcome [
      | inl good ↦ (let more = good.1 in omega (arith, more, free))
      | inr bad ↦ elim bad.1 [ inl same ↦ omega (arith, same, within) | inr more ↦ omega (arith, more, free) ]
    ]

module _ (table : Timetable) (i : ℕ) (track : Track) (old : State) (within : old.records ≤ 2 * moves track) where
  -- a move that may begin is one of the plan's
  room-to-start : (broken moving end : Bool) (rest : Option Refusal) → is_on_the_way old ≡ moving → (finished_moves old == moves track) ≡ end
      → (if broken then Some Broken else (if moving then Some AlreadyMoving else (if end then Some AtEnd else rest))) ≡ None → old.records + 1 ≤ 2 * moves track
  room-to-start true moving end rest way last none = absurd cc
  room-to-start false true end rest way last none = absurd cc
  room-to-start false false true rest way last none = absurd cc
  room-to-start false false false rest way last none =
      let odd : old.records % 2 ≡ 1 → ⊥ = λ e. false≢true (sym way ∙ eq-eqb (old.records % 2) 1 e) in
      let half : old.records % 2 ≡ 0 = grind (arith, odd) in
      let other = eqb-false (finished_moves old) (moves track) last in
      grind (arith, half, other)

  room-to-finish : (broken moving : Bool) → is_on_the_way old ≡ moving → (if broken then Some Broken else (if moving then None else Some NotMoving)) ≡ None → old.records + 1 ≤ 2 * moves track
  room-to-finish true moving way none = absurd cc
  room-to-finish false false way none = absurd cc
  room-to-finish false true way none = (let odd = eqb-true (old.records % 2) 1 way in omega (arith, odd, within))

  same-records : (new : State) → new ≡ old → new.records ≤ 2 * moves track
  same-records new same = (let e = ap (λ s. s.records) same in omega (arith, e, within))

  pub stays : (deed : Deed) (new : State) → Does table i track old deed new → new.records ≤ 2 * moves track
  stays (opens what count) new does = (let e = ap (λ s. s.records) does.2 in omega (arith, e, within))
  stays (starts answer) new does =
      one-more _ old new _ answer (2 * moves track) within (room-to-start old.broken (is_on_the_way old) (finished_moves old == moves track) _ refl refl) does
  stays (finishes answer) new does = one-more _ old new _ answer (2 * moves track) within (room-to-finish old.broken (is_on_the_way old) refl) does
  stays (says answer) new does = same-records new does.1
  stays (tells answer) new does = same-records new does.1
  stays (hears bytes answer) new does = (let e = heard-same table old new bytes answer does in omega (arith, e, within))
  stays (holds what count) new does = same-records new does.2
  stays (looks begun most count) new does = same-records new does.2
  stays ends new does = same-records new does
  stays stops new does = same-records new does
  stays ends_starting new does =
      one-more _ old new _ _ (2 * moves track) within (room-to-start old.broken (is_on_the_way old) (finished_moves old == moves track) _ refl refl) does
  stays ends_finishing new does = one-more _ old new _ _ (2 * moves track) within (room-to-finish old.broken (is_on_the_way old) refl) does
