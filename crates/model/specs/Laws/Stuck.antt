-- Somebody can move, or a rotation keeps all from moving, whatever has been finished.
use Rattle.std.proofs.Common.{◌≡◌, ℕ, zero, suc, ◌+◌, ◌<◌, List, length, Some}
use Rattle.std.proofs.Common.{None, inl, inr, arith, refl, sym, ap, subst, ◌∙◌}
use Rattle.std.specs.Prelude.{◌⊎◌, Option}
use Rattle.std.proofs.lemmas.Bool.{cases_lt}
use Rattle.std.proofs.lemmas.Option.{slice_get_within}
use Rattle.model.specs.Timetable.{Track, Timetable, moves, track_of, IsConflictFree, IsSwapFree}
use Rattle.model.specs.Dependency.{Need, need, IsMet, WaitsFor, IsRotation}
use Rattle.model.specs.Laws.Needs.{awaits}
use Rattle.model.specs.Laws.Rounds.{turned, round, round-length, round-is}
use Rattle.model.specs.Laws.Waits.{Turning, crowd, last-within, waited, waited-is}

-- Some agent has a move left whose need is met, by how many each has finished.
pub record CanMove (tt : Timetable) (finished : ℕ → ℕ) : Type 0 where
  pub agent : ℕ
  pub track : Track
  pub there : track_of tt agent ≡ Some track
  pub left : finished agent < moves track
  pub met : IsMet finished (need tt agent track (finished agent))

abbrev pub HasRotation : Timetable → Type 0
HasRotation tt = (step : ℕ) × (turning : List ℕ) × IsRotation tt step turning

-- the agent has a move left
abbrev pub HasMoveLeft : Timetable → (ℕ → ℕ) → ℕ → Type 0
HasMoveLeft tt finished i =
    (track : Track) × (track_of tt i ≡ Some track) × (finished i < moves track)

module _ (tab : Timetable) (finished : ℕ → ℕ) (free : IsConflictFree tab)
    (unswapped : IsSwapFree tab) where
  abbrev onward : ℕ → ℕ
  onward = waited tab finished free unswapped

  abbrev Waits : ℕ → Type 0
  Waits i = WaitsFor tab finished i (onward i)

  goes_or_waits : (i : ℕ) → HasMoveLeft tab finished i → CanMove tab finished
      ⊎ (Waits i × HasMoveLeft tab finished (onward i))
  goes_or_waits i left = by_need (need tab i left.0 (finished i)) refl where
    by_need : (o : Option Need) → need tab i left.0 (finished i) ≡ o → CanMove tab finished
        ⊎ (Waits i × HasMoveLeft tab finished (onward i))
    by_need None none =
        inl (record {
          agent = i;
          track = left.0;
          there = left.1;
          left = left.2;
          met = subst (IsMet finished) (sym none) tt;
        })
    by_need (Some n) asks = elim (cases_lt (finished n.agent) n.count) [
      | inr met ↦ inl (record {
        agent = i;
        track = left.0;
        there = left.1;
        left = left.2;
        met = subst (IsMet finished) (sym asks) met;
      })
      | inl unmet ↦
          let w : WaitsFor tab finished i n.agent =
          record {
            track = left.0;
            count = n.count;
            is_track = left.1;
            left = left.2;
            asks = asks;
            unmet = unmet;
          } in
          let a = awaits tab i left.0 (finished i) n free left.1 left.2 asks in
          let within = last-within tab i left.0 (finished i) n a in
          let count = a.count in
          let goes = waited-is tab finished free unswapped i n.agent w in
          inr (
            subst (WaitsFor tab finished i) (sym goes) w,
            subst (HasMoveLeft tab finished) (sym goes)
                (a.to, a.is_to, omega (arith, unmet, count, within)),
          )
    ]

  way : (first : ℕ) → HasMoveLeft tab finished first → (m : ℕ)
      → CanMove tab finished
      ⊎ (((k : ℕ) → k < m → Waits (turned onward k first))
      × ((k : ℕ) → k < suc m → HasMoveLeft tab finished (turned onward k first)))
  way first left zero =
      inr (
        λ k less. absurd (omega (arith, less)),
        λ k less. let same : 0 ≡ k =
            omega (arith, less) in
            subst (λ n. HasMoveLeft tab finished (turned onward n first)) same left,
      )
  way first left (suc m) = elim (way first left m) [
    | inl can ↦ inl can
    | inr far ↦ elim (goes_or_waits (turned onward m first) (far.1 m (omega arith))) [
      | inl can ↦ inl can
      | inr next ↦ inr (
        λ k less. elim (cases_lt k m) [
          | inl before ↦ far.0 k before
          | inr past ↦ let same : m ≡ k = omega (arith, less, past) in
              subst (λ n. Waits (turned onward n first)) same next.0
        ],
        λ k less. elim (cases_lt k (suc m)) [
          | inl before ↦ far.1 k before
          | inr past ↦ let same : suc m ≡ k = omega (arith, less, past) in
              subst (λ n. HasMoveLeft tab finished (turned onward n first)) same next.1
        ],
      )
    ]
  ]

  -- somebody can move, or agents are about to turn
  pub goes_or_turns : (first : ℕ) → HasMoveLeft tab finished first
      → CanMove tab finished ⊎ Turning tab finished free unswapped
  goes_or_turns first left = elim (way first left (length tab.tracks)) [
    | inl can ↦ inl can
    | inr far ↦
        let count = suc (length tab.tracks) in
        inr (crowd tab finished free unswapped (round onward count first)
        (λ place i j there next.
        let is = round-is onward count first place i there in
        let then = round-is onward count first (place + 1) j next in
        let less = then.0 in
        let one : place + 1 ≡ suc place = omega arith in
        let goes = then.1 ∙ ap (λ n. turned onward n first) one in
        subst (λ n. WaitsFor tab finished n j) (sym is.1)
        (subst (WaitsFor tab finished (turned onward place first)) (sym goes)
        (far.0 place (omega (arith, less)))))
        (λ place i there.
        let is = round-is onward count first place i there in
        let left_then = far.1 place is.0 in
        subst (λ n. n < length tab.tracks) (sym is.1)
        (slice_get_within tab.tracks (turned onward place first) left_then.0 left_then.1))
        (let size = round-length onward count first in omega (arith, size)))
  ]

  pub stuck : (first : ℕ) → HasMoveLeft tab finished first → CanMove tab finished ⊎ HasRotation tab
  stuck first left = elim (goes_or_turns first left) [
    | inl can ↦ inl can
    | inr turning ↦ inr (turning.step, turning.agents, turning.turns)
  ]
