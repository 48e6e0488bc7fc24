-- Tracks and timetables that agree up to a time.
use Rattle.std.proofs.Common.{◌≡◌, ℕ, zero, suc, ◌+◌, ◌<◌, ◌≤◌, List, [], ◌∷◌, length}
use Rattle.std.proofs.Common.{get_or, Some, None, inl, inr, arith, refl, sym, ap, ◌∙◌}
use Rattle.std.specs.Prelude.{Option, if◌then◌else◌, ◌==◌, slice_get}
use Rattle.std.proofs.lemmas.Bool.{cases_Bool, false≢true}
use Rattle.std.proofs.lemmas.Option.{same_Some, slice_get_within, slice_get-get_or}
use Rattle.grid.specs.declared.cell.Cell.{Cell}
use Rattle.model.specs.Timetable.{Track, Timetable, same_cell, cell_at}
use Rattle.model.specs.Timetable.{moves_before, moves, step_of, track_of}
use Rattle.model.specs.Dependency.{Stand, stander_among, stander, stand_or, last_stand}
use Rattle.model.specs.Dependency.{moves_in, moves_to, need_by, need}
use Rattle.model.specs.Laws.Tracks.{same_cell-same, same_cell-true, moves_at-start, moves-stay}
use Rattle.model.specs.Laws.Tracks.{moves-leave, moves-most, step-of_move, moving_step}
use Rattle.model.specs.Laws.Needs.{stands-track, stands-from, IsLastBelow, last_stand-is}
use Rattle.continuing.specs.Continuing.{AgreesUpTo}

-- ---- one track

abbrev pub Along : ℕ → Track → Track → Type 0
Along time track other = (t : ℕ) → t ≤ time → cell_at other t ≡ cell_at track t

pub moves-along : (time : ℕ) (track other : Track) → Along time track other → (t : ℕ) → t ≤ time
    → moves_before other t ≡ moves_before track t
moves-along time track other along zero most =
    moves_at-start other.start other.later ∙ sym (moves_at-start track.start track.later)
moves-along time track other along (suc t) most =
    let before = moves-along time track other along t (omega (arith, most)) in
    let here = along t (omega (arith, most)) in
    let there = along (suc t) most in
    elim (cases_Bool (same_cell (cell_at track t) (cell_at track (suc t)))) [
      | inl e ↦
          let stays = same_cell-same (cell_at track t) (cell_at track (suc t)) e in
          moves-stay other.start other.later t (here ∙ stays ∙ sym there) ∙ before
          ∙ sym (moves-stay track.start track.later t stays)
      | inr e ↦
          let leaves : cell_at track t ≡ cell_at track (suc t) → ⊥ =
          λ same. false≢true
          (sym e ∙ same_cell-true (cell_at track t) (cell_at track (suc t)) same) in
          moves-leave other.start other.later t (λ same. leaves (sym here ∙ same ∙ there))
          ∙ ap (λ n. n + 1) before
          ∙ sym (moves-leave track.start track.later t leaves)
    ]

pub record SameMove (track other : Track) (k : ℕ) : Type 0 where
  pub less : k < moves other
  pub step : step_of other k ≡ step_of track k

pub same-move : (time : ℕ) (track other : Track) (k : ℕ) → Along time track other → k < moves track
    → step_of track k < time → SameMove track other k
same-move time track other k along less early =
    let found = moving_step track.start track.later k less in
    let t = found.0 in
    let one : t + 1 ≡ suc t = omega arith in
    let step : step_of track k ≡ t = ap (step_of track) (sym found.1)
    ∙ step-of_move track.start track.later t found.2 in
    let here = along t (omega (arith, step, early)) in
    let there = along (suc t) (omega (arith, step, early)) in
    let leaves : cell_at other t ≡ cell_at other (suc t) → ⊥ =
    λ same. found.2 (sym here ∙ same ∙ there) in
    let count : moves_before other t ≡ k =
    moves-along time track other along t (omega (arith, step, early)) ∙ found.1 in
    let most = moves-most other.start other.later (suc t) in
    let more = moves-leave other.start other.later t leaves in
    record {
      less = omega (arith, most, more, count);
      step =
          ap (step_of other) (sym count) ∙ step-of_move other.start other.later t leaves ∙ sym step;
    }

-- ---- who stands in a cell

stander-same : (t : ℕ) (xs ys : List Track) → length ys ≡ length xs
    → ((i : ℕ) (x y : Track) → slice_get xs i ≡ Some x → slice_get ys i ≡ Some y
    → cell_at y t ≡ cell_at x t)
    → (i : ℕ) (c : Cell) → stander_among ys i t c ≡ stander_among xs i t c
stander-same t [] [] count same i c = refl
stander-same t [] (y ∷ ys) count same i c = absurd (omega (arith, count))
stander-same t (x ∷ xs) [] count same i c = absurd (omega (arith, count))
stander-same t (x ∷ xs) (y ∷ ys) count same i c =
    ap (λ d. if same_cell d c then Some i else stander_among ys (i + 1) t c) (same 0 x y refl refl)
    ∙ ap (λ o. if same_cell (cell_at x t) c then Some i else o)
    (stander-same t xs ys (omega (arith, count)) (λ j. same (suc j)) (i + 1) c)

-- ---- all of them

module _ (time : ℕ) (before after : Timetable) (agrees : AgreesUpTo time before after) where
  pub along : (i : ℕ) (track other : Track) → track_of before i ≡ Some track
      → track_of after i ≡ Some other → Along time track other
  along i track other there now t most =
      let found = stands-track after i t (cell_at track t)
      (agrees.same i t (cell_at track t) most
      (stands-from before i t (cell_at track t) track there refl)) in
      ap (λ k. cell_at k t) (same_Some other found.0 (sym now ∙ found.1)) ∙ found.2

  pub other-track : (i : ℕ) (track : Track) → track_of before i ≡ Some track → (other : Track)
      × (track_of after i ≡ Some other)
  other-track i track there =
      let found = stands-track after i 0 (cell_at track 0)
      (agrees.same i 0 (cell_at track 0) (omega arith)
      (stands-from before i 0 (cell_at track 0) track there refl)) in
      (found.0, found.1)

  last_stand-same : (c : Cell) (t : ℕ) → t ≤ time → last_stand after c t ≡ last_stand before c t
  last_stand-same c t most = by_time t most where
    here : (t : ℕ) → t ≤ time → stander after t c ≡ stander before t c
    here t most =
        stander-same t before.tracks after.tracks agrees.agents
        (λ i x y there now. along i x y there now t most) 0 c

    by_time : (t : ℕ) → t ≤ time → last_stand after c t ≡ last_stand before c t
    by_time zero most = ap (λ o. stand_or zero o None) (here zero most)
    by_time (suc t) most =
        ap (λ o. stand_or (suc t) o (last_stand after c t)) (here (suc t) most)
        ∙ ap (stand_or (suc t) (stander before (suc t) c)) (by_time t (omega (arith, most)))

  asks-same : (i : ℕ) (c : Cell) (t : ℕ) → t < time → (o : Option Stand)
      → IsLastBelow before c (t + 1) o → need_by after i o ≡ need_by before i o
  asks-same i c t early None last = refl
  asks-same i c t early (Some stand) last =
      let found = stands-track before stand.agent stand.time c last.0 in
      let other = other-track stand.agent found.0 found.1 in
      let within = last.1 in
      let count : moves_to after stand.agent (stand.time + 1) ≡ moves_to before stand.agent
      (stand.time + 1)
      = ap (λ o. moves_in o (stand.time + 1)) other.1
      ∙ moves-along time found.0 other.0 (along stand.agent found.0 other.0 found.1 other.1)
      (stand.time + 1) (omega (arith, within, early))
      ∙ sym (ap (λ o. moves_in o (stand.time + 1)) found.1) in
      ap (λ n. if stand.agent == i then None else Some (record { agent = stand.agent; count = n }))
      count

  pub need-same : (i k : ℕ) (track other : Track) → track_of before i ≡ Some track
      → track_of after i ≡ Some other → k < moves track → step_of track k < time
      → need after i other k ≡ need before i track k
  need-same i k track other there now less early =
      let follows = along i track other there now in
      let move = same-move time track other k follows less early in
      let step = step_of track k in
      let c = cell_at track (step + 1) in
      ap (λ s. need_by after i (last_stand after (cell_at other (s + 1)) s)) move.step
      ∙ ap (λ d. need_by after i (last_stand after d step))
      (follows (step + 1) (omega (arith, early)))
      ∙ ap (need_by after i) (last_stand-same c step (omega (arith, early)))
      ∙ asks-same i c step early (last_stand before c step) (last_stand-is before c step)

-- ---- one of them after another

pub agrees-sooner : (s t : ℕ) (before after : Timetable) → s ≤ t → AgreesUpTo t before after
    → AgreesUpTo s before after
agrees-sooner s t before after less h =
    record {
      number = h.number;
      agents = h.agents;
      same = λ i r c most stands. h.same i r c
          (omega (arith, most, less)) stands;
    }

pub agrees-on : (t : ℕ) (a b c : Timetable) → AgreesUpTo t a b → AgreesUpTo t b c → AgreesUpTo t a c
agrees-on t a b c h k = record {
  number = k.number ∙ h.number;
  agents = k.agents ∙ h.agents;
  same = λ i s d most stands. k.same i s d most (h.same i s d most stands);
}

pub agrees-itself : (t : ℕ) (a : Timetable) → AgreesUpTo t a a
agrees-itself t a = record { number = refl; agents = refl; same = λ i s c most stands. stands }

-- nobody is in two cells, so it holds the other way round too
pub agrees-back : (t : ℕ) (a b : Timetable) → AgreesUpTo t a b → AgreesUpTo t b a
agrees-back t a b h = record {
  number = sym h.number;
  agents = sym h.agents;
  same = λ i s c most stands.
      (let found = stands-track b i s c stands in
      let within = slice_get_within b.tracks i found.0 found.1 in
      let track = get_or a.tracks i found.0 in
      let there : track_of a i ≡ Some track =
      slice_get-get_or a.tracks i found.0 (omega (arith, within, h.agents)) in
      stands-from a i s c track there
      (sym (along t a b h i track found.0 there found.1 s most) ∙ found.2));
}
