-- What is left of a course is the rest of its way.
use Rattle.std.proofs.Common.{◌≡◌, ◌≢◌, ◌∙◌, ℕ, zero, suc, ◌+◌, ◌<◌, ◌≤◌, length, true, false, inl, inr, ap, sym, arith}
use Rattle.std.specs.Prelude.{◌⊎◌, if◌then◌else◌, nat_lt}
use Rattle.std.proofs.lemmas.Bool.{cases_Bool, cases_lt, cond-true, cond-false, le-ltb, lt-ltb}
use Rattle.model.specs.Laws.Places.{same_place}
use Rattle.model.specs.Laws.Tracks.{cell-visit, length-path, moves-leave, moves-most, moves-stay, moves-rise, moves_at-start, moving_step, same_cell-same, same_cell-true, step-of_move, visit_time}
use Rattle.model.specs.Plan.{Course, IsTrackOf}
use Rattle.model.specs.Rules.{path_cell}
use Rattle.model.specs.Timetable.{Track, cell_at, moves, moves_before, same_cell, step_of}
use Rattle.fleet_commands.specs.LeftPlan.{left_course}
use Rattle.fleet_commands.specs.LeftWays.{IsRestOf}
use Rattle.fleet_commands.proofs.LeftWalks.{left-goes, left-waits}

-- an agent stays in a step, or makes its next move
pub step-either : (track : Track) (t : ℕ) → ((cell_at track t ≡ cell_at track (suc t)) × (moves_before track (suc t) ≡ moves_before track t))
    ⊎ ((cell_at track t ≢ cell_at track (suc t)) × (moves_before track (suc t) ≡ moves_before track t + 1))
step-either track t = elim (cases_Bool (same_cell (cell_at track t) (cell_at track (suc t)))) [
  | inl same ↦ (let e = same_cell-same (cell_at track t) (cell_at track (suc t)) same in inl (e, moves-stay track.start track.later t e))
  | inr other ↦
      (let leaves : cell_at track t ≢ cell_at track (suc t)
      = λ e. (let bad : true ≡ false = sym (same_cell-true (cell_at track t) (cell_at track (suc t)) e) ∙ other in cc) in
      inr (leaves, moves-leave track.start track.later t leaves))
]

-- the cell at a time is that of the path to which so many moves have led
pub path-at : (track : Track) (t : ℕ) → path_cell track (moves_before track t) ≡ cell_at track t
path-at track t = cell-visit track.start track.later t track.start

-- each move leads to another cell
pub path-goes-on : (track : Track) (k : ℕ) → k < moves track → path_cell track k ≢ path_cell track (k + 1)
path-goes-on track k less same =
    let move = moving_step track.start track.later k less in
    let t = move.0 in
    let next = moves-leave track.start track.later t move.2 in
    let count = move.1 in
    let more : moves_before track (suc t) ≡ k + 1 = omega (arith, next, count) in
    move.2 (sym (path-at track t) ∙ ap (path_cell track) count ∙ same ∙ ap (path_cell track) (sym more) ∙ path-at track (suc t))

module _ (course : Course) (track : Track) (is : IsTrackOf course track) (begun from : ℕ) (within : begun ≤ moves track) (early : moves_before track from ≤ begun) (after : Track)
    (new : IsTrackOf (left_course track begun from course.acts) after) where
  -- how many moves of the track lead where the agent is at a time of the new plan
  abbrev reached : ℕ → ℕ
  reached t = if nat_lt begun (moves_before track (from + t)) then moves_before track (from + t) else begun

  low : (t : ℕ) → moves_before track (from + t) ≤ begun → reached t ≡ begun
  low t few = cond-false (nat_lt begun (moves_before track (from + t))) (moves_before track (from + t)) begun (le-ltb begun (moves_before track (from + t)) few)

  high : (t : ℕ) → begun ≤ moves_before track (from + t) → reached t ≡ moves_before track (from + t)
  high t many = elim (cases_lt begun (moves_before track (from + t))) [
    | inl less ↦ cond-true (nat_lt begun (moves_before track (from + t))) (moves_before track (from + t)) begun (lt-ltb begun (moves_before track (from + t)) less)
    | inr most ↦ (let same : begun ≡ moves_before track (from + t) = omega (arith, many, most) in low t most ∙ same)
  ]

  pub cell-reached : (t : ℕ) → cell_at after t ≡ path_cell track (reached t)
  cell-reached t = elim (cases_lt begun (moves_before track (from + t))) [
    | inl less ↦
        (let many : begun ≤ moves_before track (from + t) = omega (arith, less) in
        same_place (cell_at after t) (cell_at track (from + t)) (new.places t ∙ left-goes course track is begun from within early t many) ∙ sym (path-at track (from + t))
        ∙ ap (path_cell track) (sym (high t many)))
    | inr few ↦
        same_place (cell_at after t) (path_cell track begun) (new.places t ∙ left-waits course track is begun from within early t few) ∙ ap (path_cell track) (sym (low t few))
  ]

  most-reached : (t : ℕ) → reached t ≤ moves track
  most-reached t =
      let most = moves-most track.start track.later (from + t) in
      elim (cases_lt begun (moves_before track (from + t))) [
        | inl less ↦ (let e = high t (omega (arith, less)) in omega (arith, e, most))
        | inr few ↦ (let e = low t few in omega (arith, e, within))
      ]

  -- in a step of the new plan the agent stays, or makes the next move of the track, so many steps later
  abbrev Goes : ℕ → Type 0
  Goes t = (reached (suc t) ≡ reached t + 1) × (moves_before track (from + t) ≡ reached t) × (cell_at track (from + t) ≢ cell_at track (suc (from + t)))

  reached-next : (t : ℕ) → (reached (suc t) ≡ reached t) ⊎ Goes t
  reached-next t =
      let further : from + suc t ≡ suc (from + t) = omega arith in
      let count : moves_before track (from + suc t) ≡ moves_before track (suc (from + t)) = ap (moves_before track) further in
      elim (step-either track (from + t)) [
        | inl stays ↦
            (let e = stays.1 in
            inl (elim (cases_lt begun (moves_before track (from + t))) [
              | inl less ↦ (let one = high (suc t) (omega (arith, count, e, less)) in let other = high t (omega (arith, less)) in omega (arith, one, other, count, e))
              | inr few ↦ low (suc t) (omega (arith, count, e, few)) ∙ sym (low t few)
            ]))
        | inr goes ↦
            (let e = goes.1 in
            elim (cases_lt (moves_before track (from + t)) begun) [
              | inl less ↦ inl (low (suc t) (omega (arith, count, e, less)) ∙ sym (low t (omega (arith, less))))
              | inr many ↦
                  (let one = high (suc t) (omega (arith, count, e, many)) in
                  let other = high t many in
                  inr (omega (arith, one, other, count, e), sym other, goes.0))
            ])
      ]

  pub count-reached : (t : ℕ) → moves_before after t + begun ≡ reached t
  count-reached zero =
      let none = moves_at-start after.start after.later in
      let same : from + 0 ≡ from = omega arith in
      let first = ap (moves_before track) same in
      let e = low 0 (omega (arith, first, early)) in
      omega (arith, none, e)
  count-reached (suc t) =
      let before = count-reached t in
      elim (step-either after t) [
        | inl stays ↦
            (let count = stays.1 in
            elim (reached-next t) [
              | inl same ↦ omega (arith, before, count, same)
              | inr goes ↦
                  (let most = most-reached (suc t) in
                  let next = goes.0 in
                  absurd (path-goes-on track (reached t) (omega (arith, most, next)) (sym (cell-reached t) ∙ stays.0 ∙ cell-reached (suc t) ∙ ap (path_cell track) next)))
            ])
        | inr leaves ↦
            (let count = leaves.1 in
            elim (reached-next t) [
              | inl same ↦ absurd (leaves.0 (cell-reached t ∙ ap (path_cell track) (sym same) ∙ sym (cell-reached (suc t))))
              | inr goes ↦ (let next = goes.0 in omega (arith, before, count, next))
            ])
      ]

  all-left : moves after + begun ≡ moves track
  all-left =
      let time = length track.later in
      let last = count-reached time in
      let most = moves-most after.start after.later time in
      let end = count-reached (length after.later) in
      let few = most-reached (length after.later) in
      let rise : moves track ≤ moves_before track (from + time) = moves-rise track.start track.later time (from + time) (omega arith) in
      let top = moves-most track.start track.later (from + time) in
      let reach = high time (omega (arith, rise, within)) in
      omega (arith, last, most, end, few, rise, top, reach)

  -- so its way is the rest of the track's
  pub rest-of : IsRestOf begun from track after
  rest-of = record {
    all = all-left;
    cells = λ k within_it.
        (let long = length-path after.start after.later in
        let time = visit_time after.start after.later k (omega (arith, within_it, long)) in
        let count = count-reached time.0 in
        let number = time.1 in
        let same : reached time.0 ≡ begun + k = omega (arith, count, number) in
        ap (path_cell after) (sym number) ∙ path-at after time.0 ∙ cell-reached time.0 ∙ ap (path_cell track) same);
    steps = λ k less.
        (let move = moving_step after.start after.later k less in
        let t = move.0 in
        let number = move.1 in
        let count = count-reached t in
        elim (reached-next t) [
          | inl same ↦ absurd (move.2 (cell-reached t ∙ ap (path_cell track) (sym same) ∙ sym (cell-reached (suc t))))
          | inr goes ↦
              (let at = goes.1 in
              let here : step_of after k ≡ t = ap (step_of after) (sym number) ∙ step-of_move after.start after.later t move.2 in
              let there = step-of_move track.start track.later (from + t) goes.2 in
              let same : moves_before track (from + t) ≡ begun + k = omega (arith, at, count, number) in
              let step : step_of track (begun + k) ≡ from + t = ap (step_of track) (sym same) ∙ there in
              omega (arith, here, step))
        ]);
  }

  -- a move of the new plan is one of the old plan, so many steps later
  pub goes-along : (t : ℕ) → cell_at after t ≢ cell_at after (suc t) → (cell_at after t ≡ cell_at track (from + t)) × (cell_at after (suc t) ≡ cell_at track (suc (from + t)))
  goes-along t leaves = elim (reached-next t) [
    | inl same ↦ absurd (leaves (cell-reached t ∙ ap (path_cell track) (sym same) ∙ sym (cell-reached (suc t))))
    | inr goes ↦
        (let next = moves-leave track.start track.later (from + t) goes.2 in
        let number = goes.0 in
        let count = goes.1 in
        let same : reached (suc t) ≡ moves_before track (suc (from + t)) = omega (arith, number, count, next) in
        (cell-reached t ∙ ap (path_cell track) (sym count) ∙ path-at track (from + t), cell-reached (suc t) ∙ ap (path_cell track) same ∙ path-at track (suc (from + t))))
  ]
