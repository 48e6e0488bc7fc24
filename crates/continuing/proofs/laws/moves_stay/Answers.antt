-- What comes of agreeing timetables.
use Rattle.std.proofs.Common.{◌≡◌, ℕ, zero, suc, ◌<◌, List, [], ◌∷◌, length, Some, inl, inr, arith, refl, sym, ap, subst, ◌∙◌}
use Rattle.std.specs.Prelude.{MatchOption, slice_get}
use Rattle.std.proofs.lemmas.Bool.{cases_lt}
use Rattle.std.proofs.lemmas.Option.{none-some, same_Some}
use Rattle.model.specs.Plan.{position_of, Course, Plan, position_at, longest_of, IsTrackOf, AreTracksOf, IsTimetableOf}
use Rattle.model.specs.Timetable.{Track, Timetable, cell_at, step_of}
use Rattle.model.specs.Laws.Options.{some-found}
use Rattle.model.specs.Laws.Places.{same_place, position_after-end}
use Rattle.model.specs.Laws.Needs.{stands-track, stands-from}
use Rattle.model.specs.Laws.Tracks.{step-of_move, moving_step}
use Rattle.continuing.specs.Continuing.{Continues, AgreesUpTo}
use Rattle.continuing.specs.Laws.Agreeing.{moves-along, same-move, along, other-track, need-same}
use Rattle.continuing.proofs.CourseLemmas.{longest-most}
use Rattle.continuing.proofs.TrackedLemmas.{tracks-count, course-of_track, track-of_course, agrees-by}
use Rattle.continuing.proofs.laws.moves_stay.Goals as goal

pub returns-clause-agrees : goal.returns-clause-agrees
returns-clause-agrees c = λ old new before after h is will. agrees-by (longest_of old.courses) old new before after h.number h.agents h.same is will

continues : (old new : Plan) (before after : Timetable) → AgreesUpTo (longest_of old.courses) before after → IsTimetableOf old before → IsTimetableOf new after
    → Continues old new
continues old new before after h is will = record {
  number = sym will.number ∙ h.number ∙ is.number;
  agents = sym (tracks-count new.courses after.tracks will.tracks) ∙ h.agents ∙ tracks-count old.courses before.tracks is.tracks;
  same = λ i t place most at.
      (let found = some-found (slice_get old.courses i) (λ k. position_at k t ≡ place) at in
      let track = track-of_course old.courses before.tracks is.tracks i found.0 found.1 in
      let c = cell_at track.0 t in
      let now = stands-track after i t c (h.same i t c most (stands-from before i t c track.0 track.1 refl)) in
      let course = course-of_track new.courses after.tracks will.tracks i now.0 now.1 in
      subst (λ o. MatchOption o ⊥ (λ k. position_at k t ≡ place)) (sym course.there)
      (sym (course.is.places t) ∙ ap position_of now.2 ∙ track.2.places t ∙ found.2));
}

pub returns-clause-continues : goal.returns-clause-continues
returns-clause-continues c = continues

-- ---- a move within its course

early : (course : Course) (track : Track) → IsTrackOf course track → (t : ℕ) → (cell_at track t ≡ cell_at track (suc t) → ⊥) → t < length course.acts
early course track is t leaves = elim (cases_lt t (length course.acts)) [
  | inl less ↦ less
  | inr past ↦
      let end = position_after-end (position_of course.start) course.acts in
      absurd (leaves (same_place (cell_at track t) (cell_at track (suc t))
      (is.places t ∙ end t past ∙ sym (end (suc t) (omega (arith, past))) ∙ sym (is.places (suc t)))))
]

pub returns-clause-in_time : goal.returns-clause-in_time
returns-clause-in_time c = λ old before i k track is there less.
    let course = course-of_track old.courses before.tracks is.tracks i track there in
    let found = moving_step track.start track.later k less in
    let t = found.0 in
    let step : step_of track k ≡ t = ap (step_of track) (sym found.1) ∙ step-of_move track.start track.later t found.2 in
    let acts = course.course.acts in
    let most = longest-most old.courses i course.course course.there in
    let within : t < length acts = early course.course track course.is t found.2 in
    omega (arith, step, most, within)

-- ---- what stays

pub returns-clause-cells : goal.returns-clause-cells
returns-clause-cells c = λ time before after i track h there.
    let other = other-track time before after h i track there in
    let follows = along time before after h i track other.0 there other.1 in
    (other.0, other.1, λ t most. (follows t most, moves-along time track other.0 follows t most))

pub returns-clause-moves : goal.returns-clause-moves
returns-clause-moves c = λ time before after i k track other h there now less soon.
    let move = same-move time track other k (along time before after h i track other there now) less soon in
    (move.less, move.step, need-same time before after h i k track other there now less soon)
