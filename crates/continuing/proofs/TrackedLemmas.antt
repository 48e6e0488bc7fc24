-- Plans whose agents are in the same cells up to a time, and their timetables.
use Rattle.std.proofs.Common.{◌≡◌, ℕ, zero, suc, ◌≤◌, List, [], ◌∷◌, length, Some, refl, sym, ap, subst, ◌∙◌}
use Rattle.std.specs.Prelude.{MatchOption, slice_get}
use Rattle.std.proofs.lemmas.Option.{none-some, same_Some}
use Rattle.model.specs.Plan.{Position, position_of, Course, Plan, position_at, IsAt, IsTrackOf, AreTracksOf, IsTimetableOf}
use Rattle.model.specs.Timetable.{Track, Timetable, cell_at}
use Rattle.model.specs.Laws.Options.{some-found}
use Rattle.model.specs.Laws.Places.{same_place}
use Rattle.model.specs.Laws.Needs.{stands-track, stands-from}
use Rattle.continuing.specs.Continuing.{AgreesUpTo}

pub tracks-count : (courses : List Course) (tracks : List Track) → AreTracksOf courses tracks → length tracks ≡ length courses
tracks-count [] tracks h = ap length h
tracks-count (course ∷ courses) tracks h = ap length h.2 ∙ ap suc (tracks-count courses h.1 h.4)

pub record HasTrack (courses : List Course) (track : Track) (i : ℕ) : Type 0 where
  pub course : Course
  pub there : slice_get courses i ≡ Some course
  pub is : IsTrackOf course track

pub course-of_track : (courses : List Course) (tracks : List Track) → AreTracksOf courses tracks → (i : ℕ) (track : Track) → slice_get tracks i ≡ Some track
    → HasTrack courses track i
course-of_track [] tracks h i track there = absurd (none-some track (subst (λ l. slice_get l i ≡ Some track) h there))
course-of_track (course ∷ courses) tracks h i track there =
    by_place (course-of_track courses h.1 h.4) i (subst (λ l. slice_get l i ≡ Some track) h.2 there) where
      by_place : ((i : ℕ) (track : Track) → slice_get h.1 i ≡ Some track → HasTrack courses track i)
          → (i : ℕ) → slice_get (h.0 ∷ h.1) i ≡ Some track → HasTrack (course ∷ courses) track i
      by_place others zero e = record { course = course; there = refl; is = subst (IsTrackOf course) (same_Some h.0 track e) h.3 }
      by_place others (suc i) e =
          let rest = others i track e in
          record { course = rest.course; there = rest.there; is = rest.is }

pub track-of_course : (courses : List Course) (tracks : List Track) → AreTracksOf courses tracks → (i : ℕ) (course : Course) → slice_get courses i ≡ Some course
    → (track : Track) × (slice_get tracks i ≡ Some track) × IsTrackOf course track
track-of_course [] tracks h i course there = absurd (none-some course there)
track-of_course (first ∷ courses) tracks h i course there =
    let found = by_place (track-of_course courses h.1 h.4) i there in
    (found.0, ap (λ l. slice_get l i) h.2 ∙ found.1, found.2) where
      by_place : ((i : ℕ) (course : Course) → slice_get courses i ≡ Some course → (track : Track) × (slice_get h.1 i ≡ Some track) × IsTrackOf course track)
          → (i : ℕ) → slice_get (first ∷ courses) i ≡ Some course → (track : Track) × (slice_get (h.0 ∷ h.1) i ≡ Some track) × IsTrackOf course track
      by_place others zero e = (h.0, refl, subst (λ k. IsTrackOf k h.0) (same_Some first course e) h.3)
      by_place others (suc i) e = others i course e

pub agrees-by : (time : ℕ) (old new : Plan) (before after : Timetable) → new.number ≡ old.number → length new.courses ≡ length old.courses
    → ((i t : ℕ) (place : Position) → t ≤ time → IsAt old i t place → IsAt new i t place)
    → IsTimetableOf old before → IsTimetableOf new after → AgreesUpTo time before after
agrees-by time old new before after number agents same is will = record {
  number = will.number ∙ number ∙ sym is.number;
  agents = tracks-count new.courses after.tracks will.tracks ∙ agents ∙ sym (tracks-count old.courses before.tracks is.tracks);
  same = λ i t c most stands.
      (let found = stands-track before i t c stands in
      let course = course-of_track old.courses before.tracks is.tracks i found.0 found.1 in
      let place : position_at course.course t ≡ position_of c = sym (course.is.places t) ∙ ap position_of found.2 in
      let now = some-found (slice_get new.courses i) (λ k. position_at k t ≡ position_of c)
      (same i t (position_of c) most (subst (λ o. MatchOption o ⊥ (λ k. position_at k t ≡ position_of c)) (sym course.there) place)) in
      let track = track-of_course new.courses after.tracks will.tracks i now.0 now.1 in
      stands-from after i t c track.0 track.1 (same_place (cell_at track.0 t) c (track.2.places t ∙ now.2)));
}
