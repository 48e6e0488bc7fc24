-- The tracks of a valid plan keep what a checked plan keeps.
use Rattle.std.proofs.Common.{◌≡◌, ℕ, zero, suc, ◌+◌, ◌≤◌, List, [], ◌∷◌, length, map, Some, arith, refl, sym, ap, subst, ◌∙◌}
use Rattle.std.specs.Prelude.{MatchOption, slice_get}
use Rattle.std.specs.List.{AllByRecursion}
use Rattle.grid.specs.declared.cell.Cell.{Cell}
use Rattle.grid.specs.Map.{Grid, IsMap}
use Rattle.model.specs.Timetable.{Track, Timetable, cell_at, IsConflictFree, IsSwapFree}
use Rattle.model.specs.Costs.{AllEndAtRest}
use Rattle.model.specs.Plan.{Course, Plan, position_of, position_at, IsValid, IsTrackOf, AreTracksOf, IsTimetableOf}
use Rattle.plan_text.specs.Limits.{most_acts, acts_in, IsCourse, IsPlan}
use Rattle.checker.specs.Checking.{Checked, steps_in, IsChecked, IsCheckOf}
use Rattle.checker.specs.Code.Tracks.{track_along}
use Rattle.checker.specs.Code.Resting.{rested}
use Rattle.checker.specs.Laws.Courses.{are_tracks, all_stay, on_map_at}

-- a track is no longer than the acts
abbrev NoLonger : Type 0
NoLonger = (course : Course) (track : Track) → IsTrackOf course track → length track.later ≤ length course.acts

-- the laws that are cited here
pub record TimetableLaws : Type 0 where
  pub some : (m : Grid) (p : Plan) → IsValid m p → (tt : Timetable) × IsTimetableOf p tt
  pub conflict_free : (m : Grid) (p : Plan) (tt : Timetable) → IsValid m p → IsTimetableOf p tt → IsConflictFree tt
  pub swap_free : (m : Grid) (p : Plan) (tt : Timetable) → IsValid m p → IsTimetableOf p tt → IsSwapFree tt
  pub at_rest : (p : Plan) (tt : Timetable) → IsTimetableOf p tt → AllEndAtRest tt
  pub no_longer : NoLonger

length-tracks : (courses : List Course) (tracks : List Track) → AreTracksOf courses tracks → length tracks ≡ length courses
length-tracks [] tracks h = ap length h
length-tracks (course ∷ courses) tracks h = ap length h.2 ∙ ap suc (length-tracks courses h.1 h.4)

each_limit : NoLonger → (courses : List Course) (tracks : List Track) → AreTracksOf courses tracks → AllByRecursion IsCourse courses
    → AllByRecursion (λ track. length track.later ≤ most_acts) tracks
each_limit short [] tracks h within = subst (AllByRecursion (λ track. length track.later ≤ most_acts)) (sym h) tt
each_limit short (course ∷ courses) tracks h within =
    let most = within.0.acts_limit in
    let less = short course h.0 h.3 in
    subst (AllByRecursion (λ track. length track.later ≤ most_acts)) (sym h.2) (omega (arith, most, less), each_limit short courses h.1 h.4 within.1)

all_limit : NoLonger → (courses : List Course) (tracks : List Track) → AreTracksOf courses tracks → steps_in tracks ≤ acts_in courses
all_limit short [] tracks h = subst (λ l. steps_in l ≤ 0) (sym h) (omega arith)
all_limit short (course ∷ courses) tracks h =
    let less = short course h.0 h.3 in
    let rest = all_limit short courses h.1 h.4 in
    subst (λ l. steps_in l ≤ length course.acts + acts_in courses) (sym h.2) (omega (arith, less, rest))

-- who stands in a cell is there by its course
stands_by : (courses : List Course) (tracks : List Track) → AreTracksOf courses tracks → (i t : ℕ) (cell : Cell)
    → MatchOption (slice_get tracks i) ⊥ (λ track. cell_at track t ≡ cell)
    → (course : Course) × (slice_get courses i ≡ Some course) × (position_of cell ≡ position_at course t)
stands_by [] tracks h i t cell there = absurd (subst (λ l. MatchOption (slice_get l i) ⊥ (λ track. cell_at track t ≡ cell)) h there)
stands_by (course ∷ courses) tracks h i t cell there =
    by_place (stands_by courses h.1 h.4) i (subst (λ l. MatchOption (slice_get l i) ⊥ (λ track. cell_at track t ≡ cell)) h.2 there) where
      by_place : ((i t : ℕ) (cell : Cell) → MatchOption (slice_get h.1 i) ⊥ (λ track. cell_at track t ≡ cell)
          → (other : Course) × (slice_get courses i ≡ Some other) × (position_of cell ≡ position_at other t))
          → (i : ℕ) → MatchOption (slice_get (h.0 ∷ h.1) i) ⊥ (λ track. cell_at track t ≡ cell)
          → (other : Course) × (slice_get (course ∷ courses) i ≡ Some other) × (position_of cell ≡ position_at other t)
      by_place rest zero there = (course, refl, ap position_of (sym there) ∙ h.3.places t)
      by_place rest (suc i) there = rest i t cell there

abbrev timetable_along : Plan → Timetable
timetable_along p = record { number = p.number; tracks = map track_along (map rested p.courses) }

abbrev checked_on : Grid → Plan → Checked
checked_on m p = record { width = m.width; height = m.height; timetable = timetable_along p }

is_timetable : TimetableLaws → (m : Grid) (p : Plan) → IsValid m p → IsTimetableOf p (timetable_along p)
is_timetable laws m p valid =
    let tt = laws.some m p valid in
    record { number = refl; tracks = are_tracks p.courses (all_stay p.courses tt.0.tracks tt.1.tracks) }

pub is_check : TimetableLaws → (m : Grid) (p : Plan) → IsValid m p → IsCheckOf m p (checked_on m p)
is_check laws m p valid = record { valid = valid; timetable = is_timetable laws m p valid; width = refl; height = refl }

pub is_checked : TimetableLaws → (m : Grid) (p : Plan) → IsMap m → IsPlan p → IsValid m p → IsChecked (checked_on m p)
is_checked laws m p map_is within valid =
    let is = is_timetable laws m p valid in
    let agents = length-tracks p.courses (timetable_along p).tracks is.tracks in
    let steps = all_limit laws.no_longer p.courses (timetable_along p).tracks is.tracks in
    let agent_limit = within.agent_limit in
    let acts_limit = within.acts_limit in
    record {
      size = map_is.size;
      on_map = λ i t cell there. (
          let course = stands_by p.courses (timetable_along p).tracks is.tracks i t cell there in
          let on = on_map_at m p i course.0 valid course.1 t cell course.2 in
          (on.column, on.row)
          );
      conflict_free = laws.conflict_free m p (timetable_along p) valid is;
      swap_free = laws.swap_free m p (timetable_along p) valid is;
      at_rest = laws.at_rest p (timetable_along p) is;
      agent_limit = omega (arith, agents, agent_limit);
      step_limit = each_limit laws.no_longer p.courses (timetable_along p).tracks is.tracks within.courses;
      all_steps_limit = omega (arith, steps, acts_limit);
    }
