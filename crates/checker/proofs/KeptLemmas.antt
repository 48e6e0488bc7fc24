-- What the courses of a checked plan keep, and walks along their acts.
use Rattle.std.proofs.Common.{◌≡◌, ℕ, zero, suc, ◌+◌, ◌<◌, ◌≤◌, ◌⊎◌, inl, inr, List, [], ◌∷◌, length, map, max, min, get_or, drop, Some, None, arith, refl, sym, ap, subst, ◌∙◌}
use Rattle.std.specs.Prelude.{Option, MatchOption, All, slice_get, option_map}
use Rattle.std.proofs.lemmas.Bool.{cases_lt}
use Rattle.std.proofs.lemmas.List.{drop_more}
use Rattle.std.proofs.lemmas.List.Elements.{All-get_or, All-from_recursion, All-head, All-tail}
use Rattle.std.proofs.lemmas.Option.{slice_get-map, slice_get_within, get_or_from_slice_get}
use Rattle.grid.specs.declared.cell.Cell.{Cell}
use Rattle.model.specs.declared.act.Act.{Act}
use Rattle.model.specs.declared.act.Act.TheVariants.{N}
use Rattle.model.specs.Timetable.{Track, cell_after, cell_at}
use Rattle.model.specs.Costs.{EndsAtRest, sum_of, greatest_of}
use Rattle.model.specs.Plan.{Course}
use Rattle.model.specs.Laws.Tracks.{cell_at-start}
use Rattle.plan_text.specs.Limits.{most_acts}
use Rattle.checker.specs.Checking.{Checked, steps_in, IsChecked}
use Rattle.checker.specs.Code.Tracks.{cell_by, cells_along, track_along, StaysInRange, IsCourseKept, HasCourse}

-- ---- walks along acts

pub length-along : (c : Cell) (acts : List Act) → length (cells_along c acts) ≡ length acts
length-along c [] = refl
length-along c (act ∷ acts) = ap suc (length-along (cell_by act c) acts)

pub in_range-next : (c : Cell) (act : Act) (acts : List Act) → StaysInRange c (act ∷ acts) → StaysInRange (cell_by act c) acts
in_range-next c act acts stays t = stays (suc t)

pub first_in_range : (c : Cell) (act : Act) (acts : List Act) → StaysInRange c (act ∷ acts) → ((cell_by act c).x < 65536) × ((cell_by act c).y < 65536)
first_in_range c act acts stays =
    subst (λ d. (d.x < 65536) × (d.y < 65536)) (cell_at-start (cell_by act c) (cells_along (cell_by act c) acts)) (stays 1)

-- from a cell on, the others acts lead where all acts lead from the start
abbrev pub LeadsAlong : Cell → List Act → ℕ → Cell → Type 0
LeadsAlong start acts step cell =
    (t : ℕ) → cell_after cell (cells_along cell (drop step acts)) t ≡ cell_after start (cells_along start acts) (step + t)

pub along_in_range : (start cell : Cell) (acts : List Act) (step : ℕ) → StaysInRange start acts → LeadsAlong start acts step cell → step < length acts
    → StaysInRange cell (get_or acts step N ∷ drop (step + 1) acts)
along_in_range start cell acts step stays leads less t =
    subst (λ l. ((cell_after cell (cells_along cell l) t).x < 65536) × ((cell_after cell (cells_along cell l) t).y < 65536)) (drop_more acts step N less)
    (subst (λ d. (d.x < 65536) × (d.y < 65536)) (sym (leads t)) (stays (step + t)))

pub along-next : (start cell : Cell) (acts : List Act) (step : ℕ) → step < length acts → LeadsAlong start acts step cell
    → LeadsAlong start acts (step + 1) (cell_by (get_or acts step N) cell)
along-next start cell acts step less leads t =
    let later : step + suc t ≡ step + 1 + t = omega arith in
    ap (λ l. cell_after cell (cells_along cell l) (suc t)) (sym (drop_more acts step N less)) ∙ leads (suc t) ∙ ap (cell_after start (cells_along start acts)) later

-- past its last cell the agent stays
stays-after : (c : Cell) (cells : List Cell) (t : ℕ) → length cells ≤ t → cell_after c cells t ≡ cell_after c cells (length cells)
stays-after c [] t past = refl
stays-after c (d ∷ cells) zero past = absurd (omega (arith, past))
stays-after c (d ∷ cells) (suc t) past = stays-after d cells t (omega (arith, past))

pub along-end : (start cell : Cell) (acts : List Act) (step time : ℕ) → step ≡ min (length acts) time → LeadsAlong start acts step cell
    → cell ≡ cell_after start (cells_along start acts) time
along-end start cell acts step time is leads =
    sym (cell_at-start cell (cells_along cell (drop step acts))) ∙ leads 0 ∙ by_time (cases_lt time (length acts)) where
      cells : List Cell
      cells = cells_along start acts

      by_time : (time < length acts) ⊎ (length acts ≤ time) → cell_after start (cells_along start acts) (step + 0) ≡ cell_after start (cells_along start acts) time
      by_time (inl less) = (let same : step + 0 ≡ time = omega (arith, is, less) in ap (cell_after start (cells_along start acts)) same)
      by_time (inr past) = (
          let count = length-along start acts in
          let same : step + 0 ≡ length (cells_along start acts) = omega (arith, is, past, count) in
          ap (cell_after start (cells_along start acts)) same ∙ sym (stays-after start (cells_along start acts) time (omega (arith, past, count)))
          )

-- ---- what the courses keep

all_at : {X : Type 0} (P : X → Type 0) (xs : List X) (i : ℕ) (x : X) → All P xs → slice_get xs i ≡ Some x → P x
all_at P xs i x all there =
    subst P (get_or_from_slice_get xs i x x there) (All-get_or P xs i x (slice_get_within xs i x there) all)

track-there : (tracks : List Track) (courses : List Course) (i : ℕ) (course : Course) → tracks ≡ map track_along courses → slice_get courses i ≡ Some course
    → slice_get tracks i ≡ Some (track_along course)
track-there tracks courses i course same there = ap (λ l. slice_get l i) same ∙ slice_get-map track_along courses i ∙ ap (option_map track_along) there

pub kept : (c : Checked) (courses : List Course) → c.timetable.tracks ≡ map track_along courses → IsChecked c → (i : ℕ) (course : Course)
    → slice_get courses i ≡ Some course → IsCourseKept course
kept c courses same checked i course there =
    let tracks = c.timetable.tracks in
    let at = track-there tracks courses i course same there in
    let track = track_along course in
    let count = length-along course.start course.acts in
    let wide = checked.size.width_limit in
    let high = checked.size.height_limit in
    let limit = all_at (λ k. length k.later ≤ most_acts) tracks i track (All-from_recursion (λ k. length k.later ≤ most_acts) tracks checked.step_limit) at in
    record {
      in_range = λ t. (
          let on = checked.on_map i t (cell_at track t) (subst (λ o. MatchOption o ⊥ (λ k. cell_at k t ≡ cell_at track t)) (sym at) refl) in
          let column = on.0 in
          let row = on.1 in
          (omega (arith, column, wide), omega (arith, row, high))
          );
      acts_limit = omega (arith, limit, count);
      at_rest = sym count ∙ all_at EndsAtRest tracks i track checked.at_rest at;
    }

pub has_course : (c : Checked) (courses : List Course) → c.timetable.tracks ≡ map track_along courses → IsChecked c → (i : ℕ) (o : Option Course)
    → o ≡ slice_get courses i → HasCourse c i o
has_course c courses same checked i None is =
    ap (λ l. slice_get l i) same ∙ slice_get-map track_along courses i ∙ ap (option_map track_along) (sym is)
has_course c courses same checked i (Some course) is =
    (track-there c.timetable.tracks courses i course same (sym is), kept c courses same checked i course (sym is))

-- ---- costs

-- the costs are the steps
pub sum_of-steps : (tracks : List Track) → All EndsAtRest tracks → sum_of tracks ≡ steps_in tracks
sum_of-steps [] all = refl
sum_of-steps (track ∷ tracks) all =
    let first = All-head EndsAtRest track tracks all in
    let rest = sum_of-steps tracks (All-tail EndsAtRest track tracks all) in
    omega (arith, first, rest)

no_course : Course
no_course = record { start = record { x = 0; y = 0 }; acts = [] }

-- the track of the course at a place, and the others
along-more : (courses : List Course) (i : ℕ) (course : Course) → slice_get courses i ≡ Some course
    → map track_along (drop i courses) ≡ track_along course ∷ map track_along (drop (i + 1) courses)
along-more courses i course there =
    ap (map track_along) (drop_more courses i course (slice_get_within courses i course there))
    ∙ ap (λ k. track_along k ∷ map track_along (drop (i + 1) courses)) (get_or_from_slice_get courses i course course there)

pub sum-more : (courses : List Course) (i : ℕ) (course : Course) → slice_get courses i ≡ Some course → IsCourseKept course
    → sum_of (map track_along (drop i courses)) ≡ length course.acts + sum_of (map track_along (drop (i + 1) courses))
sum-more courses i course there keeps =
    let first = keeps.at_rest in
    ap sum_of (along-more courses i course there) ∙ ap (λ n. n + sum_of (map track_along (drop (i + 1) courses))) (sym first)

pub greatest-more : (courses : List Course) (i : ℕ) (course : Course) → slice_get courses i ≡ Some course → IsCourseKept course
    → greatest_of (map track_along (drop i courses)) ≡ max (length course.acts) (greatest_of (map track_along (drop (i + 1) courses)))
greatest-more courses i course there keeps =
    let first = keeps.at_rest in
    ap greatest_of (along-more courses i course there) ∙ ap (λ n. max n (greatest_of (map track_along (drop (i + 1) courses)))) (sym first)
