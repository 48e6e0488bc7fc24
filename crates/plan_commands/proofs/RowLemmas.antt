-- The cells of all agents, time by time.
use Rattle.std.proofs.Common.{◌≡◌, ℕ, zero, suc, ◌+◌, ◌-◌, ◌<◌, ◌≤◌, List, [], ◌∷◌, ◌++◌, length, map, get_or, drop, Some, arith, refl, sym, ap, ap₂, subst, ◌∙◌}
use Rattle.std.specs.Prelude.{codes, decimal, slice_get}
use Rattle.std.proofs.lemmas.Grind.{flat_map-append}
use Rattle.std.proofs.lemmas.List.{at_drop_more, get_or_default, length-map, same_lists}
use Rattle.std.proofs.Math.ListN.{get_or-map}
use Rattle.std.proofs.lemmas.Option.{slice_get-get_or}
use Rattle.grid.specs.declared.cell.Cell.{Cell}
use Rattle.text_io.specs.Text.{line_feed, ended, spaced_numbers}
use Rattle.model.specs.declared.act.Act.{Act}
use Rattle.model.specs.declared.act.Act.TheVariants.{N}
use Rattle.model.specs.Plan.{Course, longest_of, AreTracksOf}
use Rattle.model.specs.Timetable.{Track, cell_after, cell_at}
use Rattle.model.specs.Laws.Places.{same_place}
use Rattle.model.specs.Laws.Tracks.{cell_at-start}
use Rattle.plan_text.specs.Limits.{most_acts}
use Rattle.checker.specs.Code.Standing.{cell_in}
use Rattle.checker.specs.Code.Tracks.{cell_by, cells_along, track_along}
use Rattle.checker.specs.Code.Walking.{start_cells}
use Rattle.checker.specs.Laws.Walking.{no_course}
use Rattle.plan_commands.specs.PathText.{AreCellsAt, AreCellRows, count_of_times, numbers_of, path_line, path_lines}
use Rattle.plan_commands.specs.Code.Rows.{AllWalked, row_at, rows_from, rows_of_courses}

-- ---- one agent

along_more : (c : Cell) (acts : List Act) (step : ℕ) → step < length acts
    → cell_after c (cells_along c acts) (suc step) ≡ cell_by (get_or acts step N) (cell_after c (cells_along c acts) step)
along_more c [] step less = absurd (omega (arith, less))
along_more c (act ∷ acts) zero less = cell_at-start (cell_by act c) (cells_along (cell_by act c) acts)
along_more c (act ∷ acts) (suc step) less = along_more (cell_by act c) acts step (omega (arith, less))

along_past : (c : Cell) (acts : List Act) (step : ℕ) → length acts ≤ step
    → cell_after c (cells_along c acts) (suc step) ≡ cell_after c (cells_along c acts) step
along_past c [] step past = refl
along_past c (act ∷ acts) zero past = absurd (omega (arith, past))
along_past c (act ∷ acts) (suc step) past = along_past (cell_by act c) acts step (omega (arith, past))

next : (n : ℕ) → n + 1 ≡ suc n
next n = omega arith

-- where the act of a step leads
pub after_act : (course : Course) (step : ℕ) (act : Act) → step < length course.acts → act ≡ get_or course.acts step N
    → cell_at (track_along course) (step + 1) ≡ cell_by act (cell_at (track_along course) step)
after_act course step act less is =
    ap (cell_at (track_along course)) (next step) ∙ along_more course.start course.acts step less
    ∙ ap (λ a. cell_by a (cell_at (track_along course) step)) (sym is)

-- past its acts the agent stays
pub after_all : (course : Course) (step : ℕ) → length course.acts ≤ step → cell_at (track_along course) (step + 1) ≡ cell_at (track_along course) step
after_all course step past = ap (cell_at (track_along course)) (next step) ∙ along_past course.start course.acts step past

-- ---- all agents

pub start_row : (courses : List Course) → start_cells courses ≡ row_at courses 0
start_row [] = refl
start_row (course ∷ courses) =
    ap₂ (λ c cells. c ∷ cells) (sym (cell_at-start course.start (cells_along course.start course.acts))) (start_row courses)

pub row_in : (courses : List Course) (t i : ℕ) → i < length courses → cell_in (row_at courses t) i ≡ cell_at (track_along (get_or courses i no_course)) t
row_in courses t i less =
    get_or_default (row_at courses t) i _ (cell_at (track_along no_course) t) (let count = length-map courses (λ (k : Course). cell_at (track_along k) t) in omega (arith, count, less))
    ∙ get_or-map (λ (k : Course). cell_at (track_along k) t) courses i no_course

-- cells that are those of each agent are the row
pub is_row : (courses : List Course) (t : ℕ) (cells : List Cell) → length cells ≡ length courses
    → ((i : ℕ) → i < length courses → cell_in cells i ≡ cell_at (track_along (get_or courses i no_course)) t) → cells ≡ row_at courses t
is_row courses t cells count each =
    let counts = length-map courses (λ (k : Course). cell_at (track_along k) t) in
    same_lists cells (row_at courses t) (count ∙ sym counts)
    (λ k d less.
    let within : k < length courses = omega (arith, count, less) in
    get_or_default cells k d _ less ∙ each k within ∙ sym (row_in courses t k within)
    ∙ get_or_default (row_at courses t) k _ d (omega (arith, counts, within)))

-- ---- how many times

pub longest_few : (courses : List Course) → AllWalked courses → longest_of courses ≤ most_acts
longest_few [] h = omega arith
longest_few (course ∷ courses) h =
    let first = (h 0 course refl).few in
    let rest = longest_few courses (λ i other there. h (suc i) other there) in
    omega (arith, first, rest)

pub count_few : (courses : List Course) → AllWalked courses → count_of_times courses ≤ most_acts + 1
count_few [] h = omega arith
count_few (course ∷ courses) h = let most = longest_few (course ∷ courses) h in omega (arith, most)

pub count_some : (courses : List Course) → 0 < length courses → count_of_times courses ≡ longest_of courses + 1
count_some [] some = absurd (omega (arith, some))
count_some (course ∷ courses) some = refl

-- ---- lines

-- the lines from a time on, by that of the time
pub rows_next : (courses : List Course) (time count : ℕ) → time < count
    → ended (path_lines time (rows_from courses time (count - time)))
    ≡ (path_line time (row_at courses time) ++ line_feed ∷ []) ++ ended (path_lines (time + 1) (rows_from courses (time + 1) (count - (time + 1))))
rows_next courses time count less =
    let left : count - time ≡ suc (count - (time + 1)) = omega (arith, less) in
    ap (λ n. ended (path_lines time (rows_from courses time n))) left

pub rows_over : (courses : List Course) (time count : ℕ) → count ≤ time → ended (path_lines time (rows_from courses time (count - time))) ≡ []
rows_over courses time count past =
    let none : count - time ≡ 0 = omega (arith, past) in
    ap (λ n. ended (path_lines time (rows_from courses time n))) none

abbrev pub no_cell : Cell
no_cell = record { x = 0; y = 0 }

-- the numbers of the cells from one on, by those of the cell
pub cells_next : (cells : List Cell) (i : ℕ) → i < length cells
    → spaced_numbers (numbers_of (drop i cells))
    ≡ spaced_numbers ((get_or cells i no_cell).x ∷ (get_or cells i no_cell).y ∷ []) ++ spaced_numbers (numbers_of (drop (i + 1) cells))
cells_next cells i less =
    at_drop_more (λ cs. spaced_numbers (numbers_of cs)) cells i no_cell less
    ∙ flat_map-append (λ n. codes " " ++ decimal n) ((get_or cells i no_cell).x ∷ (get_or cells i no_cell).y ∷ []) (numbers_of (drop (i + 1) cells))

-- ---- what the rows are

row_is : (courses : List Course) → AllWalked courses → (t : ℕ) → AreCellsAt courses t (row_at courses t)
row_is [] h t = refl
row_is (course ∷ courses) h t =
    (cell_at (track_along course) t, row_at courses t, refl, (h 0 course refl).places t, row_is courses (λ i other there. h (suc i) other there) t)

rows_is : (courses : List Course) → AllWalked courses → (first count t : ℕ) (cells : List Cell) → slice_get (rows_from courses first count) t ≡ Some cells
    → AreCellsAt courses (first + t) cells
rows_is courses h first zero t cells there = cc
rows_is courses h first (suc count) zero cells there =
    let same : row_at courses first ≡ cells = cc in
    let at : first ≡ first + 0 = omega arith in
    subst (AreCellsAt courses (first + 0)) same (subst (λ n. AreCellsAt courses n (row_at courses first)) at (row_is courses h first))
rows_is courses h first (suc count) (suc t) cells there =
    let at : first + 1 + t ≡ first + suc t = omega arith in
    subst (λ n. AreCellsAt courses n cells) at (rows_is courses h (first + 1) count t cells there)

rows_count : (courses : List Course) (first count : ℕ) → length (rows_from courses first count) ≡ count
rows_count courses first zero = refl
rows_count courses first (suc count) = ap suc (rows_count courses (first + 1) count)

pub are_rows : (courses : List Course) → AllWalked courses → AreCellRows courses (rows_of_courses courses)
are_rows courses h = record {
  count = rows_count courses 0 (count_of_times courses);
  each = λ t cells there. (let at : 0 + t ≡ t = omega arith in
      subst (λ n. AreCellsAt courses n cells) at (rows_is courses h 0 (count_of_times courses) t cells there));
}

-- ---- one list

cells_one : (courses : List Course) (t : ℕ) (cells others : List Cell) → AreCellsAt courses t cells → AreCellsAt courses t others → cells ≡ others
cells_one [] t cells others h k = h ∙ sym k
cells_one (course ∷ courses) t cells others h k =
    h.2 ∙ ap₂ (λ c cs. c ∷ cs) (same_place h.0 k.0 (h.3 ∙ sym k.3)) (cells_one courses t h.1 k.1 h.4 k.4) ∙ sym k.2

pub rows_one : (courses : List Course) (rows others : List (List Cell)) → AreCellRows courses rows → AreCellRows courses others → rows ≡ others
rows_one courses rows others h k =
    let first = h.count in
    let second = k.count in
    same_lists rows others (first ∙ sym second)
    (λ t d less.
    let within : t < length others = omega (arith, less, first, second) in
    cells_one courses t (get_or rows t d) (get_or others t d) (h.each t (get_or rows t d) (slice_get-get_or rows t d less))
    (k.each t (get_or others t d) (slice_get-get_or others t d within)))

-- the cells at a time are those of the tracks
pub cells_of_tracks : (courses : List Course) (tracks : List Track) (t : ℕ) (cells : List Cell) → AreTracksOf courses tracks → AreCellsAt courses t cells
    → cells ≡ map (λ (track : Track). cell_at track t) tracks
cells_of_tracks [] tracks t cells h k = k ∙ sym (ap (map (λ (track : Track). cell_at track t)) h)
cells_of_tracks (course ∷ courses) tracks t cells h k =
    k.2 ∙ ap₂ (λ c cs. c ∷ cs) (same_place k.0 (cell_at h.0 t) (k.3 ∙ sym (h.3.places t))) (cells_of_tracks courses h.1 t k.1 h.4 k.4)
    ∙ sym (ap (map (λ (track : Track). cell_at track t)) h.2)
