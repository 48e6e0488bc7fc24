-- A plan without a bad move stays on cells, and those, up to where each agent is at rest, are its timetable.
use Rattle.std.proofs.Common.{◌≡◌, ℕ, ℤ, pos, ◌-ℤ◌, zero, suc, ◌+◌, List, [], ◌∷◌, length, Some, inl, inr, arith, refl, sym, ap, subst, ◌∙◌}
use Rattle.std.specs.Prelude.{All, MatchOption, slice_get, ◌≢◌}
use Rattle.std.proofs.Math.IntN.{pos-+ℤ-pos, -ℤ_one}
use Rattle.std.proofs.lemmas.Bool.{cases_order}
use Rattle.std.proofs.lemmas.Option.{same_Some}
use Rattle.std.proofs.lemmas.List.Elements.{All-nil, All-cons, All-head, All-tail}
use Rattle.grid.specs.declared.cell.Cell.{Cell}
use Rattle.grid.specs.Map.{Grid}
use Rattle.model.specs.declared.act.Act.{Act}
use Rattle.model.specs.declared.act.Act.TheVariants.{N, E, S, W, Wait}
use Rattle.model.specs.declared.plan_fault.PlanFault.TheVariants.{BadMove, Vertex, Swap}
use Rattle.model.specs.Timetable.{Track, Timetable, cell_after, cell_at, track_of, Stands, IsConflictFree, IsSwapFree}
use Rattle.model.specs.Costs.{EndsAtRest}
use Rattle.model.specs.Plan.{Position, position_of, moved, Course, Plan, position_after, position_at, course_of, IsLegal, IsBadMove, IsValid, IsTrackOf, AreTracksOf, IsTimetableOf}
use Rattle.model.specs.Laws.Places.{same_place, position_after-end}
use Rattle.model.specs.Laws.Needs.{stands-track}
use Rattle.model.proofs.CostLemmas.{Rests, cost-least, same_track, cells-trimmed, trimmed, trimmed-rests}
use Rattle.model.proofs.laws.timetables.Goals as goal

-- ---- one timetable

same_track_of : (course : Course) (a b : Track) → IsTrackOf course a → IsTrackOf course b → a ≡ b
same_track_of course a b h k = same_track a b h.at_rest k.at_rest (λ t. same_place _ _ (h.places t ∙ sym (k.places t)))

same_tracks : (courses : List Course) (xs ys : List Track) → AreTracksOf courses xs → AreTracksOf courses ys → xs ≡ ys
same_tracks [] xs ys h k = h ∙ sym k
same_tracks (course ∷ courses) xs ys h k =
    h.2 ∙ ap (λ track. track ∷ h.1) (same_track_of course h.0 k.0 h.3 k.3) ∙ ap (λ tracks. k.0 ∷ tracks) (same_tracks courses h.1 k.1 h.4 k.4) ∙ sym k.2

same_table : (tab other : Timetable) → tab.number ≡ other.number → tab.tracks ≡ other.tracks → tab ≡ other
same_table tab other number tracks =
    ap {A = ℕ} {B = Timetable} (λ n. record { number = n; tracks = tab.tracks }) number
    ∙ ap {A = List Track} {B = Timetable} (λ l. record { number = other.number; tracks = l }) tracks

pub returns-clause-one : goal.returns-clause-one
returns-clause-one c = λ p tab other h k.
    same_table tab other (h.number ∙ sym k.number) (same_tracks p.courses tab.tracks other.tracks h.tracks k.tracks)

-- ---- each track ends where its agent is at rest

all_end : (courses : List Course) (tracks : List Track) → AreTracksOf courses tracks → All EndsAtRest tracks
all_end [] tracks h = subst (All EndsAtRest) (sym h) (All-nil EndsAtRest)
all_end (course ∷ courses) tracks h = subst (All EndsAtRest) (sym h.2) (All-cons EndsAtRest h.0 h.1 h.3.at_rest (all_end courses h.1 h.4))

pub returns-clause-at_rest : goal.returns-clause-at_rest
returns-clause-at_rest c = λ p tab h. all_end p.courses tab.tracks h.tracks

pub returns-clause-no_longer : goal.returns-clause-no_longer
returns-clause-no_longer c = λ course track h.
    let n = length course.acts in
    let stays : Rests track.start track.later n
    = λ later past. same_place _ _ (h.places later ∙ position_after-end (position_of course.start) course.acts later past ∙ sym (h.places n)) in
    let least = cost-least track.start track.later n stays in
    let ends = h.at_rest in
    omega (arith, least, ends)

abbrev StandsIn : List Track → ℕ → ℕ → Cell → Type 0
StandsIn tracks i t c = MatchOption (slice_get tracks i) ⊥ (λ track. cell_at track t ≡ c)

same_stands : (xs ys : List Track) → All EndsAtRest xs → All EndsAtRest ys → length xs ≡ length ys
    → ((i t : ℕ) (c : Cell) → StandsIn xs i t c → StandsIn ys i t c) → xs ≡ ys
same_stands [] [] h k count stands = refl
same_stands [] (y ∷ ys) h k count stands = absurd (omega (arith, count))
same_stands (x ∷ xs) [] h k count stands = absurd (omega (arith, count))
same_stands (x ∷ xs) (y ∷ ys) h k count stands =
    ap (λ track. track ∷ xs) (same_track x y (All-head EndsAtRest x xs h) (All-head EndsAtRest y ys k) (λ t. sym (stands 0 t (cell_at x t) refl)))
    ∙ ap (λ tracks. y ∷ tracks) (same_stands xs ys (All-tail EndsAtRest x xs h) (All-tail EndsAtRest y ys k) (omega (arith, count)) (λ i t c at. stands (suc i) t c at))

pub returns-clause-same_positions : goal.returns-clause-same_positions
returns-clause-same_positions c = λ tab other h k number count stands.
    same_table tab other number (same_stands tab.tracks other.tracks h k count stands)

-- ---- no two in a cell

is_at : (courses : List Course) (tracks : List Track) → AreTracksOf courses tracks → (i t : ℕ) (c : Cell)
    → MatchOption (slice_get tracks i) ⊥ (λ track. cell_at track t ≡ c) → MatchOption (slice_get courses i) ⊥ (λ course. position_at course t ≡ position_of c)
is_at [] tracks h i t c there = absurd (subst (λ l. MatchOption (slice_get l i) ⊥ (λ track. cell_at track t ≡ c)) h there)
is_at (course ∷ courses) tracks h i t c there =
    by_place (is_at courses h.1 h.4) i (subst (λ l. MatchOption (slice_get l i) ⊥ (λ track. cell_at track t ≡ c)) h.2 there) where
      by_place : ((i t : ℕ) (c : Cell) → MatchOption (slice_get h.1 i) ⊥ (λ track. cell_at track t ≡ c)
          → MatchOption (slice_get courses i) ⊥ (λ course. position_at course t ≡ position_of c))
          → (i : ℕ) → MatchOption (slice_get (h.0 ∷ h.1) i) ⊥ (λ track. cell_at track t ≡ c)
          → MatchOption (slice_get (course ∷ courses) i) ⊥ (λ course. position_at course t ≡ position_of c)
      by_place rest zero there = sym (h.3.places t) ∙ ap position_of there
      by_place rest (suc i) there = rest i t c there

conflict_free : (m : Grid) (p : Plan) (tab : Timetable) → IsValid m p → IsTimetableOf p tab → IsConflictFree tab
conflict_free m p tab valid h i j t c at_i at_j =
    let place_i = is_at p.courses tab.tracks h.tracks i t c at_i in
    let place_j = is_at p.courses tab.tracks h.tracks j t c at_j in
    elim (cases_order i j) [
      | inl same ↦ same
      | inr (inl less) ↦ absurd (valid (Vertex i j t c) (less, place_i, place_j))
      | inr (inr more) ↦ absurd (valid (Vertex j i t c) (more, place_j, place_i))
    ]

pub returns-clause-conflict_free : goal.returns-clause-conflict_free
returns-clause-conflict_free c = conflict_free

one_cell : (tab : Timetable) (i j t : ℕ) (u v : Cell) → i ≡ j → Stands tab i t u → Stands tab j t v → u ≡ v
one_cell tab i j t u v same at_u at_v =
    let here = stands-track tab i t u at_u in
    let there = stands-track tab j t v at_v in
    let track : here.0 ≡ there.0 = same_Some here.0 there.0 (sym here.1 ∙ ap (track_of tab) same ∙ there.1) in
    sym here.2 ∙ ap (λ k. cell_at k t) track ∙ there.2

swap_free : (m : Grid) (p : Plan) (tab : Timetable) → IsValid m p → IsTimetableOf p tab → IsSwapFree tab
swap_free m p tab valid h i j t u v apart i_from i_to j_from j_to =
    let at = is_at p.courses tab.tracks h.tracks in
    let different : position_of u ≢ position_of v = λ e. apart (same_place u v e) in
    elim (cases_order i j) [
      | inl same ↦ apart (one_cell tab i j t u v same i_from j_from)
      | inr (inl less) ↦
          valid (Swap i j t) (less, position_of u, position_of v, different, at i t u i_from, at i (t + 1) v i_to, at j t v j_from, at j (t + 1) u j_to)
      | inr (inr more) ↦
          valid (Swap j i t)
          (more, position_of v, position_of u, λ e. different (sym e), at j t v j_from, at j (t + 1) u j_to, at i t u i_from, at i (t + 1) v i_to)
    ]

pub returns-clause-swap_free : goal.returns-clause-swap_free
returns-clause-swap_free c = swap_free

-- ---- some timetable

-- a step that isn't refused leads to a cell
abbrev IsAllowed : Grid → Act → Position → Position → Type 0
IsAllowed m act from to = act ≢ Wait → (IsLegal m from to → ⊥) → ⊥

off_the_top : (m : Grid) (from : Position) (x : ℤ) → IsLegal m from (record { x = x; y = pos 0 -ℤ pos 1 }) → ⊥
off_the_top m from x h = let below = ap (λ p. p.y) h.is_to in cc

off_the_side : (m : Grid) (from : Position) (y : ℤ) → IsLegal m from (record { x = pos 0 -ℤ pos 1; y = y }) → ⊥
off_the_side m from y h = let left = ap (λ p. p.x) h.is_to in cc

one_less : (n : ℕ) → pos (suc n) -ℤ pos 1 ≡ pos n
one_less n = -ℤ_one (pos (suc n))

next_cell : (m : Grid) (act : Act) (x y : ℕ) → IsAllowed m act (record { x = pos x; y = pos y }) (moved act (record { x = pos x; y = pos y }))
    → (v : Cell) × (position_of v ≡ moved act (record { x = pos x; y = pos y }))
next_cell m Wait x y h = (record { x = x; y = y }, refl)
next_cell m E x y h = (record { x = x + 1; y = y }, ap {A = ℤ} {B = Position} (λ n. record { x = n; y = pos y }) (sym (pos-+ℤ-pos x 1)))
next_cell m S x y h = (record { x = x; y = y + 1 }, ap {A = ℤ} {B = Position} (λ n. record { x = pos x; y = n }) (sym (pos-+ℤ-pos y 1)))
next_cell m N x zero h = absurd (h (λ e. cc) (off_the_top m _ (pos x)))
next_cell m N x (suc y) h = (record { x = x; y = y }, ap {A = ℤ} {B = Position} (λ n. record { x = pos x; y = n }) (sym (one_less y)))
next_cell m W zero y h = absurd (h (λ e. cc) (off_the_side m _ (pos y)))
next_cell m W (suc x) y h = (record { x = x; y = y }, ap {A = ℤ} {B = Position} (λ n. record { x = n; y = pos y }) (sym (one_less x)))

position_at-start : (p : Position) (acts : List Act) → position_after p acts 0 ≡ p
position_at-start p [] = refl
position_at-start p (a ∷ acts) = refl

abbrev AllAllowed : Grid → Position → List Act → Type 0
AllAllowed m p acts = (s : ℕ) (act : Act) → slice_get acts s ≡ Some act → IsAllowed m act (position_after p acts s) (position_after p acts (s + 1))

track_from : (m : Grid) (u : Cell) (acts : List Act) → AllAllowed m (position_of u) acts
    → (later : List Cell) × ((t : ℕ) → position_of (cell_after u later t) ≡ position_after (position_of u) acts t)
track_from m u [] allowed = ([], λ t. refl)
track_from m u (act ∷ acts) allowed =
    let p = position_of u in
    let first = allowed 0 act refl in
    let onto : position_after p (act ∷ acts) (0 + 1) ≡ moved act p = position_at-start (moved act p) acts in
    let next = next_cell m act u.x u.y (subst (λ q. IsAllowed m act p q) onto first) in
    let v = next.0 in
    let others : AllAllowed m (position_of v) acts
    = λ s a e. subst (λ q. IsAllowed m a (position_after q acts s) (position_after q acts (s + 1))) (sym next.1) (allowed_later m p act acts allowed s a e) in
    let rest = track_from m v acts others in
    (v ∷ rest.0, places u v rest.0 acts act next.1 rest.1) where
      allowed_later : (m : Grid) (p : Position) (act : Act) (acts : List Act) → AllAllowed m p (act ∷ acts)
          → (s : ℕ) (a : Act) → slice_get acts s ≡ Some a → IsAllowed m a (position_after (moved act p) acts s) (position_after (moved act p) acts (s + 1))
      allowed_later m p act acts allowed s a e =
          let one : suc s + 1 ≡ suc (s + 1) = omega arith in
          subst (λ n. IsAllowed m a (position_after (moved act p) acts s) (position_after p (act ∷ acts) n)) one (allowed (suc s) a e)

      places : (u v : Cell) (later : List Cell) (acts : List Act) (act : Act) → position_of v ≡ moved act (position_of u)
          → ((t : ℕ) → position_of (cell_after v later t) ≡ position_after (position_of v) acts t)
          → (t : ℕ) → position_of (cell_after u (v ∷ later) t) ≡ position_after (position_of u) (act ∷ acts) t
      places u v later acts act e h zero = refl
      places u v later acts act e h (suc t) = h t ∙ ap (λ q. position_after q acts t) e

tracks_from : (m : Grid) (courses : List Course) → ((i : ℕ) (course : Course) → slice_get courses i ≡ Some course → AllAllowed m (position_of course.start) course.acts)
    → (tracks : List Track) × AreTracksOf courses tracks
tracks_from m [] allowed = ([], refl)
tracks_from m (course ∷ courses) allowed =
    let cells = track_from m course.start course.acts (allowed 0 course refl) in
    let track : Track = record { start = course.start; later = trimmed course.start cells.0 } in
    let is_track : IsTrackOf course track = record {
      at_rest = trimmed-rests course.start cells.0;
      places = λ t. ap position_of (cells-trimmed course.start cells.0 t) ∙ cells.1 t;
    } in
    let rest = tracks_from m courses (λ i other e. allowed (suc i) other e) in
    (track ∷ rest.0, (track, rest.0, refl, is_track, rest.1))

allowed_by : (m : Grid) (p : Plan) → IsValid m p → (i : ℕ) (course : Course) → course_of p i ≡ Some course → AllAllowed m (position_of course.start) course.acts
allowed_by m p valid i course e s act f moves illegal =
    valid (BadMove i s)
    (subst (λ o. MatchOption o ⊥ (λ k. IsBadMove m k s)) (sym e)
    (subst (λ o. MatchOption o ⊥ (λ a. (a ≢ Wait) × (IsLegal m (position_at course s) (position_at course (s + 1)) → ⊥))) (sym f) (moves, illegal)))

pub returns-clause-some : goal.returns-clause-some
returns-clause-some c = λ m p valid.
    let found = tracks_from m p.courses (allowed_by m p valid) in
    (record { number = p.number; tracks = found.0 }, record { number = refl; tracks = found.1 })
