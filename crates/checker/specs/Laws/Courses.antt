-- The cells along the acts of a valid course, with or without what the agent waits at its end.
use Rattle.std.proofs.Common.{◌≡◌, ◌≢◌, ℕ, ℤ, pos, ◌-ℤ◌, zero, suc, ◌+◌, ◌-◌}
use Rattle.std.proofs.Common.{◌<◌, ◌≤◌, ◌⊎◌, get_or, eqb, List, [], ◌∷◌, length, map}
use Rattle.std.proofs.Common.{Some, None, inl, inr, arith, refl, sym, ap, subst, ◌∙◌}
use Rattle.std.specs.Prelude.{MatchOption, ◌&&◌, slice_get}
use Rattle.std.proofs.Math.IntN.{pos-+ℤ-pos, -ℤ_one}
use Rattle.std.proofs.lemmas.Bool.{cases_lt, cond-false, and_left}
use Rattle.std.proofs.lemmas.Bool.{and_right, ne_eqb, false_from_ne_true}
use Rattle.std.proofs.lemmas.Option.{same_Some, slice_get_cases}
use Rattle.grid.specs.declared.cell.Cell.{Cell}
use Rattle.grid.specs.Map.{Grid}
use Rattle.model.specs.declared.act.Act.{Act}
use Rattle.model.specs.declared.act.Act.TheVariants.{N, E, S, W, Wait}
use Rattle.model.specs.declared.plan_fault.PlanFault.TheVariants.{BadStart, BadMove}
use Rattle.model.specs.Timetable.{Track, same_cell, cell_after, cell_at}
use Rattle.model.specs.Costs.{cost_after}
use Rattle.model.specs.Plan.{Course, Plan, Position, position_of, moved}
use Rattle.model.specs.Plan.{position_after, position_at, course_of, IsPassable, IsLegal}
use Rattle.model.specs.Plan.{IsBadMove, IsValid, IsTrackOf, AreTracksOf}
use Rattle.model.specs.Laws.Places.{same_place}
use Rattle.model.specs.Laws.Tracks.{same_cell-same}
use Rattle.checker.specs.Code.Standing.{IsOnGrid}
use Rattle.checker.specs.Code.Tracks.{cell_by, cells_along, track_along}
use Rattle.checker.specs.Code.Resting.{after_act, rested_acts, rested}
use Rattle.checker.specs.Laws.Walking.{position_at-start, position-moved, position-stays}
use Rattle.checker.specs.Laws.Walking.{on_map_from_terrain, on_map_from_step, bad_at}

-- ---- the cell to which an act leads

one_less : (n : ℕ) → pos (suc n) -ℤ pos 1 ≡ pos n
one_less n = -ℤ_one (pos (suc n))

-- where the act leads to a cell at all, it is this one
by-place
    : (act : Act) (x y : ℕ) (d : Cell) → position_of d ≡ moved act (record { x = pos x; y = pos y })
    → position_of (cell_by act (record { x = x; y = y }))
    ≡ moved act (record { x = pos x; y = pos y })
by-place Wait x y d is = refl
by-place E x y d is =
    ap {A = ℤ} {B = Position} (λ n. record { x = n; y = pos y }) (sym (pos-+ℤ-pos x 1))
by-place S x y d is =
    ap {A = ℤ} {B = Position} (λ n. record { x = pos x; y = n }) (sym (pos-+ℤ-pos y 1))
by-place N x zero d is = absurd (let above = ap (λ p. p.y) is in cc)
by-place N x (suc y) d is =
    ap {A = ℤ} {B = Position} (λ n. record { x = pos x; y = n })
    (ap pos (let e : suc y - 1 ≡ y = omega arith in e) ∙ sym (one_less y))
by-place W zero y d is = absurd (let left = ap (λ p. p.x) is in cc)
by-place W (suc x) y d is =
    ap {A = ℤ} {B = Position} (λ n. record { x = n; y = pos y })
    (ap pos (let e : suc x - 1 ≡ x = omega arith in e) ∙ sym (one_less x))

by-moved : (act : Act) (c d : Cell) → position_of d ≡ moved act (position_of c)
    → position_of (cell_by act c) ≡ moved act (position_of c)
by-moved act c d is = by-place act c.x c.y d is

-- an act that is no wait leads elsewhere
leaves : (act : Act) (x y : ℕ) → act ≢ Wait → position_of (cell_by act (record { x = x; y = y }))
    ≡ moved act (record { x = pos x; y = pos y })
    → cell_by act (record { x = x; y = y }) ≡ record { x = x; y = y } → ⊥
leaves Wait x y acts is same = acts refl
leaves E x y acts is same = omega (arith, ap (λ c. c.x) same)
leaves S x y acts is same = omega (arith, ap (λ c. c.y) same)
leaves N x zero acts is same = absurd (let above = ap (λ p. p.y) is in cc)
leaves N x (suc y) acts is same = omega (arith, ap (λ c. c.y) same)
leaves W zero y acts is same = absurd (let left = ap (λ p. p.x) is in cc)
leaves W (suc x) y acts is same = omega (arith, ap (λ c. c.x) same)

-- ---- the cells along acts

-- at each time the agent is in a cell
abbrev pub Stays : Cell → List Act → Type 0
Stays c acts = (t : ℕ) → (d : Cell) × (position_of d ≡ position_after (position_of c) acts t)

first_place : (c : Cell) (act : Act) (acts : List Act) → Stays c (act ∷ acts)
    → position_of (cell_by act c) ≡ moved act (position_of c)
first_place c act acts stays =
    let d = stays 1 in
    by-moved act c d.0 (d.1 ∙ position_at-start (moved act (position_of c)) acts)

others_stay
    : (c : Cell) (act : Act) (acts : List Act) → Stays c (act ∷ acts) → Stays (cell_by act c) acts
others_stay c act acts stays =
    λ t. let d = stays (suc t) in
    (d.0, d.1 ∙ ap (λ p. position_after p acts t) (sym (first_place c act acts stays)))

pub along-places : (c : Cell) (acts : List Act) → Stays c acts → (t : ℕ)
    → position_of (cell_after c (cells_along c acts) t) ≡ position_after (position_of c) acts t
along-places c [] stays t = refl
along-places c (act ∷ acts) stays zero = refl
along-places c (act ∷ acts) stays (suc t) =
    along-places (cell_by act c) acts (others_stay c act acts stays) t
    ∙ ap (λ p. position_after p acts t) (first_place c act acts stays)

-- ---- without what the agent waits at its end

abbrev SameAlong : Cell → List Act → List Act → Type 0
SameAlong c xs ys = (t : ℕ) → cell_after c (cells_along c xs) t ≡ cell_after c (cells_along c ys) t

same-some : (c : Cell) (act other : Act) (xs ys : List Act)
    → SameAlong (cell_by act c) (other ∷ xs) ys → SameAlong c (act ∷ other ∷ xs) (act ∷ ys)
same-some c act other xs ys same zero = refl
same-some c act other xs ys same (suc t) = same t

same-one : (c : Cell) (act : Act) (ys : List Act) → SameAlong (cell_by act c) [] ys
    → SameAlong c (act ∷ []) (act ∷ ys)
same-one c act ys same zero = refl
same-one c act ys same (suc t) = same t

same-none : (c : Cell) (ys : List Act) → SameAlong c [] ys → SameAlong c [] (Wait ∷ ys)
same-none c ys same zero = refl
same-none c ys same (suc t) = same t

same_after : (c : Cell) (act : Act) (xs ys : List Act) → SameAlong (cell_by act c) xs ys
    → SameAlong c (after_act xs act) (act ∷ ys)
same_after c act (other ∷ xs) ys same = same-some c act other xs ys same
same_after c Wait [] ys same = same-none c ys same
same_after c N [] ys same = same-one c N ys same
same_after c E [] ys same = same-one c E ys same
same_after c S [] ys same = same-one c S ys same
same_after c W [] ys same = same-one c W ys same

pub same_rested : (c : Cell) (acts : List Act) → SameAlong c (rested_acts acts) acts
same_rested c [] = λ t. refl
same_rested c (act ∷ acts) =
    same_after c act (rested_acts acts) acts (same_rested (cell_by act c) acts)

-- ---- the agent comes to rest just at the end

abbrev RestsAtEnd : Cell → List Act → Type 0
RestsAtEnd c acts = length (cells_along c acts) ≡ cost_after c (cells_along c acts)

rests-some : (c : Cell) (act other : Act) (acts : List Act)
    → RestsAtEnd (cell_by act c) (other ∷ acts) → RestsAtEnd c (act ∷ other ∷ acts)
rests-some c act other acts ends =
    let d = cell_by act c in
    let cells = cells_along d (other ∷ acts) in
    let n = cost_after d cells in
    let more : n ≡ 0 → ⊥ = λ none. omega (arith, none, ends) in
    ap (λ k. suc k) ends ∙ (let e : suc n ≡ n + 1 = omega arith in e)
    ∙ sym (cond-false (eqb n 0 && same_cell c d) 0 (n + 1)
    (and_left (eqb n 0) (same_cell c d) (ne_eqb n 0 more)))

rests-one : (c : Cell) (act : Act) → act ≢ Wait
    → position_of (cell_by act c) ≡ moved act (position_of c) → RestsAtEnd c (act ∷ [])
rests-one c act acts is =
    sym (cond-false (eqb 0 0 && same_cell c (cell_by act c)) 0 (0 + 1)
    (and_right (eqb 0 0) (same_cell c (cell_by act c))
    (false_from_ne_true _
    (λ same. leaves act c.x c.y acts is (sym (same_cell-same c (cell_by act c) same))))))

rests_after : (c : Cell) (act : Act) (acts : List Act)
    → position_of (cell_by act c) ≡ moved act (position_of c) → RestsAtEnd (cell_by act c) acts
    → RestsAtEnd c (after_act acts act)
rests_after c act (other ∷ acts) is ends = rests-some c act other acts ends
rests_after c Wait [] is ends = refl
rests_after c N [] is ends = rests-one c N (λ e. cc) is
rests_after c E [] is ends = rests-one c E (λ e. cc) is
rests_after c S [] is ends = rests-one c S (λ e. cc) is
rests_after c W [] is ends = rests-one c W (λ e. cc) is

pub rested-rests : (c : Cell) (acts : List Act) → Stays c acts → RestsAtEnd c (rested_acts acts)
rested-rests c [] stays = refl
rested-rests c (act ∷ acts) stays =
    rests_after c act (rested_acts acts) (first_place c act acts stays)
    (rested-rests (cell_by act c) acts (others_stay c act acts stays))

-- ---- tracks

pub is_track : (course : Course) → Stays course.start course.acts
    → IsTrackOf course (track_along (rested course))
is_track course stays = record {
  at_rest = rested-rests course.start course.acts stays;
  places =
      λ t. ap position_of (same_rested course.start course.acts t)
      ∙ along-places course.start course.acts stays t;
}

abbrev AllStay : List Course → Type 0
AllStay courses =
    (i : ℕ) (course : Course) → slice_get courses i ≡ Some course → Stays course.start course.acts

pub are_tracks : (courses : List Course) → AllStay courses
    → AreTracksOf courses (map track_along (map rested courses))
are_tracks [] stay = refl
are_tracks (course ∷ courses) stay = (
  track_along (rested course),
  map track_along (map rested courses),
  refl,
  is_track course (stay 0 course refl),
  are_tracks courses (λ i other there. stay (suc i) other there),
)

-- an agent with a track is in a cell at each time
pub all_stay
    : (courses : List Course) (tracks : List Track) → AreTracksOf courses tracks → AllStay courses
all_stay [] tracks h i course there = cc
all_stay (first ∷ courses) tracks h zero course there =
    let same : first ≡ course = same_Some first course there in
    subst (λ k. Stays k.start k.acts) same (λ t. (cell_at h.0 t, h.3.places t))
all_stay (first ∷ courses) tracks h (suc i) course there = all_stay courses h.1 h.4 i course there

-- ---- a valid plan stays on the map

lt_stable : (a b : ℕ) → ((a < b → ⊥) → ⊥) → a < b
lt_stable a b h =
    elim (cases_lt a b) [
      | inl less ↦ less
      | inr most
          ↦ absurd (h (λ less. omega (arith, less, most)))
    ]

on_map_stable : (m : Grid) (c : Cell) → ((IsOnGrid m c → ⊥) → ⊥) → IsOnGrid m c
on_map_stable m c h = record {
  column = lt_stable c.x m.width (λ none. h (λ on. none on.column));
  row = lt_stable c.y m.height (λ none. h (λ on. none on.row));
}

-- the place is a cell of the map
abbrev IsOnMapAt : Grid → Position → Type 0
IsOnMapAt m place = (c : Cell) → position_of c ≡ place → IsOnGrid m c

on_map-step : (m : Grid) (course : Course) (t : ℕ) → (IsBadMove m course t → ⊥)
    → IsOnMapAt m (position_at course t) → IsOnMapAt m (position_at course (suc t))
on_map-step m course t good on c is = by_act (slice_get_cases course.acts t).1 where
  waits : (act : Act) → slice_get course.acts t ≡ Some act → act ≡ Wait → IsOnGrid m c
  waits act there wait =
      on c (is ∙ position-moved (position_of course.start) course.acts t act there
      ∙ ap (λ a. moved a (position_at course t)) wait)

  legal : (act : Act) → slice_get course.acts t ≡ Some act → act ≢ Wait → IsOnGrid m c
  legal act there acts = on_map_stable m c (λ off. good (
      let next : suc t ≡ t + 1 = omega arith in
      subst (λ o. MatchOption o ⊥ (λ a. (a ≢ Wait)
      × (IsLegal m (position_at course t) (position_at course (t + 1)) → ⊥))) (sym there) (
        acts,
        λ h. off (subst (IsOnGrid m)
            (same_place h.v c (h.is_to ∙ sym (is ∙ ap (position_at course) next)))
            (on_map_from_step m h.u h.v h.step)),
      )
      ))

  moves : (act : Act) → slice_get course.acts t ≡ Some act → IsOnGrid m c
  moves Wait there = waits Wait there refl
  moves N there = legal N there (λ e. cc)
  moves E there = legal E there (λ e. cc)
  moves S there = legal S there (λ e. cc)
  moves W there = legal W there (λ e. cc)

  by_act : ((act : Act) × (t < length course.acts) × (slice_get course.acts t ≡ Some act)
      × (get_or course.acts t act ≡ act))
      ⊎ ((length course.acts ≤ t) × (slice_get course.acts t ≡ None)) → IsOnGrid m c
  by_act (inl there) = moves there.0 there.2
  by_act (inr past) =
      on c (is ∙ position-stays (position_of course.start) course.acts t (suc t) past.0
      (omega arith))

pub on_map_at : (m : Grid) (p : Plan) (i : ℕ) (course : Course) → IsValid m p
    → course_of p i ≡ Some course → (t : ℕ) → IsOnMapAt m (position_at course t)
on_map_at m p i course valid there zero = λ c is.
    let start = position_at-start (position_of course.start) course.acts in
    on_map_stable m c (λ off. valid (BadStart i) (
    subst (λ o. MatchOption o ⊥ (λ k. IsPassable m k.start → ⊥)) (sym there)
    (λ passable. off (subst (IsOnGrid m) (same_place course.start c (sym (is ∙ start)))
    (on_map_from_terrain m course.start _ passable)))
    ))
on_map_at m p i course valid there (suc t) =
    on_map-step m course t (λ bad. valid (BadMove i t) (bad_at m p.courses t i course there bad))
    (on_map_at m p i course valid there t)
