-- The bounds of all agents hold together.
use Rattle.std.proofs.Common.{◌≡◌, ◌∙◌, ℕ, zero, suc, ◌≤◌, List, [], ◌∷◌, ◌++◌, length, Some, None, inl, inr, arith, refl, sym, ap, subst}
use Rattle.std.specs.Option.{option_map}
use Rattle.std.specs.Prelude.{Option, slice_get, sum}
use Rattle.std.proofs.lemmas.Bool.{cases_lt}
use Rattle.std.proofs.lemmas.List.{get_or_append_left, get_or_push, length-append}
use Rattle.std.proofs.lemmas.List.Sums.{sum_by-cons}
use Rattle.std.proofs.lemmas.Option.{get_or_from_slice_get, none-some, same_Some, slice_get-get_or, slice_get_within}
use Rattle.grid.specs.Map.{Grid}
use Rattle.least_steps.specs.LeastSteps.{IsFewest}
use Rattle.grid.specs.declared.cell.Cell.{Cell}
use Rattle.model.specs.Laws.Tracks.{cell_at-start}
use Rattle.model.specs.Costs.{cost, greatest_of, sum_of}
use Rattle.model.specs.Plan.{AreTracksOf, Course, IsTimetableOf, IsTrackOf, IsValid, Plan}
use Rattle.model.specs.Timetable.{Timetable, Track, cell_at}
use Rattle.bounding.specs.Bounding.{AreBounds, BoundsAll, HaveSameEnds, greatest_bound, last_cell}
use Rattle.bounding.specs.Code.Searching.{IsBoundAt}
use Rattle.bounding.proofs.LeadingLemmas.{costs_more}

course_at : (courses : List Course) (tracks : List Track) → AreTracksOf courses tracks → (i : ℕ) (track : Track) → slice_get tracks i ≡ Some track
    → (course : Course) × (slice_get courses i ≡ Some course) × IsTrackOf course track
course_at [] tracks are i track is = absurd (none-some track (ap (λ k. slice_get k i) (sym are) ∙ is))
course_at (course ∷ courses) tracks are zero track is =
    let own = same_Some are.0 track (ap (λ k. slice_get k 0) (sym are.2) ∙ is) in (course, refl, subst (IsTrackOf course) own are.3)
course_at (course ∷ courses) tracks are (suc i) track is =
    course_at courses are.1 are.4 i track (ap (λ k. slice_get k (suc i)) (sym are.2) ∙ is)

-- each agent costs as much as it needs at least
abbrev AllCostMore : Grid → List Track → Type 0
AllCostMore m tracks = (i : ℕ) (track : Track) → slice_get tracks i ≡ Some track → (b : ℕ) → IsFewest m track.start (last_cell track) b → b ≤ cost track

all_cost_more : (m : Grid) (p : Plan) (tt : Timetable) → IsValid m p → IsTimetableOf p tt → AllCostMore m tt.tracks
all_cost_more m p tt valid is i track there b fewest =
    let c = course_at p.courses tt.tracks is.tracks i track there in costs_more m p i c.0 track valid c.1 c.2 b fewest

all_together : (m : Grid) (tracks others : List Track) (bounds : List ℕ) → AreBounds m tracks bounds → HaveSameEnds tracks others → AllCostMore m others
    → (sum bounds ≤ sum_of others) × (greatest_bound bounds ≤ greatest_of others)
all_together m [] others bounds are same more = subst (λ k. (sum k ≤ sum_of others) × (greatest_bound k ≤ greatest_of others)) (sym are) (omega arith, omega arith)
all_together m (track ∷ tracks) others bounds are same more =
    let b = are.0 in
    let other = same.0 in
    let fewest = subst (λ c. IsFewest m other.start c b) (sym same.4) (subst (λ c. IsFewest m c (last_cell track) b) (sym same.3) are.3) in
    let own = more 0 other (ap (λ k. slice_get k 0) same.2) b fewest in
    let rest = all_together m tracks same.1 are.1 are.4 same.5 (λ i t there. more (suc i) t (ap (λ k. slice_get k (suc i)) same.2 ∙ there)) in
    let less = rest.0 in
    let no_greater = rest.1 in
    let all = sum_by-cons (λ k. k) b are.1 in
    subst (λ k. (sum bounds ≤ sum_of k) × (greatest_bound bounds ≤ greatest_of k)) (sym same.2)
    (subst (λ k. (sum k ≤ sum_of (other ∷ same.1)) × (greatest_bound k ≤ greatest_of (other ∷ same.1))) (sym are.2)
    (omega (arith, own, less, all), omega (arith, own, no_greater)))

pub bounds_all : (m : Grid) (tracks : List Track) (bounds : List ℕ) → AreBounds m tracks bounds → BoundsAll m tracks bounds
bounds_all m tracks bounds are = λ p tt valid is same. all_together m tracks tt.tracks bounds are same (all_cost_more m p tt valid is)

-- what was found for each agent are the bounds
pub found_all : (m : Grid) (tracks : List Track) (bounds : List ℕ) → length bounds ≡ length tracks
    → ((i : ℕ) (b : ℕ) → slice_get bounds i ≡ Some b → IsBoundAt m tracks i b) → AreBounds m tracks bounds
found_all m [] [] count found = refl
found_all m [] (b ∷ bounds) count found = absurd (omega (arith, count))
found_all m (track ∷ tracks) [] count found = absurd (omega (arith, count))
found_all m (track ∷ tracks) (b ∷ bounds) count found =
    let own = found 0 b refl in (
      b,
      bounds,
      refl,
      subst (λ k. IsFewest m k.start (last_cell k) b) (sym (same_Some track own.0 own.1)) own.2,
      found_all m tracks bounds (omega (arith, count)) (λ i c is. found (suc i) c is),
    )

-- what leads from the start of an agent to where it is when it comes to rest
pub bound_at : (m : Grid) (tracks : List Track) (i : ℕ) (start last : Cell) (n b : ℕ) (o : Option Track) → slice_get tracks i ≡ o
    → Some start ≡ option_map (λ track. cell_at track 0) o → Some n ≡ option_map cost o → Some last ≡ option_map (λ track. cell_at track n) o
    → IsFewest m start last b → IsBoundAt m tracks i b
bound_at m tracks i start last n b None there is_start is_cost is_last fewest = absurd (none-some start (sym is_start))
bound_at m tracks i start last n b (Some track) there is_start is_cost is_last fewest =
    let from : start ≡ track.start = same_Some start (cell_at track 0) is_start ∙ cell_at-start track.start track.later in
    let to : last ≡ last_cell track = same_Some last (cell_at track n) is_last ∙ ap (cell_at track) (same_Some n (cost track) is_cost) in
    (track, there, subst (λ c. IsFewest m c (last_cell track) b) from (subst (λ c. IsFewest m start c b) to fewest))

-- one agent more
pub found_next : (m : Grid) (tracks : List Track) (bounds : List ℕ) (b : ℕ) → ((i c : ℕ) → slice_get bounds i ≡ Some c → IsBoundAt m tracks i c)
    → IsBoundAt m tracks (length bounds) b → (i c : ℕ) → slice_get (bounds ++ b ∷ []) i ≡ Some c → IsBoundAt m tracks i c
found_next m tracks bounds b found own i c is =
    let within = slice_get_within (bounds ++ b ∷ []) i c is in
    let all = length-append bounds (b ∷ []) in
    elim (cases_lt i (length bounds)) [
      | inl old ↦
          found i c (slice_get-get_or bounds i c old
          ∙ ap Some (sym (get_or_append_left bounds (b ∷ []) c i old) ∙ get_or_from_slice_get (bounds ++ b ∷ []) i c c is))
      | inr past ↦
          let last : length bounds ≡ i = omega (arith, within, all, past) in
          let same : b ≡ c = sym (get_or_push bounds b c i last) ∙ get_or_from_slice_get (bounds ++ b ∷ []) i c c is in
          subst (λ k. IsBoundAt m tracks k c) last (subst (λ k. IsBoundAt m tracks (length bounds) k) same own)
    ]
