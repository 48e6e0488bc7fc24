-- The cells of all paths, and the times at which they are entered, are few enough to be counted.
use Rattle.std.proofs.Common.{◌≡◌, ℕ, zero, suc, ◌+◌, ◌-◌, ◌^◌, ◌<◌, ◌≤◌, List, [], ◌∷◌, length, get_or, take, Some, None, inl, inr, arith, refl, sym, ap, subst}
use Rattle.std.specs.Prelude.{Option, slice_get}
use Rattle.std.specs.List.{AllByRecursion}
use Rattle.std.proofs.lemmas.Bool.{cases_Bool, cases_lt, cond-true, cond-false}
use Rattle.std.proofs.lemmas.List.{length-append, length-take-le, get_or_append_left, get_or-append_right}
use Rattle.std.proofs.lemmas.Option.{same_Some, none-some, slice_get-get_or}
use Rattle.grid.specs.declared.cell.Cell.{Cell}
use Rattle.model.specs.Timetable.{Track}
use Rattle.plan_text.specs.Limits.{most_agents, most_acts, most_acts_in_all}
use Rattle.checker.specs.Checking.{cells_of, steps_in}
use Rattle.depgraph.specs.Code.Arrivals.{is_new, entered, entry_times}
use Rattle.depgraph.specs.Code.Entries.{AreFew}
use Rattle.depgraph.specs.Code.Paths.{all_entered, all_times, ArePaths}
use Rattle.depgraph.proofs.ArrivalLemmas.{entered_path}
use Rattle.depgraph.proofs.VisitLemmas.{entry_own, entry_track}

few_entered : (here : Option Cell) (cells : List Cell) → length (entered here cells) ≤ length cells
few_entered here [] = omega arith
few_entered here (c ∷ cells) =
    let rest = few_entered (Some c) cells in
    elim (cases_Bool (is_new here c)) [
      | inl new ↦ (let is = ap length (cond-true (is_new here c) (c ∷ entered (Some c) cells) (entered (Some c) cells) new) in omega (arith, rest, is))
      | inr old ↦ (let is = ap length (cond-false (is_new here c) (c ∷ entered (Some c) cells) (entered (Some c) cells) old) in omega (arith, rest, is))
    ]

few_of_all : (tracks : List Track) → length (all_entered tracks) ≤ steps_in tracks + length tracks
few_of_all [] = omega arith
few_of_all (track ∷ tracks) =
    let own = few_entered None (cells_of track) in
    let rest = few_of_all tracks in
    let parts = length-append (entered None (cells_of track)) (all_entered tracks) in
    omega (arith, own, rest, parts)

few_steps : (tracks : List Track) (i : ℕ) (track : Track) → AllByRecursion (λ t. length t.later ≤ most_acts) tracks → slice_get tracks i ≡ Some track → length track.later ≤ most_acts
few_steps [] i track h is = absurd (none-some track is)
few_steps (first ∷ tracks) zero track h is = subst (λ t. length t.later ≤ most_acts) (same_Some first track is) h.0
few_steps (first ∷ tracks) (suc i) track h is = few_steps tracks i track h.1 is

pub are_few : (tracks : List Track) (cells : List Cell) (times ends : List ℕ) → ArePaths tracks cells times ends → length tracks ≤ most_agents
    → AllByRecursion (λ t. length t.later ≤ most_acts) tracks → steps_in tracks ≤ most_acts_in_all → AreFew cells ends
are_few tracks cells times ends h agents steps whole = record {
  agents = (let count = h.count in omega (arith, agents, count));
  own = λ i k e entry. (
      let found = entry_track tracks cells times ends h i k e entry in
      let own = entry_own tracks cells times ends h i k e found.0 found.0.start found.1 entry in
      let long = ap length (entered_path found.0) in
      let few = few_entered None (cells_of found.0) in
      let most = few_steps tracks i found.0 steps found.1 in
      let less = own.0 in
      omega (arith, long, few, most, less)
      );
  all = (let few = few_of_all tracks in let same = ap length h.are_cells in omega (arith, few, same, agents, whole));
}

-- the steps of the first tracks and those of the next one
steps_so_far : (tracks : List Track) (i : ℕ) (d : Track) → i < length tracks → steps_in (take i tracks) + length (get_or tracks i d).later ≤ steps_in tracks
steps_so_far [] i d less = absurd (omega (arith, less))
steps_so_far (track ∷ tracks) zero d less = omega arith
steps_so_far (track ∷ tracks) (suc i) d less = (let rest = steps_so_far tracks i d (omega (arith, less)) in omega (arith, rest))

-- the cells of the first paths and those along the next track can be counted
pub few_so_far : (tracks : List Track) (i : ℕ) (d : Track) → i < length tracks → length tracks ≤ most_agents → steps_in tracks ≤ most_acts_in_all
    → length (all_entered (take i tracks)) + length (cells_of (get_or tracks i d)) < 2 ^ 32
few_so_far tracks i d less agents whole =
    let most = few_of_all (take i tracks) in
    let steps = steps_so_far tracks i d less in
    let long = length-take-le i tracks (omega (arith, less)) in
    omega (arith, most, steps, long, agents, whole)

pub few_cells : (tracks : List Track) (i : ℕ) (d : Track) → i < length tracks → AllByRecursion (λ t. length t.later ≤ most_acts) tracks → length (cells_of (get_or tracks i d)) ≤ 2 ^ 16
few_cells tracks i d less steps = (let own = few_steps tracks i (get_or tracks i d) steps (slice_get-get_or tracks i d less) in omega (arith, own))

-- no later than after so many steps
time_within : (here : Option Cell) (cells : List Cell) (t k : ℕ) → k < length (entry_times here cells t) → get_or (entry_times here cells t) k 0 < t + length cells
time_within here [] t k less = absurd (omega (arith, less))
time_within here (c ∷ cells) t k less =
    let rest = entry_times (Some c) cells (t + 1) in
    let old : (j : ℕ) → j < length rest → get_or rest j 0 < t + length (c ∷ cells) = λ j inside. (let soon = time_within (Some c) cells (t + 1) j inside in omega (arith, soon)) in
    elim (cases_Bool (is_new here c)) [
      | inl new ↦ (
          let is = cond-true (is_new here c) (t ∷ rest) rest new in
          subst (λ l. k < length l → get_or l k 0 < t + length (c ∷ cells)) (sym is) (first rest old k) less
          )
      | inr stays ↦ (
          let is = cond-false (is_new here c) (t ∷ rest) rest stays in
          subst (λ l. k < length l → get_or l k 0 < t + length (c ∷ cells)) (sym is) (old k) less
          )
    ] where
      first : (rest : List ℕ) → ((j : ℕ) → j < length rest → get_or rest j 0 < t + length (c ∷ cells)) → (k : ℕ) → k < length (t ∷ rest) → get_or (t ∷ rest) k 0 < t + length (c ∷ cells)
      first rest old zero less = omega arith
      first rest old (suc k) less = old k (omega (arith, less))

pub few_times : (tracks : List Track) (e : ℕ) → AllByRecursion (λ t. length t.later ≤ most_acts) tracks → e < length (all_times tracks) → get_or (all_times tracks) e 0 ≤ most_acts
few_times [] e h less = absurd (omega (arith, less))
few_times (track ∷ tracks) e h less =
    let own = entry_times None (cells_of track) 0 in
    let parts = length-append own (all_times tracks) in
    elim (cases_lt e (length own)) [
      | inl inside ↦ (
          let soon = time_within None (cells_of track) 0 e inside in
          let most = h.0 in
          let is = get_or_append_left own (all_times tracks) 0 e inside in
          omega (arith, soon, most, is)
          )
      | inr past ↦ (
          let rest = few_times tracks (e - length own) h.1 (omega (arith, less, parts, past)) in
          let is = get_or-append_right own (all_times tracks) (length own) e 0 refl past in
          omega (arith, rest, is)
          )
    ]
