-- The least fault of a time, by what is listed of it.
use Rattle.std.proofs.Common.{◌≡◌, ℕ, zero, suc, ◌+◌, ◌-◌, ◌<◌, ◌≤◌, ◌⊎◌, List, [], ◌∷◌, length, take}
use Rattle.std.proofs.Common.{get_or, Some, arith, refl, sym, ap, subst, inl, inr, ◌∙◌}
use Rattle.std.specs.Prelude.{MatchOption, slice_get}
use Rattle.std.proofs.lemmas.Bool.{cases_lt}
use Rattle.std.proofs.lemmas.List.{take_all}
use Rattle.std.proofs.lemmas.Option.{slice_get-get_or, same_Some, none-some}
use Rattle.grid.specs.declared.cell.Cell.{Cell}
use Rattle.grid.specs.Map.{Grid, IsMap}
use Rattle.model.specs.declared.act.Act.TheVariants.{Wait}
use Rattle.model.specs.declared.plan_fault.PlanFault.{PlanFault}
use Rattle.model.specs.declared.plan_fault.PlanFault.TheVariants.{BadStart, BadMove, Vertex}
use Rattle.model.specs.declared.plan_fault.PlanFault.TheVariants.{Swap, OutOfMemory}
use Rattle.model.specs.Plan.{Course, Plan, position_of, position_at, course_of, IsPassable}
use Rattle.model.specs.Plan.{IsBadMove, HasPlanFault, Key, key_of, IsBefore, IsLeastFault, longest_of}
use Rattle.model.specs.Laws.Options.{some-found}
use Rattle.model.specs.Laws.Places.{same_place}
use Rattle.checker.specs.Moving.{IsOnGrid, ArePassable, cell_by}
use Rattle.checker.specs.AllFaults.{IsFaultTold}
use Rattle.checker.specs.declared.listing.Listing.{Listing}
use Rattle.checker.specs.Code.Known.{key_with, AreFaultsBefore, IsListedTo}
use Rattle.checker.specs.Code.Watching.{IsClean}
use Rattle.checker.specs.Laws.Walking.{goes_ahead, ahead-past, bad_at, on_map_from_terrain}
use Rattle.checker.specs.Laws.Walking.{position_at-start}
use Rattle.checker.proofs.KeyLemmas.{before_trans, not_before, next_time_grows, in_next_time}
use Rattle.checker.proofs.KnownLemmas.{listed-skip}
use Rattle.checker.proofs.SameFaults.{longest-is, told-time}
use Rattle.checker.proofs.FaultLemmas.{before-time, valid_at_end}

-- ---- agents without bad moves

-- the agent of a course is in a cell of the map
pub record IsInCell (m : Grid) (course : Course) (t : ℕ) : Type 0 where
  pub cell : Cell
  pub at : position_of cell ≡ position_at course t
  pub on_map : IsOnGrid m cell

pub in_cell : (m : Grid) (course : Course) (t : ℕ) → IsPassable m course.start
    → ((s : ℕ) → s < t → IsBadMove m course s → ⊥) → IsInCell m course t
in_cell m course zero passable good = record {
  cell = course.start;
  at = sym (position_at-start (position_of course.start) course.acts);
  on_map = on_map_from_terrain m course.start _ passable;
}
in_cell m course (suc t) passable good =
    let before = in_cell m course t passable (λ s less. good s (omega (arith, less))) in
    let later : t + 1 ≡ suc t = omega arith in
    elim (cases_lt t (length course.acts)) [
      | inl less ↦ (
          let act = get_or course.acts t Wait in
          let ahead = goes_ahead m course t before.cell act (slice_get-get_or course.acts t Wait less)
          before.at before.on_map (good t (omega arith)) in
          record {
            cell = cell_by act before.cell;
            at = ahead.place ∙ ap (position_at course) later;
            on_map = ahead.on_map;
          })
      | inr past ↦ (
          let ahead = ahead-past m course t before.cell past before.at before.on_map in
          record {
            cell = before.cell;
            at = ahead.place ∙ ap (position_at course) later;
            on_map = ahead.on_map;
          })
    ]

-- the same of a plan that has no fault before a time
pub in_cell_clean : (m : Grid) (p : Plan) (t i : ℕ) (course : Course) → ArePassable m p.courses
    → IsClean m p (t + 1) → course_of p i ≡ Some course → IsInCell m course t
in_cell_clean m p t i course passable clean there =
    in_cell m course t (passable i course there)
    (λ s less bad. clean (BadMove i s) (bad_at m p.courses s i course there bad) (omega (arith, less)))

-- ---- a fault that is not told

-- where none before the key is told, there is none before it
none_before : (m : Grid) (p : Plan) (key : Key) → IsMap m → ArePassable m p.courses
    → ((f : PlanFault) → HasPlanFault m p f → IsFaultTold p f → IsBefore (key_of f) key → ⊥)
    → (f : PlanFault) → HasPlanFault m p f → (key_of f).time ≤ longest_of p.courses
    → IsBefore (key_of f) key → ⊥
none_before m p key is_map passable none (BadStart i) has few before =
    none (BadStart i) has few before
none_before m p key is_map passable none (BadMove i s) has few before =
    none (BadMove i s) has few before
none_before m p key is_map passable none (Vertex i j time cell) has few before =
    let own = some-found (course_of p i) (λ k. position_at k time ≡ position_of cell) has.1 in
    let there = in_cell m own.0 time (passable i own.0 own.1)
    (λ s less bad. none (BadMove i s) (bad_at m p.courses s i own.0 own.1 bad)
    (omega (arith, less, few))
    (before_trans (key_of (BadMove i s)) (key_of (Vertex i j time cell)) key
    (bad_first i s time (omega (arith, less))) before)) in
    let on : IsOnGrid m cell =
    subst (IsOnGrid m) (same_place there.cell cell (there.at ∙ own.2)) there.on_map in
    let column = on.column in
    let row = on.row in
    let width = is_map.size.width_limit in
    let height = is_map.size.height_limit in
    none (Vertex i j time cell) has
    (few, omega (arith, column, width), omega (arith, row, height)) before where
      -- a bad move comes before those who meet at its time, or later
      bad_first : (k s t : ℕ) → s + 1 ≤ t
          → IsBefore (key_of (BadMove k s)) (key_of (Vertex i j t cell))
      bad_first k s t most = elim (cases_lt (s + 1) t) [
        | inl less ↦ inl less
        | inr past ↦ inr (omega (arith, most, past), inl (omega arith))
      ]
none_before m p key is_map passable none (Swap i j s) has few before =
    none (Swap i j s) has few before
none_before m p key is_map passable none OutOfMemory has few before = has

-- ---- what is listed of a time

-- before a time without a fault nothing is listed
pub listed-clean : (m : Grid) (p : Plan) (t : ℕ) (l : Listing) → IsClean m p t
    → l.faults.items ≡ [] → IsListedTo m p (key_with t 0 0 0) l
listed-clean m p t l clean none = record {
  reached = key_with t 0 0 0;
  found = [];
  before = record {
    each = λ n f at. absurd (none-some f at);
    all = λ f has told less. absurd (clean f has (earlier f less));
    rising = λ a b f g at_a at_b less. absurd (none-some f at_a);
  };
  first = none ∙ sym (take_all (l.most + 1) [] (omega arith));
  far = inl refl;
} where
  earlier : (f : PlanFault) → IsBefore (key_of f) (key_with t 0 0 0) → (key_of f).time < t
  earlier f (inl less) = less
  earlier f (inr (same, inl less)) = absurd (omega (arith, less))
  earlier f (inr (same, inr (rank, inl less))) = absurd (omega (arith, less))
  earlier f (inr (same, inr (rank, inr (first, less)))) = absurd (omega (arith, less))

-- later than the longest course nothing is told
pub late-listed : (m : Grid) (p : Plan) (t : ℕ) (l : Listing) → longest_of p.courses < t
    → IsListedTo m p (key_with t 0 0 0) l → IsListedTo m p (key_with (t + 1) 0 0 0) l
late-listed m p t l late h = listed-skip m p (key_with t 0 0 0) (key_with (t + 1) 0 0 0) l h (record {
  grows = λ key before. next_time_grows key t 0 before;
  none = λ f has told less. elim (in_next_time (key_of f) t 0 less) [
    | inl before ↦ before
    | inr there ↦ absurd (
        let most = told-time p f told in
        let same = there.0 in
        omega (arith, most, same, late)
        )
  ];
})

clean_then : (m : Grid) (p : Plan) (t : ℕ) → IsMap m → ArePassable m p.courses → IsClean m p t
    → AreFaultsBefore m p (key_with (t + 1) 0 0 0) [] → IsClean m p (t + 1)
clean_then m p t is_map passable clean h f has less = elim (cases_lt (longest_of p.courses) t) [
  | inl late ↦ (
      let early : t - 1 + 1 ≡ t = omega (arith, late) in
      valid_at_end m p (t - 1)
      (λ i course there. (
      let most = longest-is p.courses i course there in
      omega (arith, most, late)
      ))
      (subst (IsClean m p) (sym early) clean) f has
      )
  | inr past ↦ none_before m p (key_with (t + 1) 0 0 0) is_map passable
      (λ g is told before. none-some g (h.all g is told before).1) f has
      (omega (arith, less, past)) (inl less)
]

least_of : (m : Grid) (p : Plan) (key : Key) (fault : PlanFault) (rest : List PlanFault) → IsMap m
    → ArePassable m p.courses → AreFaultsBefore m p key (fault ∷ rest) → IsLeastFault m p fault
least_of m p key fault rest is_map passable h =
    let own = h.each 0 fault refl in
    record {
      has = own.0;
      first = λ other has before. none_before m p (key_of fault) is_map passable not_listed other has
          (few other before own.1) before;
    } where
      -- what is listed comes no earlier
      no_earlier : (f : PlanFault) (n : ℕ) → slice_get (fault ∷ rest) n ≡ Some f
          → IsBefore (key_of f) (key_of fault) → ⊥
      no_earlier f zero at before =
          not_before (key_of fault)
          (subst (λ g. IsBefore (key_of g) (key_of fault)) (sym (same_Some fault f at)) before)
      no_earlier f (suc n) at before =
          not_before (key_of f)
          (before_trans (key_of f) (key_of fault) (key_of f) before
          (h.rising 0 (suc n) fault f refl at (omega arith)))

      not_listed : (f : PlanFault) → HasPlanFault m p f → IsFaultTold p f
          → IsBefore (key_of f) (key_of fault) → ⊥
      not_listed f has told before =
          let own = h.each 0 fault refl in
          let at = h.all f has told
          (before_trans (key_of f) (key_of fault) key before own.2) in
          no_earlier f at.0 at.1 before

      few : (f : PlanFault) → IsBefore (key_of f) (key_of fault) → IsFaultTold p fault
          → (key_of f).time ≤ longest_of p.courses
      few f before told =
          let most = told-time p fault told in
          elim (before-time (key_of f) (key_of fault) before) [
            | inl less ↦ omega (arith, less, most)
            | inr same ↦ omega (arith, same, most)
          ]

-- the first that is listed is the least of all; without one the time has none
pub least_listed : (m : Grid) (p : Plan) (t : ℕ) (l : Listing) → IsMap m → ArePassable m p.courses
    → IsClean m p t → l.most ≡ 0 → IsListedTo m p (key_with (t + 1) 0 0 0) l
    → MatchOption (slice_get l.faults.items 0) (IsClean m p (t + 1)) (IsLeastFault m p)
least_listed m p t l is_map passable clean most h =
    subst (λ items. MatchOption (slice_get items 0) (IsClean m p (t + 1)) (IsLeastFault m p))
    (sym (h.first ∙ ap (λ n. take (n + 1) h.found) most)) (by h.found h.before h.far) where
      by : (found : List PlanFault) → AreFaultsBefore m p h.reached found
          → (h.reached ≡ key_with (t + 1) 0 0 0) ⊎ (l.most < length found)
          → MatchOption (slice_get (take (0 + 1) found) 0) (IsClean m p (t + 1)) (IsLeastFault m p)
      by [] before (inl there) =
          clean_then m p t is_map passable clean
          (subst (λ k. AreFaultsBefore m p k []) there before)
      by [] before (inr full) = absurd (omega (arith, full))
      by (fault ∷ rest) before far = least_of m p h.reached fault rest is_map passable before
