-- Which conflicts an agent has by its step: those with later agents that take the opposite one.
use Rattle.std.proofs.Common.{◌≡◌, ◌≢◌, ℕ, ◌+◌, ◌<◌, ◌≤◌, ◌^◌, List, [], length, None, Some, arith, sym, ap, subst, ◌∙◌}
use Rattle.std.specs.Prelude.{Option, MatchOption, slice_get}
use Rattle.std.proofs.lemmas.Option.{slice_get-get_or, slice_get_within}
use Rattle.grid.specs.declared.cell.Cell.{Cell}
use Rattle.grid.specs.Map.{Grid}
use Rattle.model.specs.declared.plan_fault.PlanFault.{PlanFault}
use Rattle.model.specs.declared.plan_fault.PlanFault.TheVariants as plan_fault
use Rattle.model.specs.Plan.{Position, position_of, Course, Plan, position_at, course_of, IsAt, HasPlanFault, key_of, longest_of}
use Rattle.model.specs.Laws.Options.{some-found}
use Rattle.checker.specs.AllFaults.{IsFaultTold}
use Rattle.checker.specs.declared.conflict.Conflict.TheVariants.{Vertex, Swap}
use Rattle.checker.specs.declared.listing.Listing.{Listing}
use Rattle.checker.specs.declared.places.Place.{Place}
use Rattle.checker.specs.declared.places.Step.{Step}
use Rattle.checker.specs.Code.Known.{key_with, IsListedTo}
use Rattle.checker.specs.Code.Places.{as_position, reversed, IsNamedCell, step_in, AreSteps}
use Rattle.checker.specs.Code.Rows.{IsConflictRow}
use Rattle.checker.proofs.LinkLemmas.{place_from, step_from}
use Rattle.checker.proofs.SameFaults.{one_place}
use Rattle.checker.proofs.FollowLemmas.{step-is}
use Rattle.checker.proofs.KnownLemmas.{listed-skip}
use Rattle.checker.proofs.RankLemmas.{rest-gap}

pub position_from : (u v : Place) → as_position u ≡ as_position v → u ≡ v
position_from u v e = place_from u v (ap (λ q. q.x) e) (ap (λ q. q.y) e)

at_by : (o : Option Course) (course : Course) (t : ℕ) (u : Position) → o ≡ Some course → position_at course t ≡ u → MatchOption o ⊥ (λ a. position_at a t ≡ u)
at_by o course t u e h = subst (λ q. MatchOption q ⊥ (λ a. position_at a t ≡ u)) (sym e) h

no_course : Course
no_course = record { start = record { x = 0; y = 0 }; acts = [] }

-- where agents are, by their steps
module _ (p : Plan) (before after : ℕ) (steps : List Step) (h : AreSteps p.courses before after steps) where
  course-there : (i : ℕ) → i < length steps → (course : Course) × (course_of p i ≡ Some course)
  course-there i less =
      let count = h.count in
      (_, slice_get-get_or p.courses i no_course (omega (arith, less, count)))

  pub at-before : (i : ℕ) → i < length steps → IsAt p i before (as_position (step_in steps i).from)
  at-before i less =
      let own = course-there i less in
      at_by (course_of p i) own.0 before (as_position (step_in steps i).from) own.1 (sym (h.from i own.0 own.1))

  pub at-after : (i : ℕ) → i < length steps → IsAt p i after (as_position (step_in steps i).to)
  at-after i less =
      let own = course-there i less in
      at_by (course_of p i) own.0 after (as_position (step_in steps i).to) own.1 (sym (h.to i own.0 own.1))

  pub is-agent : (i t : ℕ) (u : Position) → IsAt p i t u → i < length steps
  is-agent i t u at =
      let own = some-found (course_of p i) (λ a. position_at a t ≡ u) at in
      let less = slice_get_within p.courses i own.0 own.1 in
      let count = h.count in
      omega (arith, less, count)

  pub before-is : (i : ℕ) (u : Position) → IsAt p i before u → as_position (step_in steps i).from ≡ u
  before-is i u at = one_place p i before (as_position (step_in steps i).from) u (at-before i (is-agent i before u at)) at

  pub after-is : (i : ℕ) (u : Position) → IsAt p i after u → as_position (step_in steps i).to ≡ u
  after-is i u at = one_place p i after (as_position (step_in steps i).to) u (at-after i (is-agent i after u at)) at

  -- an agent that comes from where the other goes, and goes to where the other comes from, takes the opposite step
  opposite-from : (i j : ℕ) (u v : Position) → IsAt p i before u → IsAt p i after v → IsAt p j before v → IsAt p j after u → slice_get steps j ≡ Some (reversed (step_in steps i))
  opposite-from i j u v i_from i_to j_from j_to =
      let less = is-agent j before v j_from in
      slice_get-get_or steps j _ less
      ∙ ap Some (step_from (step_in steps j) (reversed (step_in steps i))
      (position_from (step_in steps j).from (step_in steps i).to (before-is j v j_from ∙ sym (after-is i v i_to)))
      (position_from (step_in steps j).to (step_in steps i).from (after-is j u j_to ∙ sym (before-is i u i_from))))

  -- and the other way round
  opposite-before : (i j : ℕ) → slice_get steps j ≡ Some (reversed (step_in steps i)) → IsAt p j before (as_position (step_in steps i).to)
  opposite-before i j at =
      subst (λ s. IsAt p j before (as_position s.from)) (step-is steps j (reversed (step_in steps i)) at) (at-before j (slice_get_within steps j (reversed (step_in steps i)) at))

  opposite-after : (i j : ℕ) → slice_get steps j ≡ Some (reversed (step_in steps i)) → IsAt p j after (as_position (step_in steps i).from)
  opposite-after i j at =
      subst (λ s. IsAt p j after (as_position s.to)) (step-is steps j (reversed (step_in steps i)) at) (at-after j (slice_get_within steps j (reversed (step_in steps i)) at))

-- ---- vertex conflicts

-- a fault of this key is a vertex conflict of the agent at the time
pub vertex-only : (m : Grid) (p : Plan) (t i : ℕ) (f : PlanFault) → HasPlanFault m p f → IsFaultTold p f → key_of f ≡ key_with t 1 i (key_of f).second
    → (i < (key_of f).second) × ((cell : Cell) × (cell.x < 2 ^ 16) × (cell.y < 2 ^ 16) × IsAt p i t (position_of cell) × IsAt p (key_of f).second t (position_of cell))
vertex-only m p t i (plan_fault.BadStart k) has told is = absurd (let e = ap (λ q. q.rank) is in omega (arith, e))
vertex-only m p t i (plan_fault.BadMove k s) has told is = absurd (let e = ap (λ q. q.rank) is in omega (arith, e))
vertex-only m p t i (plan_fault.Vertex k j u cell) has told is =
    let time : u ≡ t = ap (λ q. q.time) is in
    let first : k ≡ i = ap (λ q. q.first) is in
    let order = has.0 in
    let own : IsAt p i t (position_of cell) = subst (λ n. IsAt p n t (position_of cell)) first (subst (λ n. IsAt p k n (position_of cell)) time has.1) in
    let other : IsAt p j t (position_of cell) = subst (λ n. IsAt p j n (position_of cell)) time has.2 in
    (omega (arith, order, first), (cell, told.1, told.2, own, other))
vertex-only m p t i (plan_fault.Swap k j s) has told is = absurd (let e = ap (λ q. q.rank) is in omega (arith, e))
vertex-only m p t i plan_fault.OutOfMemory has told is = absurd has

module _ (m : Grid) (p : Plan) (t : ℕ) (steps : List Step) (i : ℕ) (h : AreSteps p.courses t t steps) (less : i < length steps) where
  pub vertex-row : (cell : Cell) → t ≤ longest_of p.courses → IsNamedCell (as_position (step_in steps i).from) (Some cell) → IsConflictRow m p steps (Vertex t cell) i
  vertex-row cell within named =
      let place : as_position (step_in steps i).to ≡ position_of cell = after-is p t t steps h i (position_of cell) own in
      record {
        has = λ j order at. (
          (order, own, subst (IsAt p j t) place (opposite-before p t t steps h i j at)),
          (within, named.1, named.2),
        );
        only = λ f has told is. (
            let found = vertex-only m p t i f has told is in
            let there = found.1 in
            (found.0, opposite-from p t t steps h i (key_of f).second (position_of there.0) (position_of there.0) there.3 there.3 there.4 there.4)
            );
      } where
        own : IsAt p i t (position_of cell)
        own = subst (IsAt p i t) (sym named.0) (at-before p t t steps h i less)

  pub no-vertex : (l : Listing) → IsNamedCell (as_position (step_in steps i).from) None → IsListedTo m p (key_with t 1 i 0) l → IsListedTo m p (key_with t 1 (i + 1) 0) l
  no-vertex l none known =
      listed-skip m p (key_with t 1 i 0) (key_with t 1 (i + 1) 0) l known
      (rest-gap m p t 1 i 0 (λ f has told is past. (
      let there = (vertex-only m p t i f has told is).1 in
      none there.0 (sym (before-is p t t steps h i (position_of there.0) there.3)) there.1 there.2)))

-- ---- swaps

pub swap-only : (m : Grid) (p : Plan) (s i : ℕ) (f : PlanFault) → HasPlanFault m p f → key_of f ≡ key_with (s + 1) 2 i (key_of f).second
    → (i < (key_of f).second) × ((u : Position) × (v : Position) × (u ≢ v) × IsAt p i s u × IsAt p i (s + 1) v × IsAt p (key_of f).second s v × IsAt p (key_of f).second (s + 1) u)
swap-only m p s i (plan_fault.BadStart k) has is = absurd (let e = ap (λ q. q.rank) is in omega (arith, e))
swap-only m p s i (plan_fault.BadMove k r) has is = absurd (let e = ap (λ q. q.rank) is in omega (arith, e))
swap-only m p s i (plan_fault.Vertex k j u cell) has is = absurd (let e = ap (λ q. q.rank) is in omega (arith, e))
swap-only m p s i (plan_fault.Swap k j r) has is =
    let time = ap (λ q. q.time) is in
    let step : r ≡ s = omega (arith, time) in
    let first : k ≡ i = ap (λ q. q.first) is in
    subst (λ n. (n < j) × ((u : Position) × (v : Position) × (u ≢ v) × IsAt p n s u × IsAt p n (s + 1) v × IsAt p j s v × IsAt p j (s + 1) u)) first
    (subst (λ n. (k < j) × ((u : Position) × (v : Position) × (u ≢ v) × IsAt p k n u × IsAt p k (n + 1) v × IsAt p j n v × IsAt p j (n + 1) u)) step
    (has.0, (has.1, has.2, has.3, has.4, has.5, has.6, has.7)))
swap-only m p s i plan_fault.OutOfMemory has is = absurd has

module _ (m : Grid) (p : Plan) (s : ℕ) (steps : List Step) (i : ℕ) (h : AreSteps p.courses s (s + 1) steps) (less : i < length steps) where
  pub swap-row : s < longest_of p.courses → (step_in steps i).from ≢ (step_in steps i).to → IsConflictRow m p steps (Swap s) i
  swap-row within moves = record {
    has = λ j order at. (
      (
        order,
        as_position (step_in steps i).from,
        as_position (step_in steps i).to,
        λ e. moves (position_from (step_in steps i).from (step_in steps i).to e),
        at-before p s (s + 1) steps h i less,
        at-after p s (s + 1) steps h i less,
        opposite-before p s (s + 1) steps h i j at,
        opposite-after p s (s + 1) steps h i j at,
      ),
      omega (arith, within),
    );
    only = λ f has told is. (
        let found = swap-only m p s i f has is in
        let there = found.1 in
        (found.0, opposite-from p s (s + 1) steps h i (key_of f).second there.0 there.1 there.3 there.4 there.5 there.6)
        );
  }

  pub no-swap : (l : Listing) → (step_in steps i).from ≡ (step_in steps i).to → IsListedTo m p (key_with (s + 1) 2 i 0) l → IsListedTo m p (key_with (s + 1) 2 (i + 1) 0) l
  no-swap l stays known =
      listed-skip m p (key_with (s + 1) 2 i 0) (key_with (s + 1) 2 (i + 1) 0) l known
      (rest-gap m p (s + 1) 2 i 0 (λ f has told is past. (
      let there = (swap-only m p s i f has is).1 in
      there.2 (sym (before-is p s (s + 1) steps h i there.0 there.3) ∙ ap as_position stays ∙ after-is p s (s + 1) steps h i there.1 there.4))))
