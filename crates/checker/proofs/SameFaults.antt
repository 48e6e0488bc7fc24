-- Faults by their keys: two with one key are the same.
use Rattle.std.proofs.Common.{◌≡◌, ℕ, zero, suc, ◌<◌, ◌≤◌, List, [], ◌∷◌, length, Some, None, arith, sym, ap, subst, ◌∙◌}
use Rattle.std.specs.Prelude.{Option, MatchOption, slice_get}
use Rattle.std.specs.List.{AllByRecursion}
use Rattle.plan_text.specs.Limits.{IsCourse}
use Rattle.std.proofs.lemmas.Option.{slice_get_within, same_Some, none-some}
use Rattle.grid.specs.Map.{Grid}
use Rattle.model.specs.declared.plan_fault.PlanFault.{PlanFault}
use Rattle.model.specs.declared.plan_fault.PlanFault.TheVariants.{BadStart, BadMove, Vertex, Swap, OutOfMemory}
use Rattle.model.specs.Plan.{Position, position_of, Course, Plan, position_at, course_of, IsAt, HasPlanFault, key_of, longest_of}
use Rattle.model.specs.Laws.Options.{some-found}
use Rattle.model.specs.Laws.Places.{same_place}
use Rattle.checker.specs.AllFaults.{IsFaultTold}
use Rattle.checker.proofs.KeyLemmas.{IsLevel}

place_by : (o : Option Course) (t : ℕ) (u v : Position) → MatchOption o ⊥ (λ course. position_at course t ≡ u) → MatchOption o ⊥ (λ course. position_at course t ≡ v) → u ≡ v
place_by None t u v h k = absurd h
place_by (Some course) t u v h k = sym h ∙ k

-- an agent is in one place
pub one_place : (p : Plan) (i t : ℕ) (u v : Position) → IsAt p i t u → IsAt p i t v → u ≡ v
one_place p i t u v h k = place_by (course_of p i) t u v h k

pub same_fault : (m : Grid) (p : Plan) (f g : PlanFault) → HasPlanFault m p f → HasPlanFault m p g → IsLevel (key_of f) (key_of g) → f ≡ g
same_fault m p (BadStart i) (BadStart j) h k l = ap (λ n. BadStart n) l.first
same_fault m p (BadStart i) (BadMove j s) h k l = absurd (let e = l.time in omega (arith, e))
same_fault m p (BadStart i) (Vertex j q t c) h k l = absurd (let e = l.rank in omega (arith, e))
same_fault m p (BadStart i) (Swap j q t) h k l = absurd (let e = l.rank in omega (arith, e))
same_fault m p (BadMove i s) (BadStart j) h k l = absurd (let e = l.time in omega (arith, e))
same_fault m p (BadMove i s) (BadMove j t) h k l =
    let e = l.time in
    let step : s ≡ t = omega (arith, e) in
    ap (λ n. BadMove n s) l.first ∙ ap (λ n. BadMove j n) step
same_fault m p (BadMove i s) (Vertex j q t c) h k l = absurd (let e = l.rank in omega (arith, e))
same_fault m p (BadMove i s) (Swap j q t) h k l = absurd (let e = l.rank in omega (arith, e))
same_fault m p (Vertex i o s c) (BadStart j) h k l = absurd (let e = l.rank in omega (arith, e))
same_fault m p (Vertex i o s c) (BadMove j t) h k l = absurd (let e = l.rank in omega (arith, e))
same_fault m p (Vertex i o s c) (Vertex j q t d) h k l =
    let there : IsAt p i s (position_of d) = subst (λ n. IsAt p n s (position_of d)) (sym l.first) (subst (λ n. IsAt p j n (position_of d)) (sym l.time) k.1) in
    let cell = same_place c d (one_place p i s (position_of c) (position_of d) h.1 there) in
    ap (λ n. Vertex n o s c) l.first ∙ ap (λ n. Vertex j n s c) l.second ∙ ap (λ n. Vertex j q n c) l.time ∙ ap (λ x. Vertex j q t x) cell
same_fault m p (Vertex i o s c) (Swap j q t) h k l = absurd (let e = l.rank in omega (arith, e))
same_fault m p (Swap i o s) (BadStart j) h k l = absurd (let e = l.rank in omega (arith, e))
same_fault m p (Swap i o s) (BadMove j t) h k l = absurd (let e = l.rank in omega (arith, e))
same_fault m p (Swap i o s) (Vertex j q t c) h k l = absurd (let e = l.rank in omega (arith, e))
same_fault m p (Swap i o s) (Swap j q t) h k l =
    let e = l.time in
    let step : s ≡ t = omega (arith, e) in
    ap (λ n. Swap n o s) l.first ∙ ap (λ n. Swap j n s) l.second ∙ ap (λ n. Swap j q n) step
same_fault m p OutOfMemory g h k l = absurd h
same_fault m p f OutOfMemory h k l = absurd k

-- ---- which agents a fault names, and when it may be

agent_by : (courses : List Course) (i : ℕ) (P : Course → Type 0) → MatchOption (slice_get courses i) ⊥ P → i < length courses
agent_by courses i P h = let course = some-found (slice_get courses i) P h in slice_get_within courses i course.0 course.1

-- the agent is one of the plan's; only pairs have a second
pub record IsOfAgents (p : Plan) (f : PlanFault) : Type 0 where
  pub first : (key_of f).first < length p.courses
  pub second : (key_of f).second < length p.courses
  pub rank : (key_of f).rank < 3

pub fault_agents : (m : Grid) (p : Plan) (f : PlanFault) → HasPlanFault m p f → IsOfAgents p f
fault_agents m p (BadStart i) h = let less = agent_by p.courses i _ h in record { first = less; second = omega (arith, less); rank = omega arith }
fault_agents m p (BadMove i s) h = let less = agent_by p.courses i _ h in record { first = less; second = omega (arith, less); rank = omega arith }
fault_agents m p (Vertex i j t c) h = record { first = agent_by p.courses i _ h.1; second = agent_by p.courses j _ h.2; rank = omega arith }
fault_agents m p (Swap i j s) h = record { first = agent_by p.courses i _ h.4; second = agent_by p.courses j _ h.6; rank = omega arith }
fault_agents m p OutOfMemory h = absurd h

pub longest-is : (courses : List Course) (i : ℕ) (course : Course) → slice_get courses i ≡ Some course → length course.acts ≤ longest_of courses
longest-is [] i course e = absurd (none-some course e)
longest-is (first ∷ courses) zero course e =
    let count = ap (λ k. length k.acts) (same_Some first course e) in omega (arith, count)
longest-is (first ∷ courses) (suc i) course e = let rest = longest-is courses i course e in omega (arith, rest)

pub longest-few : (courses : List Course) → AllByRecursion IsCourse courses → longest_of courses ≤ 65535
longest-few [] h = omega arith
longest-few (course ∷ courses) h =
    let rest = longest-few courses h.1 in
    let own = h.0.acts_limit in
    omega (arith, rest, own)

pub told-time : (p : Plan) (f : PlanFault) → IsFaultTold p f → (key_of f).time ≤ longest_of p.courses
told-time p (BadStart k) h = h
told-time p (BadMove k s) h = h
told-time p (Vertex k l s c) h = h.0
told-time p (Swap k l s) h = h
told-time p OutOfMemory h = h
