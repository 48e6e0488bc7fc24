-- The agents under way at their starts.
use Rattle.std.proofs.Common.{◌≡◌, ◌≢◌, ℕ, ◌+◌, ◌-◌, ◌<◌, List, [], ◌∷◌, ◌++◌, length, Some, arith, refl, sym, ap, subst, inl, inr, ◌∙◌}
use Rattle.std.specs.Prelude.{slice_get}
use Rattle.std.proofs.lemmas.Bool.{cases_lt}
use Rattle.std.proofs.lemmas.Option.{slice_get_within}
use Rattle.std.proofs.lemmas.List.{get_or_append_left, get_or-append_right, length-append}
use Rattle.grid.specs.declared.cell.Cell.{Cell}
use Rattle.grid.specs.Map.{Grid}
use Rattle.model.specs.declared.act.Act.{Act}
use Rattle.model.specs.declared.act.Act.TheVariants.{Wait}
use Rattle.model.specs.declared.plan_fault.PlanFault.{PlanFault}
use Rattle.model.specs.declared.plan_fault.PlanFault.TheVariants.{BadStart, BadMove, Vertex, Swap, OutOfMemory}
use Rattle.model.specs.Plan.{Course, Plan, position_of, position_at, course_of, IsAt, HasPlanFault, key_of}
use Rattle.model.specs.Laws.Options.{some-found}
use Rattle.checker.specs.declared.board.Square.{Square}
use Rattle.checker.specs.declared.crowd.Walker.{Walker}
use Rattle.checker.specs.declared.crowd.Turns.{Turns}
use Rattle.checker.specs.Code.Walking.{ArePassable}
use Rattle.checker.specs.Code.Squares.{wide_of, place_on, IsOpen, HasGround, IsBoard}
use Rattle.checker.specs.Code.Crowd.{led_to, walker_at, act_at, comes_to, AreActTurns, KeepGrounds, AreLed, AreAllowed}
use Rattle.checker.specs.Code.UnderWay.{IsWalker, AreWalkers, AreUnderWay, AreAllAgents}
use Rattle.checker.specs.Code.Watching.{IsClean}
use Rattle.checker.specs.Laws.Walking.{position_at-start}
use Rattle.checker.proofs.FaultLemmas.{clean_more, good_start}
use Rattle.checker.proofs.UnderWayLemmas.{at_of, one_place, board-kept}

pub starts_as : (m : Grid) (courses : List Course) (course : Course) (walker : Walker) → slice_get courses walker.agent ≡ Some course
    → walker.place ≡ place_on m course.start → HasGround m course.start walker.ground → IsOpen walker.ground → IsWalker m courses 0 walker
starts_as m courses course walker is place ground may_go = record {
  course = course;
  is_agent = is;
  cell = course.start;
  at = sym (position_at-start (position_of course.start) course.acts);
  place = place;
  ground = ground;
  may_go = may_go;
}

-- the first so many agents, at their starts
pub record AreFirst (m : Grid) (courses : List Course) (walkers : List Walker) (n : ℕ) : Type 0 where
  pub count : length walkers ≡ n
  pub walkers_are : AreWalkers m courses 0 walkers
  pub agents : (k : ℕ) → k < n → (walker_at walkers k).agent ≡ k

pub first-more : (m : Grid) (courses : List Course) (walkers : List Walker) (n : ℕ) (walker : Walker) → AreFirst m courses walkers n → IsWalker m courses 0 walker
    → walker.agent ≡ n → AreFirst m courses (walkers ++ walker ∷ []) (n + 1)
first-more m courses walkers n walker h is agent =
    let count = h.count in
    let before : (k : ℕ) → k < n → walker_at (walkers ++ walker ∷ []) k ≡ walker_at walkers k = λ k less.
    get_or_append_left walkers (walker ∷ []) (record { place = 0; ground = 0; agent = 0 }) k (omega (arith, less, count)) in
    let last : walker_at (walkers ++ walker ∷ []) n ≡ walker =
    get_or-append_right walkers (walker ∷ []) n n (record { place = 0; ground = 0; agent = 0 }) count (omega arith)
    ∙ (let none : n - n ≡ 0 = omega arith in ap (walker_at (walker ∷ [])) none) in
    let long : length (walkers ++ walker ∷ []) ≡ n + 1 = (let both = length-append walkers (walker ∷ []) in omega (arith, both, count)) in
    record {
      count = long;
      walkers_are = λ k less. elim (cases_lt k n) [
        | inl early ↦ subst (IsWalker m courses 0) (sym (before k early)) (h.walkers_are k (omega (arith, early, count)))
        | inr late ↦ (let same : n ≡ k = omega (arith, less, late, long) in
            subst (λ i. IsWalker m courses 0 (walker_at (walkers ++ walker ∷ []) i)) same (subst (IsWalker m courses 0) (sym last) is))
      ];
      agents = λ k less. elim (cases_lt k n) [
        | inl early ↦ ap (λ w. w.agent) (before k early) ∙ h.agents k early
        | inr late ↦ (let same : n ≡ k = omega (arith, less, late) in
            subst (λ i. (walker_at (walkers ++ walker ∷ []) i).agent ≡ i) same (ap (λ w. w.agent) last ∙ agent))
      ];
    }

pub first-none : (m : Grid) (courses : List Course) (walkers : List Walker) → walkers ≡ [] → AreFirst m courses walkers 0
first-none m courses walkers none =
    let count = ap length none in
    record { count = count; walkers_are = λ k less. absurd (omega (arith, less, count)); agents = λ k less. absurd (omega (arith, less)) }

-- ---- the starts

-- all agents wait at their starts
pub all_start : (m : Grid) (courses : List Course) (walkers : List Walker) (squares : List Square) → IsBoard m squares → AreWalkers m courses 0 walkers
    → AreAllAgents (length courses) walkers → AreUnderWay m courses 0 walkers squares
all_start m courses walkers squares board are all = record {
  board = board;
  walkers_are = are;
  agents = λ i course there. (
      let is_agent = slice_get_within courses i course there in
      let count = all.all in
      inl (i, omega (arith, is_agent, count), all.each i is_agent)
      );
}

-- a wait leads nowhere
pub wait_stays : (m : Grid) (turns : Turns) (acts : List Act) (walkers : List Walker) (k : ℕ) → AreActTurns (wide_of m) turns → act_at acts k ≡ Wait
    → comes_to turns acts walkers k ≡ (walker_at walkers k).place
wait_stays m turns acts walkers k h waits =
    let turn = h.each Wait in
    let ahead = turn.ahead in
    let back = turn.back in
    ap (λ a. led_to turns a (walker_at walkers k).place) waits ∙ omega (arith, ahead, back)

pub starts_wait : (m : Grid) (courses : List Course) (turns : Turns) (acts : List Act) (old new : List Walker) (squares after : List Square)
    → AreActTurns (wide_of m) turns → ((k : ℕ) → k < length old → act_at acts k ≡ Wait) → AreUnderWay m courses 0 old squares → AreLed turns acts old new
    → KeepGrounds squares after → AreUnderWay m courses 0 new after
starts_wait m courses turns acts old new squares after h waits now led kept =
    let count = led.count in
    let stays : (k : ℕ) → k < length old → walker_at new k ≡ walker_at old k = λ k less.
    led.each k less ∙ ap {A = ℕ} {B = Walker} (λ place. record (walker_at old k) { place = place }) (wait_stays m turns acts old k h (waits k less)) in
    record {
      board = board-kept m squares after now.board kept;
      walkers_are = λ k less. (let before : k < length old = omega (arith, less, count) in subst (IsWalker m courses 0) (sym (stays k before)) (now.walkers_are k before));
      agents = λ i course there. elim (now.agents i course there) [
        | inl (k, less, is) ↦ inl (k, omega (arith, less, count), ap (λ w. w.agent) (stays k less) ∙ is)
        | inr rest ↦ inr (record { over = rest.over; cell = rest.cell; at = rest.at; held = kept.each (place_on m rest.cell) ∙ rest.held })
      ];
    }

pub clean_at_start : (m : Grid) (p : Plan) (turns : Turns) (acts : List Act) (walkers : List Walker) (squares : List Square) → AreActTurns (wide_of m) turns
    → ArePassable m p.courses → ((k : ℕ) → k < length walkers → act_at acts k ≡ Wait) → AreWalkers m p.courses 0 walkers → AreAllAgents (length p.courses) walkers
    → AreAllowed turns acts walkers squares (length walkers) → IsClean m p 1
clean_at_start m p turns acts walkers squares h passable waits are all allowed = clean_more m p 0 (λ fault has less. absurd (omega (arith, less))) no_fault where
  apart : (j k : ℕ) → j < k → k < length walkers → (walker_at walkers j).place ≢ (walker_at walkers k).place
  apart j k order less = λ one. allowed.apart j k order less
      (wait_stays m turns acts walkers j h (waits j (omega (arith, order, less))) ∙ one ∙ sym (wait_stays m turns acts walkers k h (waits k less)))

  vertex : (i j : ℕ) (cell : Cell) → i < j → IsAt p i 0 (position_of cell) → IsAt p j 0 (position_of cell) → ⊥
  vertex i j cell order at_i at_j =
      let two = some-found (course_of p j) (λ c. position_at c 0 ≡ position_of cell) at_j in
      let is_agent = slice_get_within p.courses j two.0 two.1 in
      let count = all.all in
      let less_j : j < length walkers = omega (arith, is_agent, count) in
      let less_i : i < length walkers = omega (arith, order, less_j) in
      let w = are i less_i in
      let v = are j less_j in
      apart i j order less_j
      (w.place
      ∙ one_place m w.cell v.cell
      (at_of m p 0 (walker_at walkers i) w i (position_of cell) (all.each i (omega (arith, order, is_agent))) at_i
      ∙ sym (at_of m p 0 (walker_at walkers j) v j (position_of cell) (all.each j is_agent) at_j))
      ∙ sym v.place)

  no_fault : (fault : PlanFault) → HasPlanFault m p fault → (key_of fault).time ≡ 0 → ⊥
  no_fault (BadStart i) has time = (good_start m p passable).start i refl has
  no_fault (BadMove i other) has time = omega (arith, time)
  no_fault (Vertex i j time cell) (order, at_i, at_j) same =
      vertex i j cell order (subst (λ t. IsAt p i t (position_of cell)) same at_i) (subst (λ t. IsAt p j t (position_of cell)) same at_j)
  no_fault (Swap i j other) has time = omega (arith, time)
  no_fault OutOfMemory has time = has
