-- What a step makes of the agents under way.
use Rattle.std.proofs.Common.{◌≡◌, ◌≢◌, ℕ, ◌+◌, pos, ◌+ℤ◌, ◌-ℤ◌, ◌<◌, ◌≤◌, ◌⊎◌, List, length, get_or, Some, None, arith, refl, sym, ap, subst, inl, inr, ◌∙◌}
use Rattle.std.specs.Prelude.{Option, MatchOption, Result, Ok, Err, IfOk, slice_get}
use Rattle.std.proofs.lemmas.Bool.{cases_lt, cases_eq, cases_order}
use Rattle.std.proofs.lemmas.Int.{ints}
use Rattle.std.proofs.lemmas.Option.{slice_get-get_or, get_or_from_slice_get}
use Rattle.std.proofs.lemmas.Nat.{mul-add-lt}
use Rattle.std.proofs.lemmas.List.{get_or_past}
use Rattle.grid.specs.declared.cell.Cell.{Cell}
use Rattle.grid.specs.declared.terrain.Terrain.TheVariants.{Floor}
use Rattle.grid.specs.Terrain.{character_of}
use Rattle.grid.specs.Map.{Grid, IsMap}
use Rattle.model.specs.declared.act.Act.{Act}
use Rattle.model.specs.declared.act.Act.TheVariants.{N, E, S, W, Wait}
use Rattle.model.specs.declared.plan_fault.PlanFault.{PlanFault}
use Rattle.model.specs.declared.plan_fault.PlanFault.TheVariants.{BadStart, BadMove, Vertex, Swap, OutOfMemory}
use Rattle.model.specs.Plan.{Course, Plan, Position, position_of, moved, position_at, course_of, IsAt, IsLegal, IsBadMove, HasPlanFault, key_of}
use Rattle.model.specs.Laws.Options.{some-found}
use Rattle.model.specs.Laws.Places.{same_place}
use Rattle.checker.specs.declared.board.Square.{Square}
use Rattle.checker.specs.declared.crowd.Walker.{Walker}
use Rattle.checker.specs.declared.crowd.Turns.{Turns}
use Rattle.checker.specs.Code.Standing.{IsOnGrid, place_in}
use Rattle.checker.specs.Code.Walking.{ArePassable}
use Rattle.checker.specs.Code.Squares.{ground_in, square_at, ground_by, wide_of, place_on, IsOpen, HasGround, IsSquareOf, IsBoard}
use Rattle.checker.specs.Code.Crowd.{number_of_act, against_of, led_to, walker_at, act_at, comes_to, AreActTurns, KeepGrounds, AreLed, AreAllowed, first_mark, AreMarksOf}
use Rattle.checker.specs.Code.UnderWay.{IsWalker, IsAtRest, AreUnderWay, AreActs}
use Rattle.checker.specs.Code.Watching.{IsClean, IsSeen}
use Rattle.checker.specs.Laws.Walking.{bad-has_act, beside_by, step_from_legal, legal_from_step, terrain_on, position-moved, position-stays}
use Rattle.checker.proofs.FaultLemmas.{clean_more}
use Rattle.checker.proofs.TimeLemmas.{in_cell_clean}
use Rattle.checker.proofs.BoardLemmas.{from_place, to_place}
use Rattle.checker.proofs.SquareLemmas.{one_ground}
use Rattle.checker.proofs.GroundLemmas.{joined_by, grounds_joined}

after_act : (course : Course) (step : ℕ) (act : Act) → slice_get course.acts step ≡ Some act → position_at course (step + 1) ≡ moved act (position_at course step)
after_act course step act is =
    ap (position_at course) (omega arith) ∙ position-moved (position_of course.start) course.acts step act is

pub next_position : (course : Course) (t : ℕ) → position_at course (t + 1) ≡ moved (get_or course.acts t Wait) (position_at course t)
next_position course t = elim (cases_lt t (length course.acts)) [
  | inl less ↦ after_act course t (get_or course.acts t Wait) (slice_get-get_or course.acts t Wait less)
  | inr past ↦ position-stays (position_of course.start) course.acts t (t + 1) past (omega arith)
      ∙ sym (ap (λ a. moved a (position_at course t)) (get_or_past course.acts t Wait past))
]

-- the walker as its act leads it
abbrev pub led_by : Turns → List Act → List Walker → ℕ → Walker
led_by turns acts walkers k = record (walker_at walkers k) { place = comes_to turns acts walkers k }

-- all walkers come to cells of their ground
abbrev pub AllCome : Grid → List Course → ℕ → Turns → List Act → List Walker → Type 0
AllCome m courses step turns acts walkers = (k : ℕ) → k < length walkers → IsWalker m courses (step + 1) (led_by turns acts walkers k)

-- the position after the step, by the act in the row
leads_on : (course : Course) (step : ℕ) (act : Act) (u v : Cell) → act ≡ get_or course.acts step Wait → position_of u ≡ position_at course step
    → position_of v ≡ moved act (position_of u) → position_of v ≡ position_at course (step + 1)
leads_on course step act u v is at to =
    to ∙ ap (moved act) at ∙ ap (λ a. moved a (position_at course step)) is ∙ sym (next_position course step)

leads_back : (course : Course) (step : ℕ) (act : Act) (u v : Cell) → act ≡ get_or course.acts step Wait → position_of u ≡ position_at course step
    → position_of v ≡ position_at course (step + 1) → position_of v ≡ moved act (position_of u)
leads_back course step act u v is at to =
    to ∙ next_position course step ∙ ap (λ a. moved a (position_at course step)) (sym is) ∙ sym (ap (moved act) at)

-- by what the squares tell
pub come_allowed : (m : Grid) (courses : List Course) (step : ℕ) (turns : Turns) (acts : List Act) (walkers : List Walker) (squares : List Square)
    → AreActTurns (wide_of m) turns → AreUnderWay m courses step walkers squares → AreActs courses step walkers acts
    → AreAllowed turns acts walkers squares (length walkers) → AllCome m courses step turns acts walkers
come_allowed m courses step turns acts walkers squares h now are allowed k less =
    let w = now.walkers_are k less in
    let own = (walker_at walkers k).ground in
    let to = comes_to turns acts walkers k in
    let act = act_at acts k in
    let there = subst (IsSquareOf m to) (allowed.ground k less) (now.board.cells to (subst IsOpen (sym (allowed.ground k less)) w.may_go)) in
    let moves = from_place m turns act w.cell there.cell h w.ground.on_map there.ground.on_map
    (sym there.at ∙ ap (led_to turns act) w.place) in
    record {
      course = w.course;
      is_agent = w.is_agent;
      cell = there.cell;
      at = leads_on w.course step act w.cell there.cell (are k w.course less w.is_agent) w.at moves;
      place = there.at;
      ground = there.ground;
      may_go = w.may_go;
    }

-- ---- no bad move

pub no_bad_move : (m : Grid) (courses : List Course) (step : ℕ) (from to : Walker) → (w : IsWalker m courses step from) → (v : IsWalker m courses (step + 1) to)
    → from.agent ≡ to.agent → from.ground ≡ to.ground → (course : Course) → slice_get courses from.agent ≡ Some course → IsBadMove m course step → ⊥
no_bad_move m courses step from to w v agent ground course is bad =
    let one : w.course ≡ course = (let a = w.is_agent in cc) in
    let two : v.course ≡ course = (let a = v.is_agent in cc) in
    let at_u : position_of w.cell ≡ position_at course step = w.at ∙ ap (λ k. position_at k step) one in
    let at_v : position_of v.cell ≡ position_at course (step + 1) = v.at ∙ ap (λ k. position_at k (step + 1)) two in
    let some = some-found (slice_get course.acts step) (λ act. (act ≢ Wait) × (IsLegal m (position_at course step) (position_at course (step + 1)) → ⊥)) bad in
    let act = some.0 in
    let moves : position_of v.cell ≡ moved act (position_of w.cell) =
    at_v ∙ after_act course step act some.1 ∙ sym (ap (moved act) at_u) in
    some.2.1 (
    subst (λ p. IsLegal m p (position_at course (step + 1))) at_u
    (legal_from_step m w.cell v.cell (position_at course (step + 1)) at_v (record {
      side = beside_by w.cell v.cell act some.2.0 moves;
      joined = joined_by m w.cell v.cell from.ground w.may_go w.ground (subst (HasGround m v.cell) (sym ground) v.ground);
    }))
    )

-- ---- exchanges

-- acts that lead to and fro are opposite
opposite : (first : ℕ) (a b : Act) (u v : Position) → u ≢ v → v ≡ moved a u → u ≡ moved b v → first + number_of_act a ≡ against_of first b
opposite first N N u v apart to back =
    let one : v.y ≡ u.y -ℤ pos 1 = ap (λ p. p.y) to in
    let two : u.y ≡ v.y -ℤ pos 1 = ap (λ p. p.y) back in
    absurd (omega (arith, ints, one, two))
opposite first N E u v apart to back =
    let one : v.x ≡ u.x = ap (λ p. p.x) to in
    let two : u.x ≡ v.x +ℤ pos 1 = ap (λ p. p.x) back in
    absurd (omega (arith, ints, one, two))
opposite first N S u v apart to back = omega arith
opposite first N W u v apart to back =
    let one : v.x ≡ u.x = ap (λ p. p.x) to in
    let two : u.x ≡ v.x -ℤ pos 1 = ap (λ p. p.x) back in
    absurd (omega (arith, ints, one, two))
opposite first N Wait u v apart to back = absurd (apart back)
opposite first E N u v apart to back =
    let one : v.x ≡ u.x +ℤ pos 1 = ap (λ p. p.x) to in
    let two : u.x ≡ v.x = ap (λ p. p.x) back in
    absurd (omega (arith, ints, one, two))
opposite first E E u v apart to back =
    let one : v.x ≡ u.x +ℤ pos 1 = ap (λ p. p.x) to in
    let two : u.x ≡ v.x +ℤ pos 1 = ap (λ p. p.x) back in
    absurd (omega (arith, ints, one, two))
opposite first E S u v apart to back =
    let one : v.x ≡ u.x +ℤ pos 1 = ap (λ p. p.x) to in
    let two : u.x ≡ v.x = ap (λ p. p.x) back in
    absurd (omega (arith, ints, one, two))
opposite first E W u v apart to back = omega arith
opposite first E Wait u v apart to back = absurd (apart back)
opposite first S N u v apart to back = omega arith
opposite first S E u v apart to back =
    let one : v.x ≡ u.x = ap (λ p. p.x) to in
    let two : u.x ≡ v.x +ℤ pos 1 = ap (λ p. p.x) back in
    absurd (omega (arith, ints, one, two))
opposite first S S u v apart to back =
    let one : v.y ≡ u.y +ℤ pos 1 = ap (λ p. p.y) to in
    let two : u.y ≡ v.y +ℤ pos 1 = ap (λ p. p.y) back in
    absurd (omega (arith, ints, one, two))
opposite first S W u v apart to back =
    let one : v.x ≡ u.x = ap (λ p. p.x) to in
    let two : u.x ≡ v.x -ℤ pos 1 = ap (λ p. p.x) back in
    absurd (omega (arith, ints, one, two))
opposite first S Wait u v apart to back = absurd (apart back)
opposite first W N u v apart to back =
    let one : v.x ≡ u.x -ℤ pos 1 = ap (λ p. p.x) to in
    let two : u.x ≡ v.x = ap (λ p. p.x) back in
    absurd (omega (arith, ints, one, two))
opposite first W E u v apart to back = omega arith
opposite first W S u v apart to back =
    let one : v.x ≡ u.x -ℤ pos 1 = ap (λ p. p.x) to in
    let two : u.x ≡ v.x = ap (λ p. p.x) back in
    absurd (omega (arith, ints, one, two))
opposite first W W u v apart to back =
    let one : v.x ≡ u.x -ℤ pos 1 = ap (λ p. p.x) to in
    let two : u.x ≡ v.x -ℤ pos 1 = ap (λ p. p.x) back in
    absurd (omega (arith, ints, one, two))
opposite first W Wait u v apart to back = absurd (apart back)
opposite first Wait N u v apart to back = absurd (apart (sym to))
opposite first Wait E u v apart to back = absurd (apart (sym to))
opposite first Wait S u v apart to back = absurd (apart (sym to))
opposite first Wait W u v apart to back = absurd (apart (sym to))
opposite first Wait Wait u v apart to back = absurd (apart (sym to))

-- where a walker is
pub at_of : (m : Grid) (p : Plan) (t : ℕ) (walker : Walker) (w : IsWalker m p.courses t walker) (i : ℕ) (place : Position) → walker.agent ≡ i → IsAt p i t place
    → position_of w.cell ≡ place
at_of m p t walker w i place is at =
    let some = some-found (course_of p i) (λ k. position_at k t ≡ place) at in
    let same : w.course ≡ some.0 = (let a = w.is_agent in let b = some.1 in cc) in
    w.at ∙ ap (λ k. position_at k t) same ∙ some.2

pub one_place : (m : Grid) (u v : Cell) → position_of u ≡ position_of v → place_on m u ≡ place_on m v
one_place m u v e = ap (place_on m) (same_place u v e)

-- ---- a step in which nothing is wrong

pub clean_after : (m : Grid) (p : Plan) (step : ℕ) (turns : Turns) (acts : List Act) (walkers : List Walker) (squares : List Square) → AreActTurns (wide_of m) turns
    → AreUnderWay m p.courses step walkers squares → AreActs p.courses step walkers acts → AreAllowed turns acts walkers squares (length walkers)
    → AllCome m p.courses step turns acts walkers → IsClean m p (step + 1) → IsClean m p (step + 1 + 1)
clean_after m p step turns acts walkers squares h now are allowed come clean = clean_more m p (step + 1) clean no_fault where
  -- two walkers come to different squares
  come_apart : (j k : ℕ) → j < length walkers → k < length walkers → (j ≡ k → ⊥) → comes_to turns acts walkers j ≢ comes_to turns acts walkers k
  come_apart j k less_j less_k other = λ one. elim (cases_order j k) [
    | inl same ↦ other same
    | inr (inl before) ↦ allowed.apart j k before less_k one
    | inr (inr after) ↦ allowed.apart k j after less_j (sym one)
  ]

  bad_move : (i : ℕ) (course : Course) → course_of p i ≡ Some course → IsBadMove m course step → ⊥
  bad_move i course there bad = elim (now.agents i course there) [
    | inl (k, less, is) ↦ no_bad_move m p.courses step (walker_at walkers k) (led_by turns acts walkers k) (now.walkers_are k less) (come k less) refl refl course
        (ap (slice_get p.courses) is ∙ there) bad
    | inr rest ↦ (let over = rest.over in let has = bad-has_act m course step bad in omega (arith, over, has))
  ]

  -- a walker does not come to where another is at rest
  not_held : (k : ℕ) → k < length walkers → (i : ℕ) (place : Position) → (walker_at walkers k).agent ≡ i → IsAt p i (step + 1) place
      → (j : ℕ) (course : Course) → course_of p j ≡ Some course → IsAtRest m course step squares → IsAt p j (step + 1) place → ⊥
  not_held k less i place is at j course there rest at_j =
      let v = come k less in
      let w = now.walkers_are k less in
      let some = some-found (course_of p j) (λ c. position_at c (step + 1) ≡ place) at_j in
      let same : some.0 ≡ course = (let a = some.1 in cc) in
      let stays : position_of rest.cell ≡ place =
      rest.at ∙ sym (position-stays (position_of course.start) course.acts step (step + 1) rest.over (omega arith)) ∙ sym (ap (λ c. position_at c (step + 1)) same) ∙ some.2 in
      let one : comes_to turns acts walkers k ≡ place_on m rest.cell =
      v.place ∙ one_place m v.cell rest.cell (at_of m p (step + 1) (led_by turns acts walkers k) v i place is at ∙ sym stays) in
      let ground : (walker_at walkers k).ground ≡ 3 = sym (allowed.ground k less) ∙ ap (λ n. ground_in (square_at squares n)) one ∙ rest.held in
      elim w.may_go [ inl e ↦ omega (arith, e, ground) | inr e ↦ omega (arith, e, ground) ]

  -- who is at rest was there already
  already : (i : ℕ) (course : Course) (place : Position) → course_of p i ≡ Some course → length course.acts ≤ step → IsAt p i (step + 1) place → IsAt p i step place
  already i course place there over at =
      let some = some-found (course_of p i) (λ c. position_at c (step + 1) ≡ place) at in
      let same : some.0 ≡ course = (let a = some.1 in cc) in
      subst (λ o. MatchOption o ⊥ (λ c. position_at c step ≡ place)) (sym there)
      (sym (position-stays (position_of course.start) course.acts step (step + 1) over (omega arith)) ∙ sym (ap (λ c. position_at c (step + 1)) same) ∙ some.2)

  vertex : (i j : ℕ) (cell : Cell) → i < j → IsAt p i (step + 1) (position_of cell) → IsAt p j (step + 1) (position_of cell) → ⊥
  vertex i j cell order at_i at_j =
      let one = some-found (course_of p i) (λ c. position_at c (step + 1) ≡ position_of cell) at_i in
      let two = some-found (course_of p j) (λ c. position_at c (step + 1) ≡ position_of cell) at_j in
      elim (now.agents i one.0 one.1) [
        | inl (k, less_k, is_k) ↦ elim (now.agents j two.0 two.1) [
          | inl (l, less_l, is_l) ↦
              let v = come k less_k in
              let w = come l less_l in
              come_apart k l less_k less_l (λ same. (let e = ap (λ n. (walker_at walkers n).agent) same in omega (arith, e, is_k, is_l, order)))
              (v.place
              ∙ one_place m v.cell w.cell
              (at_of m p (step + 1) (led_by turns acts walkers k) v i (position_of cell) is_k at_i ∙ sym (at_of m p (step + 1) (led_by turns acts walkers l) w j (position_of cell) is_l at_j))
              ∙ sym w.place)
          | inr rest ↦ not_held k less_k i (position_of cell) is_k at_i j two.0 two.1 rest at_j
        ]
        | inr rest ↦ elim (now.agents j two.0 two.1) [
          | inl (l, less_l, is_l) ↦ not_held l less_l j (position_of cell) is_l at_j i one.0 one.1 rest at_i
          | inr other ↦ clean (Vertex i j step cell) (order, already i one.0 (position_of cell) one.1 rest.over at_i, already j two.0 (position_of cell) two.1 other.over at_j) (omega arith)
        ]
      ]

  -- of two walkers that exchange their squares the later one is found
  exchange : (j k : ℕ) → j < k → k < length walkers → (a b : ℕ) (u v : Position) → (walker_at walkers j).agent ≡ a → (walker_at walkers k).agent ≡ b → u ≢ v
      → IsAt p a step u → IsAt p a (step + 1) v → IsAt p b step v → IsAt p b (step + 1) u → ⊥
  exchange j k order less a b u v is_a is_b other a_from a_to b_from b_to =
      let less_j : j < length walkers = omega (arith, order, less) in
      let from_j = now.walkers_are j less_j in
      let from_k = now.walkers_are k less in
      let to_j = come j less_j in
      let to_k = come k less in
      let at_j = at_of m p step (walker_at walkers j) from_j a u is_a a_from in
      let at_k = at_of m p step (walker_at walkers k) from_k b v is_b b_from in
      let then_j = at_of m p (step + 1) (led_by turns acts walkers j) to_j a v is_a a_to in
      let then_k = at_of m p (step + 1) (led_by turns acts walkers k) to_k b u is_b b_to in
      let there = to_j.place ∙ one_place m to_j.cell from_k.cell (then_j ∙ sym at_k) ∙ sym from_k.place in
      let moves_j : v ≡ moved (act_at acts j) u = walks j less_j u v from_j to_j at_j then_j in
      let moves_k : u ≡ moved (act_at acts k) v = walks k less v u from_k to_k at_k then_k in
      let mark = (h.each (act_at acts j)).mark in
      let against = (h.each (act_at acts k)).against in
      allowed.against j k order less there (mark ∙ opposite turns.first (act_at acts j) (act_at acts k) u v other moves_j moves_k ∙ sym against)
    where
      walks : (n : ℕ) → n < length walkers → (q r : Position) (x : IsWalker m p.courses step (walker_at walkers n))
          (y : IsWalker m p.courses (step + 1) (led_by turns acts walkers n)) → position_of x.cell ≡ q → position_of y.cell ≡ r → r ≡ moved (act_at acts n) q
      walks n less_n q r x y at_q at_r =
          let same : y.course ≡ x.course = (let e = x.is_agent in let f = y.is_agent in cc) in
          let is = are n x.course less_n x.is_agent in
          sym at_r ∙ leads_back x.course step (act_at acts n) x.cell y.cell is x.at (y.at ∙ ap (λ c. position_at c (step + 1)) same) ∙ ap (moved (act_at acts n)) at_q

  stands : (i : ℕ) (course : Course) (u v : Position) → course_of p i ≡ Some course → length course.acts ≤ step → IsAt p i step u → IsAt p i (step + 1) v → u ≡ v
  stands i course u v there over from to =
      let one = some-found (course_of p i) (λ c. position_at c step ≡ u) from in
      let two = some-found (course_of p i) (λ c. position_at c step ≡ v) (already i course v there over to) in
      let same : one.0 ≡ two.0 = (let e = one.1 in let f = two.1 in cc) in
      sym one.2 ∙ ap (λ c. position_at c step) same ∙ two.2

  swap : (i j : ℕ) (u v : Position) → i < j → u ≢ v → IsAt p i step u → IsAt p i (step + 1) v → IsAt p j step v → IsAt p j (step + 1) u → ⊥
  swap i j u v order other i_from i_to j_from j_to =
      let one = some-found (course_of p i) (λ c. position_at c step ≡ u) i_from in
      let two = some-found (course_of p j) (λ c. position_at c step ≡ v) j_from in
      elim (now.agents i one.0 one.1) [
        | inl (k, less_k, is_k) ↦ elim (now.agents j two.0 two.1) [
          | inl (l, less_l, is_l) ↦ elim (cases_order k l) [
            | inr (inl before) ↦ exchange k l before less_l i j u v is_k is_l other i_from i_to j_from j_to
            | inl same ↦ (let e = ap (λ n. (walker_at walkers n).agent) same in omega (arith, e, is_k, is_l, order))
            | inr (inr after) ↦ exchange l k after less_k j i v u is_l is_k (λ e. other (sym e)) j_from j_to i_from i_to
          ]
          | inr rest ↦ other (sym (stands j two.0 v u two.1 rest.over j_from j_to))
        ]
        | inr rest ↦ other (stands i one.0 u v one.1 rest.over i_from i_to)
      ]

  no_fault : (fault : PlanFault) → HasPlanFault m p fault → (key_of fault).time ≡ step + 1 → ⊥
  no_fault (BadStart i) has time = omega (arith, time)
  no_fault (BadMove i other) has time =
      let some = some-found (course_of p i) (λ course. IsBadMove m course other) has in
      bad_move i some.0 some.1 (subst (IsBadMove m some.0) (omega (arith, time)) some.2)
  no_fault (Vertex i j time cell) (order, at_i, at_j) same =
      vertex i j cell order (subst (λ t. IsAt p i t (position_of cell)) same at_i) (subst (λ t. IsAt p j t (position_of cell)) same at_j)
  no_fault (Swap i j other) (order, u, v, apart, i_from, i_to, j_from, j_to) time =
      let same : other ≡ step = omega (arith, time) in
      swap i j u v order apart (subst (λ t. IsAt p i t u) same i_from) (subst (λ t. IsAt p i (t + 1) v) same i_to) (subst (λ t. IsAt p j t v) same j_from)
      (subst (λ t. IsAt p j (t + 1) u) same j_to)
  no_fault OutOfMemory has time = has

-- ---- the state after a step

pub board-kept : (m : Grid) (old new : List Square) → IsBoard m old → KeepGrounds old new → IsBoard m new
board-kept m old new board kept = record {
  size = kept.count ∙ board.size;
  cells = λ place may_go. (let same = kept.each place in
      subst (IsSquareOf m place) (sym same) (board.cells place (subst IsOpen same may_go)));
}

pub go_on : (m : Grid) (courses : List Course) (step : ℕ) (turns : Turns) (acts : List Act) (old new : List Walker) (squares after : List Square)
    → AreUnderWay m courses step old squares → AllCome m courses step turns acts old → AreLed turns acts old new → KeepGrounds squares after
    → AreUnderWay m courses (step + 1) new after
go_on m courses step turns acts old new squares after now come led kept =
    let count = led.count in
    record {
      board = board-kept m squares after now.board kept;
      walkers_are = λ k less. (let before : k < length old = omega (arith, less, count) in subst (IsWalker m courses (step + 1)) (sym (led.each k before)) (come k before));
      agents = λ i course there. elim (now.agents i course there) [
        | inl (k, less, is) ↦ inl (k, omega (arith, less, count), ap (λ w. w.agent) (led.each k less) ∙ is)
        | inr rest ↦ inr (record {
          over = (let over = rest.over in omega (arith, over));
          cell = rest.cell;
          at = rest.at ∙ sym (position-stays (position_of course.start) course.acts step (step + 1) rest.over (omega arith));
          held = kept.each (place_on m rest.cell) ∙ rest.held;
        })
      ];
    }

ground_on : (m : Grid) (c : Cell) → IsMap m → IsOnGrid m c → (g : ℕ) × HasGround m c g
ground_on m c is_map on =
    let count = is_map.cells in
    let within = mul-add-lt c.y m.width c.x m.height on.row on.column in
    let t = get_or m.terrain (place_in m.width c) Floor in (
      ground_by (character_of t),
      record { on_map = on; terrain = t; has = terrain_on m c is_map on (omega (arith, count, within)); ground = refl },
    )

-- the act of a step is none, a wait, or another one
one_of_three : (o : Option Act) → ((o ≡ None) ⊎ (o ≡ Some Wait)) ⊎ ((act : Act) × (o ≡ Some act) × (act ≢ Wait))
one_of_three None = inl (inl refl)
one_of_three (Some N) = inr (N, refl, λ e. cc)
one_of_three (Some E) = inr (E, refl, λ e. cc)
one_of_three (Some S) = inr (S, refl, λ e. cc)
one_of_three (Some W) = inr (W, refl, λ e. cc)
one_of_three (Some Wait) = inl (inr refl)

wait_from : (acts : List Act) (step : ℕ) → (slice_get acts step ≡ None) ⊎ (slice_get acts step ≡ Some Wait) → get_or acts step Wait ≡ Wait
wait_from acts step (inl none) = elim (cases_lt step (length acts)) [
  | inl less ↦ (let some = slice_get-get_or acts step Wait less in cc)
  | inr past ↦ get_or_past acts step Wait past
]
wait_from acts step (inr waits) = get_or_from_slice_get acts step Wait Wait waits

-- by what is known of the agents' cells, where the step is known to have no fault
pub come_clean : (m : Grid) (p : Plan) (step : ℕ) (turns : Turns) (acts : List Act) (walkers : List Walker) (squares : List Square) → IsMap m
    → AreActTurns (wide_of m) turns → AreUnderWay m p.courses step walkers squares → AreActs p.courses step walkers acts → ArePassable m p.courses
    → IsClean m p (step + 1 + 1) → AllCome m p.courses step turns acts walkers
come_clean m p step turns acts walkers squares is_map h now are passable clean k less =
    let w = now.walkers_are k less in
    let i = (walker_at walkers k).agent in
    let next = in_cell_clean m p (step + 1) i w.course passable clean w.is_agent in
    let v = next.cell in
    let at_v = next.at in
    let act = act_at acts k in
    let is = are k w.course less w.is_agent in
    let moves = leads_back w.course step act w.cell v is w.at at_v in
    let there = ground_on m v is_map next.on_map in
    let stays : get_or w.course.acts step Wait ≡ Wait → (walker_at walkers k).ground ≡ there.0 = λ waits. (
    let same : v ≡ w.cell = same_place v w.cell (moves ∙ ap (λ a. moved a (position_of w.cell)) (is ∙ waits)) in
    one_ground m w.cell (walker_at walkers k).ground there.0 w.ground (subst (λ c. HasGround m c there.0) same there.1)
    ) in
    let ground : (walker_at walkers k).ground ≡ there.0 = elim (one_of_three (slice_get w.course.acts step)) [
      | inl waits ↦ stays (wait_from w.course.acts step waits)
      | inr (other, there_is, goes) ↦ elim (cases_eq (walker_at walkers k).ground there.0) [
        | inl same ↦ same
        | inr apart ↦ absurd (clean (BadMove i step)
            (subst (λ o. MatchOption o ⊥ (λ course. IsBadMove m course step)) (sym w.is_agent)
            (subst (λ o. MatchOption o ⊥ (λ a. (a ≢ Wait) × (IsLegal m (position_at w.course step) (position_at w.course (step + 1)) → ⊥))) (sym there_is) (
              goes,
              λ legal. apart (grounds_joined m w.cell v (walker_at walkers k).ground there.0 w.ground there.1
                  (step_from_legal m w.cell v (position_at w.course (step + 1)) at_v (subst (λ q. IsLegal m q (position_at w.course (step + 1))) (sym w.at) legal)).joined),
            )))
            (omega arith))
      ]
    ] in
    record {
      course = w.course;
      is_agent = w.is_agent;
      cell = v;
      at = at_v;
      place = ap (led_to turns act) w.place ∙ to_place m turns act w.cell v h moves;
      ground = subst (HasGround m v) (sym ground) there.1;
      may_go = w.may_go;
    }

-- ---- what a look at a step comes to

pub if_past : {F E : Type 0} (r : Result (Option F) E) (A B : Type 0) (P : F → Type 0) → (A → B) → IfOk r (λ o. MatchOption o A P) → IfOk r (λ o. MatchOption o B P)
if_past (Ok None) A B P f h = f h
if_past (Ok (Some x)) A B P f h = h
if_past (Err e) A B P f h = h

pub seen-past : (m : Grid) (p : Plan) (step : ℕ) (turns : Turns) (acts : List Act) (old new : List Walker) (squares after : List Square) → IsMap m
    → AreActTurns (wide_of m) turns → AreUnderWay m p.courses step old squares → AreActs p.courses step old acts → AreLed turns acts old new
    → KeepGrounds squares after → AreMarksOf (first_mark (step + 1 + 1)) new after → ArePassable m p.courses → IsClean m p (step + 1 + 1)
    → IsSeen m p (step + 1) new after
seen-past m p step turns acts old new squares after is_map h now are led kept marks passable clean = record {
  under_way = go_on m p.courses step turns acts old new squares after now
      (come_clean m p step turns acts old squares is_map h now are passable clean) led kept;
  clean = clean;
  marks = marks;
}

pub seen-allowed : (m : Grid) (p : Plan) (step : ℕ) (turns : Turns) (acts : List Act) (old new : List Walker) (squares after : List Square)
    → AreActTurns (wide_of m) turns → IsSeen m p step old squares → AreActs p.courses step old acts → AreLed turns acts old new
    → KeepGrounds squares after → AreMarksOf (first_mark (step + 1 + 1)) new after → AreAllowed turns acts old squares (length old) → IsSeen m p (step + 1) new after
seen-allowed m p step turns acts old new squares after h seen are led kept marks allowed =
    let come = come_allowed m p.courses step turns acts old squares h seen.under_way are allowed in
    record {
      under_way = go_on m p.courses step turns acts old new squares after seen.under_way come led kept;
      clean = clean_after m p step turns acts old squares h seen.under_way are allowed come seen.clean;
      marks = marks;
    }
