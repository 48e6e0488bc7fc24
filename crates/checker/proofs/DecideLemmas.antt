-- Whether there is a fault with a key: what the map and the courses say of it is known.
use Rattle.std.proofs.Common.{◌≡◌, ◌≢◌, ℕ, zero, suc, ◌+◌, ◌<◌, ◌≤◌, ◌^◌, ℤ, pos, negsuc, Bool, None, Some, inl, inr, arith, refl, sym, ap, subst, ◌∙◌}
use Rattle.std.specs.Prelude.{◌⊎◌, IsTrue, Option, MatchOption, nat_abs, slice_get}
use Rattle.std.proofs.lemmas.Bool.{cases_lt, cases_eq, cases_Bool, false≢true}
use Rattle.grid.specs.declared.cell.Cell.{Cell}
use Rattle.grid.specs.declared.terrain.Terrain.{Terrain}
use Rattle.grid.specs.declared.terrain.Terrain.TheVariants.{Floor, Grass, Void, OutOfBounds, Trees, Swamp, Water}
use Rattle.grid.specs.Terrain.{blocked, class_of, joins}
use Rattle.grid.specs.Map.{Grid, terrain_at, AreNext, ShareSide, AreJoined, IsStraightStep}
use Rattle.model.specs.declared.act.Act.{Act}
use Rattle.model.specs.declared.act.Act.TheVariants.{N, E, S, W, Wait}
use Rattle.model.specs.declared.plan_fault.PlanFault.{PlanFault}
use Rattle.model.specs.declared.plan_fault.PlanFault.TheVariants.{BadStart, BadMove, Vertex, Swap, OutOfMemory}
use Rattle.model.specs.Plan.{Position, position_of, Course, Plan, position_at, course_of, IsAt, IsPassable, IsLegal, IsBadMove, HasPlanFault, key_of, longest_of}
use Rattle.model.specs.Laws.Places.{same_place}
use Rattle.checker.specs.AllFaults.{IsFaultTold}
use Rattle.checker.specs.Code.Known.{key_with}
use Rattle.checker.proofs.SameFaults.{one_place}
use Rattle.checker.proofs.ConflictLemmas.{vertex-only, swap-only}
use Rattle.checker.proofs.SingleLemmas.{start-is, move-is, move-time, from_course, single_second}

abbrev Known : Type 0 → Type 0
Known P = P ⊎ (P → ⊥)

both : (P Q : Type 0) → Known P → Known Q → Known (P × Q)
both P Q (inl p) (inl q) = inl (p, q)
both P Q (inl p) (inr none) = inr (λ h. none h.1)
both P Q (inr none) q = inr (λ h. none h.0)

either : (P Q : Type 0) → Known P → Known Q → Known (P ⊎ Q)
either P Q (inl p) q = inl (inl p)
either P Q (inr none) (inl q) = inl (inr q)
either P Q (inr none) (inr other) = inr (λ h. elim h [ inl p ↦ none p | inr q ↦ other q ])

denied : (P : Type 0) → Known P → Known (P → ⊥)
denied P (inl p) = inr (λ none. none p)
denied P (inr none) = inl none

number : (a b : ℕ) → Known (a ≡ b)
number a b = cases_eq a b

truth : (b : Bool) → Known (IsTrue b)
truth b = elim (cases_Bool b) [ inl is ↦ inl is | inr not ↦ inr (λ is. false≢true (sym not ∙ is)) ]

less : (a b : ℕ) → Known (a < b)
less a b = elim (cases_lt a b) [ inl under ↦ inl under | inr past ↦ inr (λ under. omega (arith, under, past)) ]

-- ---- places

integer : (x y : ℤ) → Known (x ≡ y)
integer (pos a) (pos b) = elim (cases_eq a b) [ inl e ↦ inl (ap pos e) | inr ne ↦ inr (λ e. ne (ap nat_abs e)) ]
integer (pos a) (negsuc b) = inr (λ e. cc)
integer (negsuc a) (pos b) = inr (λ e. cc)
integer (negsuc a) (negsuc b) = elim (cases_eq a b) [ inl e ↦ inl (ap negsuc e) | inr ne ↦ inr (λ e. ne (let same : a ≡ b = cc in same)) ]

position : (u v : Position) → Known (u ≡ v)
position u v = elim (both (u.x ≡ v.x) (u.y ≡ v.y) (integer u.x v.x) (integer u.y v.y)) [
  | inl e ↦ inl (ap {A = ℤ} {B = Position} (λ x. record { x = x; y = u.y }) e.0 ∙ ap {A = ℤ} {B = Position} (λ y. record { x = v.x; y = y }) e.1)
  | inr ne ↦ inr (λ e. ne (ap (λ q. q.x) e, ap (λ q. q.y) e))
]

cell-by : (x y : ℤ) → Known ((c : Cell) × (position_of c ≡ record { x = x; y = y }))
cell-by (pos a) (pos b) = inl (record { x = a; y = b }, refl)
cell-by (negsuc a) y = inr (λ (c, e). (let h : pos c.x ≡ negsuc a = ap (λ q. q.x) e in cc))
cell-by (pos a) (negsuc b) = inr (λ (c, e). (let h : pos c.y ≡ negsuc b = ap (λ q. q.y) e in cc))

cell-in : (p : Position) → Known ((c : Cell) × (position_of c ≡ p))
cell-in p = cell-by p.x p.y

-- ---- the ground

terrain-known : (o : Option Terrain) → Known (MatchOption o ⊥ (λ t. class_of t ≢ blocked))
terrain-known None = inr (λ h. h)
terrain-known (Some Floor) = inl (λ e. cc)
terrain-known (Some Grass) = inl (λ e. cc)
terrain-known (Some Void) = inr (λ h. h refl)
terrain-known (Some OutOfBounds) = inr (λ h. h refl)
terrain-known (Some Trees) = inr (λ h. h refl)
terrain-known (Some Swamp) = inl (λ e. cc)
terrain-known (Some Water) = inl (λ e. cc)

passable-known : (m : Grid) (c : Cell) → Known (IsPassable m c)
passable-known m c = terrain-known (terrain_at m c)

next-known : (a b : ℕ) → Known (AreNext a b)
next-known a b = either (a ≡ b + 1) (b ≡ a + 1) (number a (b + 1)) (number b (a + 1))

side-known : (u v : Cell) → Known (ShareSide u v)
side-known u v =
    either ((u.x ≡ v.x) × AreNext u.y v.y) ((u.y ≡ v.y) × AreNext u.x v.x)
    (both (u.x ≡ v.x) (AreNext u.y v.y) (number u.x v.x) (next-known u.y v.y)) (both (u.y ≡ v.y) (AreNext u.x v.x) (number u.y v.y) (next-known u.x v.x))

joined-known : (s t : Option Terrain) → Known (AreJoined s t)
joined-known None t = inr (λ h. h)
joined-known (Some s) None = inr (λ h. h)
joined-known (Some s) (Some t) = truth (joins (class_of s) (class_of t))

step-known : (m : Grid) (u v : Cell) → Known (IsStraightStep m u v)
step-known m u v = elim (both (ShareSide u v) (AreJoined (terrain_at m u) (terrain_at m v)) (side-known u v) (joined-known (terrain_at m u) (terrain_at m v))) [
  | inl h ↦ inl (record { side = h.0; joined = h.1 })
  | inr none ↦ inr (λ h. none (h.side, h.joined))
]

legal-known : (m : Grid) (from to : Position) → Known (IsLegal m from to)
legal-known m from to = elim (cell-in from) [
  | inr none ↦ inr (λ h. none (h.u, h.is_from))
  | inl u ↦ elim (cell-in to) [
    | inr none ↦ inr (λ h. none (h.v, h.is_to))
    | inl v ↦ elim (step-known m u.0 v.0) [
      | inl step ↦ inl (record { u = u.0; v = v.0; is_from = u.1; is_to = v.1; step = step })
      | inr none ↦ inr (λ h. none (
          subst (λ c. IsStraightStep m c v.0) (same_place h.u u.0 (h.is_from ∙ sym u.1))
          (subst (λ c. IsStraightStep m h.u c) (same_place h.v v.0 (h.is_to ∙ sym v.1)) h.step)))
    ]
  ]
]

moves-known : (act : Act) → Known (act ≢ Wait)
moves-known N = inl (λ e. cc)
moves-known E = inl (λ e. cc)
moves-known S = inl (λ e. cc)
moves-known W = inl (λ e. cc)
moves-known Wait = inr (λ h. h refl)

move-known : (o : Option Act) (P : Type 0) → Known P → Known (MatchOption o ⊥ (λ act. (act ≢ Wait) × P))
move-known None P known = inr (λ h. h)
move-known (Some act) P known = both (act ≢ Wait) P (moves-known act) known

bad-known : (m : Grid) (course : Course) (step : ℕ) → Known (IsBadMove m course step)
bad-known m course step =
    move-known (slice_get course.acts step) (IsLegal m (position_at course step) (position_at course (step + 1)) → ⊥)
    (denied (IsLegal m (position_at course step) (position_at course (step + 1))) (legal-known m (position_at course step) (position_at course (step + 1))))

-- ---- agents

course-known : (o : Option Course) → ((course : Course) × (o ≡ Some course)) ⊎ (o ≡ None)
course-known None = inr refl
course-known (Some course) = inl (course, refl)

at-known : (o : Option Course) (t : ℕ) → ((u : Position) × MatchOption o ⊥ (λ course. position_at course t ≡ u)) ⊎ ((u : Position) → MatchOption o ⊥ (λ course. position_at course t ≡ u) → ⊥)
at-known None t = inr (λ u h. h)
at-known (Some course) t = inl (position_at course t, refl)

-- whether the agent is in the place
is-at-known : (p : Plan) (i t : ℕ) (u : Position) → Known (IsAt p i t u)
is-at-known p i t u = elim (at-known (course_of p i) t) [
  | inr none ↦ inr (none u)
  | inl at ↦ elim (position at.0 u) [ inl e ↦ inl (subst (IsAt p i t) e at.1) | inr ne ↦ inr (λ h. ne (one_place p i t at.0 u at.1 h)) ]
]

-- ---- faults

-- the plan has a fault with this key that is told
abbrev pub HasFaultAt : Grid → Plan → (t r i j : ℕ) → Type 0
HasFaultAt m p t r i j = (f : PlanFault) × HasPlanFault m p f × IsFaultTold p f × (key_of f ≡ key_with t r i j)

numbers-of : (f : PlanFault) (t r i j : ℕ) → key_of f ≡ key_with t r i j → ((key_of f).time ≡ t) × ((key_of f).rank ≡ r) × ((key_of f).first ≡ i) × ((key_of f).second ≡ j)
numbers-of f t r i j e = (ap (λ k. k.time) e, ap (λ k. k.rank) e, ap (λ k. k.first) e, ap (λ k. k.second) e)

no-agent : (m : Grid) (p : Plan) (f : PlanFault) (r i : ℕ) → course_of p i ≡ None → HasPlanFault m p f → (key_of f).rank ≡ 0 → (key_of f).first ≡ i → ⊥
no-agent m p (BadStart k) r i none has rank first = subst (λ o. MatchOption o ⊥ (λ c. IsPassable m c.start → ⊥)) none (subst (λ n. HasPlanFault m p (BadStart n)) first has)
no-agent m p (BadMove k s) r i none has rank first = subst (λ o. MatchOption o ⊥ (λ c. IsBadMove m c s)) none (subst (λ n. HasPlanFault m p (BadMove n s)) first has)
no-agent m p (Vertex k j t c) r i none has rank first = omega (arith, rank)
no-agent m p (Swap k j s) r i none has rank first = omega (arith, rank)
no-agent m p OutOfMemory r i none has rank first = has

start-known : (m : Grid) (p : Plan) (i : ℕ) → Known (HasFaultAt m p 0 0 i 0)
start-known m p i = elim (course-known (course_of p i)) [
  | inr none ↦ inr (λ h. (let n = numbers-of h.0 0 0 i 0 h.3 in no-agent m p h.0 0 i none h.1 n.1 n.2))
  | inl own ↦ elim (passable-known m own.0.start) [
    | inl good ↦ inr (λ h. (let n = numbers-of h.0 0 0 i 0 h.3 in start-is m p i own.0 own.1 h.0 h.1 n.0 n.1 n.2 good))
    | inr bad ↦ inl (BadStart i, from_course (course_of p i) own.0 (λ c. IsPassable m c.start → ⊥) own.1 bad, omega arith, refl)
  ]
]

bad-move-known : (m : Grid) (p : Plan) (s i : ℕ) → Known (HasFaultAt m p (s + 1) 0 i 0)
bad-move-known m p s i = elim (course-known (course_of p i)) [
  | inr none ↦ inr (λ h. (let n = numbers-of h.0 (s + 1) 0 i 0 h.3 in no-agent m p h.0 0 i none h.1 n.1 n.2))
  | inl own ↦ elim (bad-known m own.0 s) [
    | inr good ↦ inr (λ h. (let n = numbers-of h.0 (s + 1) 0 i 0 h.3 in good (move-is m p i own.0 own.1 s h.0 h.1 n.0 n.1 n.2)))
    | inl bad ↦ inl (BadMove i s, from_course (course_of p i) own.0 (λ c. IsBadMove m c s) own.1 bad, move-time m p i own.0 own.1 s bad, refl)
  ]
]

-- what is known of one cell is known of the cell in which the agent is
vertex-known : (m : Grid) (p : Plan) (t i j : ℕ) → Known (HasFaultAt m p t 1 i j)
vertex-known m p t i j = elim (both (i < j) (t < longest_of p.courses + 1) (less i j) (less t (longest_of p.courses + 1))) [
  | inr none ↦ inr (λ h. none (
      let n = numbers-of h.0 t 1 i j h.3 in
      let order = (of-key h).0 in
      let time = n.0 in
      let told = told-time h.0 h.2 in
      (order, omega (arith, time, told))))
  | inl numbers ↦ elim (at-known (course_of p i) t) [
    | inr none ↦ inr (λ h. none (position_of (of-key h).1.0) (of-key h).1.3)
    | inl at ↦ elim (cell-in at.0) [
      | inr none ↦ inr (λ h. none ((of-key h).1.0, one_place p i t (position_of (of-key h).1.0) at.0 (of-key h).1.3 at.1))
      | inl cell ↦ elim (both ((cell.0.x < 2 ^ 16) × (cell.0.y < 2 ^ 16)) (IsAt p j t (position_of cell.0))
          (both (cell.0.x < 2 ^ 16) (cell.0.y < 2 ^ 16) (less cell.0.x (2 ^ 16)) (less cell.0.y (2 ^ 16))) (is-at-known p j t (position_of cell.0))) [
            | inl there ↦ (
                let past = numbers.1 in
                inl (Vertex i j t cell.0, (numbers.0, subst (IsAt p i t) (sym cell.1) at.1, there.1), (omega (arith, past), there.0.0, there.0.1), refl)
                )
            | inr none ↦ inr (λ h. none (
                let own = (of-key h).1 in
                let same = same_place own.0 cell.0 (one_place p i t (position_of own.0) at.0 own.3 at.1 ∙ sym cell.1) in
                subst (λ c. ((c.x < 2 ^ 16) × (c.y < 2 ^ 16)) × IsAt p j t (position_of c)) same ((own.1, own.2), own.4)))
          ]
    ]
  ]
] where
  told-time : (f : PlanFault) → IsFaultTold p f → (key_of f).time ≤ longest_of p.courses
  told-time (BadStart k) h = h
  told-time (BadMove k s) h = h
  told-time (Vertex k l s c) h = h.0
  told-time (Swap k l s) h = h
  told-time OutOfMemory h = h

  of-key : HasFaultAt m p t 1 i j → (i < j) × ((cell : Cell) × (cell.x < 2 ^ 16) × (cell.y < 2 ^ 16) × IsAt p i t (position_of cell) × IsAt p j t (position_of cell))
  of-key h =
      let second = (numbers-of h.0 t 1 i j h.3).3 in
      subst (λ n. (i < n) × ((cell : Cell) × (cell.x < 2 ^ 16) × (cell.y < 2 ^ 16) × IsAt p i t (position_of cell) × IsAt p n t (position_of cell))) second
      (vertex-only m p t i h.0 h.1 h.2 (h.3 ∙ ap (key_with t 1 i) (sym second)))

swap-known : (m : Grid) (p : Plan) (s i j : ℕ) → Known (HasFaultAt m p (s + 1) 2 i j)
swap-known m p s i j = elim (both (i < j) (s < longest_of p.courses) (less i j) (less s (longest_of p.courses))) [
  | inr none ↦ inr (λ h. none ((of-key h).0, swap-time h.0 h.2 (numbers-of h.0 (s + 1) 2 i j h.3)))
  | inl numbers ↦ elim (at-known (course_of p i) s) [
    | inr none ↦ inr (λ h. none (of-key h).1.0 (of-key h).1.3)
    | inl from ↦ elim (at-known (course_of p i) (s + 1)) [
      | inr none ↦ inr (λ h. none (of-key h).1.1 (of-key h).1.4)
      | inl to ↦ elim (both ((from.0 ≡ to.0) → ⊥) (IsAt p j s to.0 × IsAt p j (s + 1) from.0) (denied (from.0 ≡ to.0) (position from.0 to.0))
          (both (IsAt p j s to.0) (IsAt p j (s + 1) from.0) (is-at-known p j s to.0) (is-at-known p j (s + 1) from.0))) [
            | inl there ↦ (
                let within = numbers.1 in
                inl (Swap i j s, (numbers.0, from.0, to.0, there.0, from.1, to.1, there.1.0, there.1.1), omega (arith, within), refl)
                )
            | inr none ↦ inr (λ h. none (
                let own = (of-key h).1 in
                let at_from = one_place p i s own.0 from.0 own.3 from.1 in
                let at_to = one_place p i (s + 1) own.1 to.0 own.4 to.1 in
                (λ e. own.2 (at_from ∙ e ∙ sym at_to), (subst (IsAt p j s) at_to own.5, subst (IsAt p j (s + 1)) at_from own.6))))
          ]
    ]
  ]
] where
  swap-time : (f : PlanFault) → IsFaultTold p f → ((key_of f).time ≡ s + 1) × ((key_of f).rank ≡ 2) × ((key_of f).first ≡ i) × ((key_of f).second ≡ j) → s < longest_of p.courses
  swap-time (BadStart k) h n = absurd (let rank = n.1 in omega (arith, rank))
  swap-time (BadMove k r) h n = absurd (let rank = n.1 in omega (arith, rank))
  swap-time (Vertex k l r c) h n = absurd (let rank = n.1 in omega (arith, rank))
  swap-time (Swap k l r) h n = let time = n.0 in omega (arith, time, h)
  swap-time OutOfMemory h n = absurd (let rank = n.1 in omega (arith, rank))

  of-key : HasFaultAt m p (s + 1) 2 i j → (i < j) × ((u : Position) × (v : Position) × (u ≢ v) × IsAt p i s u × IsAt p i (s + 1) v × IsAt p j s v × IsAt p j (s + 1) u)
  of-key h =
      let second = (numbers-of h.0 (s + 1) 2 i j h.3).3 in
      subst (λ n. (i < n) × ((u : Position) × (v : Position) × (u ≢ v) × IsAt p i s u × IsAt p i (s + 1) v × IsAt p n s v × IsAt p n (s + 1) u)) second
      (swap-only m p s i h.0 h.1 (h.3 ∙ ap (key_with (s + 1) 2 i) (sym second)))

-- ---- all ranks

step-of : (t : ℕ) → (t ≡ 0) ⊎ ((s : ℕ) × (t ≡ s + 1))
step-of zero = inl refl
step-of (suc s) = inr (s, omega arith)

single-known : (m : Grid) (p : Plan) (t i j : ℕ) → Known (HasFaultAt m p t 0 i j)
single-known m p t i zero = elim (step-of t) [
  | inl start ↦ subst (λ n. Known (HasFaultAt m p n 0 i 0)) (sym start) (start-known m p i)
  | inr later ↦ subst (λ n. Known (HasFaultAt m p n 0 i 0)) (sym later.1) (bad-move-known m p later.0 i)
]
single-known m p t i (suc j) = inr (λ h. (
    let n = numbers-of h.0 t 0 i (suc j) h.3 in
    let second = n.3 in
    single_second m p h.0 h.1 n.1 (omega (arith, second))))

pair-known : (m : Grid) (p : Plan) (t i j : ℕ) → Known (HasFaultAt m p t 2 i j)
pair-known m p t i j = elim (step-of t) [
  | inl start ↦ inr (λ h. (let n = numbers-of h.0 t 2 i j h.3 in no-swap-at h.0 n.1 (n.0 ∙ start)))
  | inr later ↦ subst (λ n. Known (HasFaultAt m p n 2 i j)) (sym later.1) (swap-known m p later.0 i j)
] where
  no-swap-at : (f : PlanFault) → (key_of f).rank ≡ 2 → (key_of f).time ≡ 0 → ⊥
  no-swap-at (BadStart k) rank time = omega (arith, rank)
  no-swap-at (BadMove k r) rank time = omega (arith, rank)
  no-swap-at (Vertex k l r c) rank time = omega (arith, rank)
  no-swap-at (Swap k l r) rank time = omega (arith, time)
  no-swap-at OutOfMemory rank time = omega (arith, rank)

-- whether there is a fault with a key of a rank that there is
pub fault-known : (m : Grid) (p : Plan) (t r i j : ℕ) → r < 3 → Known (HasFaultAt m p t r i j)
fault-known m p t zero i j h = single-known m p t i j
fault-known m p t (suc zero) i j h = vertex-known m p t i j
fault-known m p t (suc (suc zero)) i j h = pair-known m p t i j
fault-known m p t (suc (suc (suc r))) i j h = absurd (omega (arith, h))
