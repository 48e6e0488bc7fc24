-- Each plan without vertex conflicts and swaps falls under one child of each node.
use Rattle.std.proofs.Common.{◌≡◌, ◌∙◌, ℕ, zero, suc, ◌+◌, ◌<◌, ◌≤◌, ◌⊎◌, Bool, true, false, List, [], ◌∷◌, Some, None, map, inl, inr, arith, refl, sym, ap, subst}
use Rattle.std.specs.Prelude.{◌==◌, ◌&&◌, if◌then◌else◌, MatchOption, Option, slice_get}
use Rattle.std.proofs.lemmas.Bool.{and_parts, cases_Bool, cases_lt, eq-eqb, eqb-true, false≢true, not-true}
use Rattle.std.proofs.lemmas.Option.{none-some, same_Some}
use Rattle.grid.specs.declared.cell.Cell.{Cell}
use Rattle.grid.specs.Map.{ShareSide}
use Rattle.model.specs.Costs.{cost, cost_after}
use Rattle.model.specs.Laws.Tracks.{cell_at-start, same_cell-same, same_cell-true}
use Rattle.model.specs.Timetable.{IsConflictFree, IsSwapFree, Stands, Timetable, Track, cell_after, cell_at, same_cell, track_of}
use Rattle.optimality.specs.declared.constraint.Constraint.{Constraint}
use Rattle.optimality.specs.declared.constraint.Constraint.TheVariants.{Above, Away, AwayFrom, NotTaken, There, Within}
use Rattle.optimality.specs.declared.constraint.Ends.{Ends}
use Rattle.optimality.specs.declared.node.Node.{Node}
use Rattle.optimality.specs.declared.node.Node.TheVariants.{Vertex, Swap, At, Goes, Stays}
use Rattle.optimality.specs.Constraints.{Meets, MeetsDemand, MeetsDemands}
use Rattle.optimality.specs.Splitting.{IsNode, all_but, ends_of, first_demands, goal_of, only, second_demands}

abbrev done : Unit {0}
done = tt

-- ---- an agent stands there, or not

cell_or_not : (u v : Cell) → (u ≡ v) ⊎ (u ≡ v → ⊥)
cell_or_not u v = elim (cases_Bool (same_cell u v)) [
  | inl same ↦ inl (same_cell-same u v same)
  | inr other ↦ inr (λ is. false≢true (sym other ∙ same_cell-true u v is))
]

at_or_not : (o : Option Track) (t : ℕ) (c : Cell) → MatchOption o ⊥ (λ track. cell_at track t ≡ c) ⊎ (MatchOption o ⊥ (λ track. cell_at track t ≡ c) → ⊥)
at_or_not None t c = inr (λ h. h)
at_or_not (Some track) t c = cell_or_not (cell_at track t) c

stands_or_not : (table : Timetable) (i t : ℕ) (c : Cell) → Stands table i t c ⊎ (Stands table i t c → ⊥)
stands_or_not table i t c = at_or_not (track_of table i) t c

-- in the step from this time on the agent goes from one cell to another
abbrev GoesIn : Timetable → ℕ → ℕ → Cell → Cell → Type 0
GoesIn table i t u v = Stands table i t u × Stands table i (t + 1) v

goes_or_not : (table : Timetable) (i t : ℕ) (u v : Cell) → GoesIn table i t u v ⊎ (GoesIn table i t u v → ⊥)
goes_or_not table i t u v = elim (stands_or_not table i t u) [
  | inl here ↦ elim (stands_or_not table i (t + 1) v) [ inl there ↦ inl (here, there) | inr no_more ↦ inr (λ goes. no_more goes.1) ]
  | inr nowhere ↦ inr (λ goes. nowhere goes.0)
]

-- where the track of an agent is, the agent stands
stands : (table : Timetable) (k t : ℕ) (c : Cell) (track : Track) → track_of table k ≡ Some track → cell_at track t ≡ c → Stands table k t c
stands table k t c track there at = subst (λ o. MatchOption o ⊥ (λ (one : Track). cell_at one t ≡ c)) (sym there) at

-- and the other way round
at_by : (table : Timetable) (k t : ℕ) (c : Cell) (track : Track) → track_of table k ≡ Some track → Stands table k t c → cell_at track t ≡ c
at_by table k t c track there h = subst (λ o. MatchOption o ⊥ (λ (one : Track). cell_at one t ≡ c)) there h

-- ---- of whom something is asked

-- of one agent
own : (table : Timetable) (i : ℕ) (constraint : Constraint) → ((track : Track) → track_of table i ≡ Some track → Meets track constraint)
    → MeetsDemand table (only i constraint)
own table i constraint meets = λ k track there is. meets track (subst (λ n. track_of table n ≡ Some track) (eqb-true k i is) there)

-- of all others
others : (table : Timetable) (i : ℕ) (constraint : Constraint)
    → ((k : ℕ) (track : Track) → (k ≡ i → ⊥) → track_of table k ≡ Some track → Meets track constraint) → MeetsDemand table (all_but i constraint)
others table i constraint meets = λ k track there is. meets k track (λ same. false≢true (sym (not-true (k == i) is) ∙ eq-eqb k i same)) there

own_away : (table : Timetable) (i t : ℕ) (c : Cell) → (Stands table i t c → ⊥) → MeetsDemand table (only i (Away t c))
own_away table i t c nowhere = own table i (Away t c) (λ track there at. nowhere (stands table i t c track there at))

own_not_taken : (table : Timetable) (i t : ℕ) (u v : Cell) → (GoesIn table i t u v → ⊥) → MeetsDemand table (only i (NotTaken t u v))
own_not_taken table i t u v nowhere =
    own table i (NotTaken t u v) (λ track there from to. nowhere (stands table i t u track there from, stands table i (t + 1) v track there to))

own_there : (table : Timetable) (i t : ℕ) (c : Cell) → Stands table i t c → MeetsDemand table (only i (There t c))
own_there table i t c here = own table i (There t c) (λ track there. at_by table i t c track there here)

others_away : (table : Timetable) (i t : ℕ) (c : Cell) → IsConflictFree table → Stands table i t c → MeetsDemand table (all_but i (Away t c))
others_away table i t c free here = others table i (Away t c) (λ k track other there at. other (free k i t c (stands table k t c track there at) here))

-- ---- cells that share a side

apart : (u v : Cell) → ShareSide u v → u ≡ v → ⊥
apart u v side same =
    let x : u.x ≡ v.x = ap (λ c. c.x) same in
    let y : u.y ≡ v.y = ap (λ c. c.y) same in
    elim side [
      | inl down ↦ elim down.1 [ inl one ↦ omega (arith, y, one) | inr one ↦ omega (arith, y, one) ]
      | inr across ↦ elim across.1 [ inl one ↦ omega (arith, x, one) | inr one ↦ omega (arith, x, one) ]
    ]

-- ---- from its cost on it stays

fewer : (b : Bool) (n k : ℕ) → (b ≡ true → n ≡ 0) → (if b then 0 else n + 1) ≤ suc k → n ≤ k
fewer true n k none most = let is = none refl in omega (arith, is)
fewer false n k none most = omega (arith, most)

at_rest : (b : Bool) (n : ℕ) → (if b then 0 else n + 1) ≤ 0 → b ≡ true
at_rest true n most = refl
at_rest false n most = absurd (omega (arith, most))

rests : (c : Cell) (cells : List Cell) (t later : ℕ) → cost_after c cells ≤ t → t ≤ later → cell_after c cells later ≡ cell_after c cells t
rests c [] t later most more = refl
rests c (d ∷ cells) zero zero most more = refl
rests c (d ∷ cells) zero (suc later) most more =
    let both = and_parts (cost_after d cells == 0) (same_cell c d) (at_rest ((cost_after d cells == 0) && same_cell c d) (cost_after d cells) most) in
    let none = eqb-true (cost_after d cells) 0 both.0 in
    rests d cells 0 later (omega (arith, none)) (omega arith) ∙ cell_at-start d cells ∙ sym (same_cell-same c d both.1)
rests c (d ∷ cells) (suc t) zero most more = absurd (omega (arith, more))
rests c (d ∷ cells) (suc t) (suc later) most more =
    rests d cells t later
    (fewer ((cost_after d cells == 0) && same_cell c d) (cost_after d cells) t
    (λ both. eqb-true (cost_after d cells) 0 (and_parts (cost_after d cells == 0) (same_cell c d) both).0) most)
    (omega (arith, more))

-- the goal of an agent is where it rests
goal_is : (tracks : List Track) (i : ℕ) (track : Track) → slice_get tracks i ≡ Some track → goal_of (map ends_of tracks) i ≡ cell_at track (cost track)
goal_is [] i track there = absurd (none-some track there)
goal_is (one ∷ tracks) zero track there = ap (λ (it : Track). cell_at it (cost it)) (same_Some one track there)
goal_is (one ∷ tracks) (suc i) track there = goal_is tracks i track there

-- ---- each node

stays : (ends : List Ends) (table : Timetable) (i t : ℕ) → IsConflictFree table → map ends_of table.tracks ≡ ends → (o : Option Track) → track_of table i ≡ o
    → MeetsDemands table (first_demands (Stays i t)) ⊎ MeetsDemands table (second_demands ends (Stays i t))
stays ends table i t free same None none = inl (own table i (Above t) (λ track there. absurd (none-some track (sym none ∙ there))), done)
stays ends table i t free same (Some it) there = elim (cases_lt t (cost it)) [
  | inl less ↦ inl (own table i (Above t) (λ track is. subst (λ (one : Track). t < cost one) (same_Some it track (sym there ∙ is)) less), done)
  | inr past ↦ inr (
    own table i (Within t) (λ track is. subst (λ (one : Track). cost one ≤ t) (same_Some it track (sym there ∙ is)) past),
    (
      others table i (AwayFrom t (goal_of ends i)) (λ k track other is later from at.
          let goal = goal_of ends i in
          let rested : cell_at it later ≡ goal =
          rests it.start it.later (cost it) later (omega arith) (omega (arith, past, from)) ∙ sym (goal_is table.tracks i it there) ∙ ap (λ (e : List Ends). goal_of e i) same in
          other (free k i later goal (stands table k later goal track is at) (stands table i later goal it there rested))),
      done,
    ),
  )
]

pub one_child : (ends : List Ends) (table : Timetable) (n : Node) → IsConflictFree table → IsSwapFree table → map ends_of table.tracks ≡ ends → IsNode n
    → MeetsDemands table (first_demands n) ⊎ MeetsDemands table (second_demands ends n)
one_child ends table (Vertex i j t c) free unswapped same is = elim (stands_or_not table i t c) [
  | inl here ↦ inr (own_away table j t c (λ there. is (free i j t c here there)), done)
  | inr nowhere ↦ inl (own_away table i t c nowhere, done)
]
one_child ends table (Swap i j t u v) free unswapped same is = elim (goes_or_not table i t u v) [
  | inl goes ↦ inr (own_not_taken table j t v u (λ back. unswapped i j t u v (apart u v is.1) goes.0 goes.1 back.0 back.1), done)
  | inr nowhere ↦ inl (own_not_taken table i t u v nowhere, done)
]
one_child ends table (At i t c) free unswapped same is = elim (stands_or_not table i t c) [
  | inl here ↦ inr (own_there table i t c here, (others_away table i t c free here, done))
  | inr nowhere ↦ inl (own_away table i t c nowhere, done)
]
one_child ends table (Goes i t u v) free unswapped same is = elim (goes_or_not table i t u v) [
  | inl goes ↦ inr (
    own_there table i t u goes.0,
    (
      own_there table i (t + 1) v goes.1,
      (
        others_away table i t u free goes.0,
        (
          others_away table i (t + 1) v free goes.1,
          (
            others table i (NotTaken t v u)
                (λ k track other there from to. unswapped i k t u v (apart u v is) goes.0 goes.1 (stands table k t v track there from) (stands table k (t + 1) u track there to)),
            done,
          ),
        ),
      ),
    ),
  )
  | inr nowhere ↦ inl (own_not_taken table i t u v nowhere, done)
]
one_child ends table (Stays i t) free unswapped same is = stays ends table i t free same (track_of table i) refl
