-- What computes needs no more; that there is no fault, and no rotation, goes by the agents and the times that there are.
use Rattle.std.proofs.Common.{◌≡◌, ℕ, zero, suc, ◌+◌, ◌≤◌, false, List, [], ◌∷◌, length, Some, inl, inr, arith, refl, sym, ap, subst, ◌∙◌}
use Rattle.std.specs.Prelude.{Option, slice_get, get_or, ◌<◌, ◌⊎◌, nat_lt}
use Rattle.std.proofs.lemmas.Bool.{cond-true, lt-ltb}
use Rattle.std.proofs.lemmas.Option.{same_Some, none-some}
use Rattle.grid.specs.declared.cell.Cell.{Cell}
use Rattle.grid.specs.Map.{IsStraightStep}
use Rattle.model.specs.declared.act.Act.TheVariants.{N, E, S, W, Wait}
use Rattle.model.specs.declared.plan_fault.PlanFault.{PlanFault}
use Rattle.model.specs.declared.plan_fault.PlanFault.TheVariants.{BadStart, BadMove, Vertex, Swap, OutOfMemory}
use Rattle.model.specs.Timetable.{Track, cell_at, track_of, Stands}
use Rattle.model.specs.Plan.{position_of, position_at, HasPlanFault, IsLegal, key_of, IsBefore}
use Rattle.model.specs.Dependency.{IsLastStand, MovesInto, following, IsRotation}
use Rattle.model.specs.Costs.{EndsAtRest, Task, Fits}
use Rattle.model.specs.declared.event.Event.TheVariants.{Start, Finish, Say, Deliver}
use Rattle.model.specs.declared.version.Version.{Version}
use Rattle.model.specs.declared.version.Version.TheVariants.{One, Two}
use Rattle.model.specs.declared.why.Why.TheVariants.{AlreadyMoving, StoreFailed}
use Rattle.model.specs.History.{History, done, is_moving}
use Rattle.model.specs.Completion.{HasArrived, IsCompletion}
use Rattle.model.specs.Examples.{cell, course, ground_of_row, crowding, row, square, turning, leader, follower, late_follower, exchange, first_task, second_task}
use Rattle.model.proofs.CostLemmas.{cost-rests, cost-least}
use Rattle.model.proofs.ExampleFaults.{across, no_meeting, off_the_row, to_the_east, follows, turn_round, turns_by, leads, comes_behind}
use Rattle.model.proofs.laws.examples.Goals as goal

pub returns-clause-faults : goal.returns-clause-faults
returns-clause-faults c = (
  (omega arith, position_of (cell 0 0), position_of (cell 1 0), λ e. (let apart = across e in cc), refl, refl, refl, refl),
  no_meeting,
  (omega arith, refl, refl),
  (omega arith, position_of (cell 0 0), position_of (cell 1 0), λ e. (let apart = across e in cc), refl, refl, refl, refl),
  (omega arith, refl, refl),
  inr (refl, inl (omega arith)),
  (λ e. cc, off_the_row),
  λ h. h,
  follows,
  record {
    number = refl;
    tracks = (
      leader,
      follower ∷ [],
      refl,
      record { at_rest = refl; places = leads },
      (follower, [], refl, record { at_rest = refl; places = comes_behind }, refl),
    );
  },
  turn_round,
  record {
    number = refl;
    tracks = (
      _,
      _,
      refl,
      turns_by (cell 0 0) (cell 1 0) E refl refl,
      (
        _,
        _,
        refl,
        turns_by (cell 1 0) (cell 1 1) S refl refl,
        (_, _, refl, turns_by (cell 1 1) (cell 0 1) W refl refl, (_, _, refl, turns_by (cell 0 1) (cell 0 0) N refl refl, refl)),
      ),
    );
  },
)

-- ---- timetables

to_the_west : (x : ℕ) → IsStraightStep ground_of_row (cell (x + 1) 0) (cell x 0) → IsLegal ground_of_row (position_of (cell (x + 1) 0)) (position_of (cell x 0))
to_the_west x step = record { u = cell (x + 1) 0; v = cell x 0; is_from = refl; is_to = refl; step = step }

-- a meeting of the same two is not before itself
not_itself : (t : ℕ) → IsBefore (record { time = suc t; rank = 1; first = 0; second = 2 }) (record { time = 1; rank = 1; first = 0; second = 2 }) → ⊥
not_itself t (inl less) = omega (arith, less)
not_itself t (inr (e, inl less)) = omega (arith, less)
not_itself t (inr (e, inr (f, inl less))) = omega (arith, less)
not_itself t (inr (e, inr (f, inr (g, less)))) = omega (arith, less)

no_swap : {i j : ℕ} (s : ℕ) → IsBefore (record { time = s + 1; rank = 2; first = i; second = j }) (record { time = 1; rank = 1; first = 0; second = 2 }) → ⊥
no_swap s (inl less) = omega (arith, less)
no_swap s (inr (e, inl less)) = omega (arith, less)
no_swap s (inr (e, inr (f, rest))) = omega (arith, f)

-- ---- the least fault

-- before the meeting in the middle at time 1 there is no fault
nothing_before : (f : PlanFault) → HasPlanFault ground_of_row crowding f → IsBefore (key_of f) (key_of (Vertex 0 2 1 (cell 1 0))) → ⊥
nothing_before (BadStart zero) h b = h (λ e. cc)
nothing_before (BadStart (suc zero)) h b = h (λ e. cc)
nothing_before (BadStart (suc (suc zero))) h b = h (λ e. cc)
nothing_before (BadStart (suc (suc (suc i)))) h b = h
nothing_before (BadMove zero zero) h b = h.1 (to_the_east 0 (record { side = inr (refl, inr refl); joined = refl }))
nothing_before (BadMove zero (suc s)) h b = h
nothing_before (BadMove (suc zero) zero) h b = h.1 (to_the_west 0 (record { side = inr (refl, inl refl); joined = refl }))
nothing_before (BadMove (suc zero) (suc s)) h b = h
nothing_before (BadMove (suc (suc zero)) zero) h b = h.1 (to_the_west 1 (record { side = inr (refl, inl refl); joined = refl }))
nothing_before (BadMove (suc (suc zero)) (suc s)) h b = h
nothing_before (BadMove (suc (suc (suc i))) s) h b = h
nothing_before (Vertex zero zero t c) h b = omega (arith, h.0)
nothing_before (Vertex zero (suc zero) zero c) h b = let apart = across (h.1 ∙ sym h.2) in cc
nothing_before (Vertex zero (suc zero) (suc t) c) h b = let apart = across (h.1 ∙ sym h.2) in cc
nothing_before (Vertex zero (suc (suc zero)) zero c) h b = let apart = across (h.1 ∙ sym h.2) in cc
nothing_before (Vertex zero (suc (suc zero)) (suc t) c) h b = not_itself t b
nothing_before (Vertex zero (suc (suc (suc j))) t c) h b = h.2
nothing_before (Vertex (suc zero) zero t c) h b = omega (arith, h.0)
nothing_before (Vertex (suc zero) (suc zero) t c) h b = omega (arith, h.0)
nothing_before (Vertex (suc zero) (suc (suc zero)) zero c) h b = let apart = across (h.1 ∙ sym h.2) in cc
nothing_before (Vertex (suc zero) (suc (suc zero)) (suc t) c) h b = let apart = across (h.1 ∙ sym h.2) in cc
nothing_before (Vertex (suc zero) (suc (suc (suc j))) t c) h b = h.2
nothing_before (Vertex (suc (suc zero)) zero t c) h b = omega (arith, h.0)
nothing_before (Vertex (suc (suc zero)) (suc zero) t c) h b = omega (arith, h.0)
nothing_before (Vertex (suc (suc zero)) (suc (suc zero)) t c) h b = omega (arith, h.0)
nothing_before (Vertex (suc (suc zero)) (suc (suc (suc j))) t c) h b = h.2
nothing_before (Vertex (suc (suc (suc i))) j t c) h b = h.1
nothing_before (Swap i j s) h b = no_swap s b
nothing_before OutOfMemory h b = h

pub returns-clause-least_faults : goal.returns-clause-least_faults
returns-clause-least_faults c = (
  record { has = (omega arith, refl, refl); first = nothing_before },
  λ least. least.first (Vertex 0 2 1 (cell 1 0)) (omega arith, refl, refl) (inr (refl, inl (omega arith))),
  refl,
)

column : {u v : Cell} → u ≡ v → u.x ≡ v.x
column e = ap (λ c. c.x) e

line : {u v : Cell} → u ≡ v → u.y ≡ v.y
line e = ap (λ c. c.y) e

comes_late : (t : ℕ) → position_of (cell_at late_follower t) ≡ position_at (course 0 (Wait ∷ E ∷ [])) t
comes_late zero = refl
comes_late (suc zero) = refl
comes_late (suc (suc t)) = refl

-- the two are in different cells at each time
never_one : (t : ℕ) (c : Cell) → Stands exchange 0 t c → Stands exchange 1 t c → ⊥
never_one zero c h k = (let apart = column (h ∙ sym k) in cc)
never_one (suc t) c h k = (let apart = column (h ∙ sym k) in cc)

in_turn : (i j t : ℕ) (c : Cell) → Stands exchange i t c → Stands exchange j t c → i ≡ j
in_turn zero zero t c h k = refl
in_turn zero (suc zero) t c h k = absurd (never_one t c h k)
in_turn (suc zero) zero t c h k = absurd (never_one t c k h)
in_turn (suc zero) (suc zero) t c h k = refl
in_turn zero (suc (suc j)) t c h k = absurd k
in_turn (suc zero) (suc (suc j)) t c h k = absurd k
in_turn (suc (suc i)) j t c h k = absurd h

pub returns-clause-timetables : goal.returns-clause-timetables
returns-clause-timetables c = (
  record { at_rest = refl; places = leads },
  λ h. (let longer = h.at_rest in omega (arith, longer)),
  record { at_rest = refl; places = comes_late },
  record { number = refl; tracks = (_, _, refl, turns_by (cell 0 0) (cell 1 0) E refl refl, (_, _, refl, turns_by (cell 1 0) (cell 0 0) W refl refl, refl)) },
  in_turn,
  λ free. free 0 1 0 (cell 0 0) (cell 1 0) (λ e. (let apart = column e in cc)) refl refl refl refl,
)

-- ---- rotations

-- the agent at a place has the number of the place
by_place : (n i : ℕ) → slice_get (0 ∷ 1 ∷ 2 ∷ 3 ∷ []) n ≡ Some i → n ≡ i
by_place zero i e = same_Some 0 i e
by_place (suc zero) i e = same_Some 1 i e
by_place (suc (suc zero)) i e = same_Some 2 i e
by_place (suc (suc (suc zero))) i e = same_Some 3 i e
by_place (suc (suc (suc (suc n)))) i e = absurd (none-some i e)

into : (i j : ℕ) (from to : Track) → track_of square i ≡ Some from → track_of square j ≡ Some to
    → (cell_at from 0 ≡ cell_at from 1 → ⊥) → cell_at from 1 ≡ cell_at to 0 → MovesInto square 0 i j
into i j from to p q r s = record { from = from; to = to; is_from = p; is_to = q; moves = r; into = s }

turns : (n i j : ℕ) → slice_get (0 ∷ 1 ∷ 2 ∷ 3 ∷ []) n ≡ Some i → following (0 ∷ 1 ∷ 2 ∷ 3 ∷ []) n ≡ Some j → MovesInto square 0 i j
turns zero i j e f =
    subst (λ a. MovesInto square 0 a j) (same_Some 0 i e) (subst (λ a. MovesInto square 0 0 a) (same_Some 1 j f)
    (into 0 1 (turning (cell 0 0) (cell 1 0)) (turning (cell 1 0) (cell 1 1)) refl refl (λ h. (let apart = column h in cc)) refl))
turns (suc zero) i j e f =
    subst (λ a. MovesInto square 0 a j) (same_Some 1 i e) (subst (λ a. MovesInto square 0 1 a) (same_Some 2 j f)
    (into 1 2 (turning (cell 1 0) (cell 1 1)) (turning (cell 1 1) (cell 0 1)) refl refl (λ h. (let apart = line h in cc)) refl))
turns (suc (suc zero)) i j e f =
    subst (λ a. MovesInto square 0 a j) (same_Some 2 i e) (subst (λ a. MovesInto square 0 2 a) (same_Some 3 j f)
    (into 2 3 (turning (cell 1 1) (cell 0 1)) (turning (cell 0 1) (cell 0 0)) refl refl (λ h. (let apart = column h in cc)) refl))
turns (suc (suc (suc zero))) i j e f =
    subst (λ a. MovesInto square 0 a j) (same_Some 3 i e) (subst (λ a. MovesInto square 0 3 a) (same_Some 0 j f)
    (into 3 0 (turning (cell 0 1) (cell 0 0)) (turning (cell 0 0) (cell 1 0)) refl refl (λ h. (let apart = line h in cc)) refl))
turns (suc (suc (suc (suc n)))) i j e f = absurd (none-some i e)

-- the row has two agents, and a rotation three
two_agents : (i : ℕ) (track : Track) → track_of row i ≡ Some track → (i ≡ 0) ⊎ (i ≡ 1)
two_agents zero track e = inl refl
two_agents (suc zero) track e = inr refl
two_agents (suc (suc i)) track e = absurd (none-some track e)

no_three : (step : ℕ) (agents : List ℕ) → IsRotation row step agents → ⊥
no_three step [] round = (let h = round.three in omega (arith, h))
no_three step (a ∷ []) round = (let h = round.three in omega (arith, h))
no_three step (a ∷ b ∷ []) round = (let h = round.three in omega (arith, h))
no_three step (a ∷ b ∷ c ∷ others) round =
    let agents = a ∷ b ∷ c ∷ others in
    let first = round.cycle 0 a b refl (cond-true (nat_lt (0 + 1) (length agents)) _ _ (lt-ltb 1 (length agents) (omega arith))) in
    let second = round.cycle 1 b c refl (cond-true (nat_lt (1 + 1) (length agents)) _ _ (lt-ltb 2 (length agents) (omega arith))) in
    let is_a = two_agents a first.from first.is_from in
    let is_b = two_agents b second.from second.is_from in
    let is_c = two_agents c second.to second.is_to in
    let apart : a ≡ b → ⊥ = λ e. (let h = round.different 0 1 b (ap {A = ℕ} {B = Option ℕ} (λ n. Some n) e) refl in omega (arith, h)) in
    let apart_on : b ≡ c → ⊥ = λ e. (let h = round.different 1 2 c (ap {A = ℕ} {B = Option ℕ} (λ n. Some n) e) refl in omega (arith, h)) in
    let apart_round : a ≡ c → ⊥ = λ e. (let h = round.different 0 2 c (ap {A = ℕ} {B = Option ℕ} (λ n. Some n) e) refl in omega (arith, h)) in
    elim is_a [
      | inl a0 ↦ elim is_b [ inl b0 ↦ apart (a0 ∙ sym b0) | inr b1 ↦ elim is_c [ inl c0 ↦ apart_round (a0 ∙ sym c0) | inr c1 ↦ apart_on (b1 ∙ sym c1) ] ]
      | inr a1 ↦ elim is_b [ inr b1 ↦ apart (a1 ∙ sym b1) | inl b0 ↦ elim is_c [ inl c0 ↦ apart_on (b0 ∙ sym c0) | inr c1 ↦ apart_round (a1 ∙ sym c1) ] ]
    ]

square_turns : IsRotation square 0 (0 ∷ 1 ∷ 2 ∷ 3 ∷ [])
square_turns = record {
  three = omega arith;
  different = λ n m i e f. by_place n i e ∙ sym (by_place m i f);
  least = λ n first i e f. (let zeroth = same_Some 0 first e in omega (arith, zeroth));
  cycle = turns;
}

pub returns-clause-rotations : goal.returns-clause-rotations
returns-clause-rotations c = (square_turns, no_three)

-- ---- what computes

pub returns-clause-costs : goal.returns-clause-costs
returns-clause-costs c = (refl, refl, refl, refl, refl, refl, refl, refl)

abbrev head_task : List Task → Task
head_task [] = record { width = 0; height = 0; start = cell 0 0; goal = cell 0 0 }
head_task (task ∷ tasks) = task

both_fit : Fits 3 1 row.tracks (first_task ∷ second_task ∷ [])
both_fit = (
  _,
  _,
  refl,
  record { same_width = refl; same_height = refl; from_start = refl; to_goal = refl },
  (_, _, refl, record { same_width = refl; same_height = refl; from_start = refl; to_goal = refl }, refl),
)

pub returns-clause-tasks : goal.returns-clause-tasks
returns-clause-tasks c = (
  both_fit,
  λ h. (let apart = column (h.3.from_start ∙ sym (ap (λ l. (head_task l).start) h.2)) in cc),
  λ h. (let one = ap length h.2 in let more = ap length h.4.2 in omega (arith, one, more)),
  λ h. (let height : ◌≡◌ {A = ℕ} 1 2 = ap (λ l. (head_task l).height) h.2 ∙ h.3.same_height in omega (arith, height)),
  record { agents = refl; enough = omega arith; fits = both_fit },
  λ h. (let two = h.agents in omega (arith, two)),
  λ h. (let two = h.agents in omega (arith, two)),
  λ h. (let one = h.enough in omega (arith, one)),
  (follower, second_task, refl, refl, record { same_width = refl; same_height = refl; from_start = refl; to_goal = refl }),
  λ h. (
      let apart = column (ap (λ track. track.start) (same_Some follower h.0 h.2) ∙ h.4.from_start ∙ sym (ap (λ task. task.start) (same_Some first_task h.1 h.3))) in cc
      ),
)

pub returns-clause-visits : goal.returns-clause-visits
returns-clause-visits c = (
  record { track = leader; is_track = refl; is_index = refl; is_there = refl; comes = λ t e there. omega (arith, e) },
  record { track = follower; is_track = refl; is_index = refl; is_there = refl; comes = λ t e there. from_west t e there },
  record { track = follower; is_track = refl; is_index = refl; is_there = refl; comes = λ t e there. omega (arith, e) },
  record { track = leader; is_track = refl; is_index = refl; is_there = refl; comes = λ t e there. from_middle t e there },
) where
  from_west : (t : ℕ) → 1 ≡ t + 1 → cell_at follower t ≡ cell 1 0 → ⊥
  from_west zero e there = (let apart = column there in cc)
  from_west (suc t) e there = omega (arith, e)

  from_middle : (t : ℕ) → 1 ≡ t + 1 → cell_at leader t ≡ cell 2 0 → ⊥
  from_middle zero e there = (let apart = column there in cc)
  from_middle (suc t) e there = omega (arith, e)

pub returns-clause-dependencies : goal.returns-clause-dependencies
returns-clause-dependencies c = (refl, refl, refl, refl, refl, refl, refl, refl, refl, refl, refl)

pub returns-clause-runs : goal.returns-clause-runs
returns-clause-runs c = (refl, refl, refl, refl, refl, refl, refl, refl, refl, refl, refl, refl, refl, refl, refl)

both_rest : (k : ℕ) (other : Track) → k < 2 → EndsAtRest (get_or row.tracks k other)
both_rest zero other less = refl
both_rest (suc zero) other less = refl
both_rest (suc (suc k)) other less = omega (arith, less)

pub returns-clause-paths : goal.returns-clause-paths
returns-clause-paths c = (
  refl,
  refl,
  refl,
  refl,
  refl,
  refl,
  cost-rests (cell 0 0) late_follower.later,
  record {
    rests = cost-rests (cell 0 0) late_follower.later;
    least = λ before less rests. (let most = cost-least (cell 0 0) late_follower.later before rests in omega (arith, less, most));
  },
  refl,
  refl,
  λ e. cc,
  λ k other less. both_rest k other less,
)

nobody_in_the_east : (t i : ℕ) → t ≤ 0 → Stands row i t (cell 2 0) → ⊥
nobody_in_the_east zero zero most there = let apart = column there in cc
nobody_in_the_east zero (suc zero) most there = let apart = column there in cc
nobody_in_the_east zero (suc (suc i)) most there = there
nobody_in_the_east (suc t) i most there = omega (arith, most)

leader_in_the_middle : IsLastStand row (cell 1 0) 0 (Some (record { agent = 0; time = 0 }))
leader_in_the_middle = (refl, omega arith, λ r j past most there. omega (arith, past, most))

pub returns-clause-last_stands : goal.returns-clause-last_stands
returns-clause-last_stands c = (
  refl,
  refl,
  refl,
  refl,
  refl,
  refl,
  refl,
  refl,
  leader_in_the_middle,
  λ t i most there. nobody_in_the_east t i most there,
  record {
    step = 0;
    last = Some (record { agent = 0; time = 0 });
    is_step = refl;
    leaves = λ e. (let apart = column e in cc);
    is_last = leader_in_the_middle;
    asks = refl;
  },
  inl (λ there. (let apart = column there in cc)),
  record { from = follower; to = leader; is_from = refl; is_to = refl; moves = λ e. (let apart = column e in cc); into = refl },
  refl,
  refl,
)

pub returns-clause-messages : goal.returns-clause-messages
returns-clause-messages c = (
  refl,
  refl,
  refl,
  refl,
  record { spelled = refl },
  refl,
  refl,
  record { spelled = refl; rising = (omega arith, omega arith, (omega arith, omega arith, tt)) },
  λ rising. (let past = rising.2.0 in omega (arith, past)),
  λ rising. (let above = rising.1 in omega (arith, above)),
)

pub returns-clause-histories : goal.returns-clause-histories
returns-clause-histories c = (refl, refl, refl, refl, refl, refl, refl, refl, refl, refl, refl, refl, refl, refl, refl, refl, refl, refl)

head_cell : List Cell → Cell
head_cell [] = cell 0 0
head_cell (c ∷ cells) = c

pub returns-clause-safety : goal.returns-clause-safety
returns-clause-safety c = (
  refl,
  refl,
  refl,
  inl refl,
  inr refl,
  refl,
  refl,
  refl,
  refl,
  (cell 2 0 ∷ [], refl),
  λ h. (let apart = column (ap head_cell h.1) in cc),
  (refl, (refl, tt)),
  refl,
  inr refl,
  λ safe. (let same = safe.apart 0 1 (cell 1 0) refl (inr refl) in omega (arith, same)),
  λ version run. cc,
)

-- ---- completions

-- both agents of the row are at their ends
both_arrived : (h : History) → done h 0 ≡ 1 → done h 1 ≡ 1 → is_moving h 0 ≡ false → is_moving h 1 ≡ false
    → (i : ℕ) (track : Track) → track_of row i ≡ Some track → HasArrived h i track
both_arrived h first second first_still second_still zero track there =
    subst (HasArrived h 0) (same_Some leader track there) (record { all = first; still = first_still })
both_arrived h first second first_still second_still (suc zero) track there =
    subst (HasArrived h 1) (same_Some follower track there) (record { all = second; still = second_still })
both_arrived h first second first_still second_still (suc (suc i)) track there = absurd (none-some track there)

pub returns-clause-completions : goal.returns-clause-completions
returns-clause-completions c = (
  in_turn One,
  in_turn Two,
  record { accepted = (λ w. let e = w.1 in cc, tt); arrived = both_arrived _ refl refl refl refl },
  record { accepted = tt; arrived = λ i track there. absurd (none-some track there) },
  record {
    accepted = (λ w. let e = w.1 in cc, (λ w. let e = w.1 in cc, (λ w. let e = w.1 in cc, (λ w. let e = w.1 in cc, (λ w. let e = w.1 in cc, (λ w. let e = w.1 in cc, (λ w. let e = w.1 in cc, tt)))))));
    arrived = both_arrived _ refl refl refl refl;
  },
  record {
    accepted = (λ w. let e = w.1 in cc, (λ w. let e = w.1 in cc, (λ w. let e = w.1 in cc, (λ w. let e = w.1 in cc, (λ w. let e = w.1 in cc, (λ w. let e = w.1 in cc, (λ w. let e = w.1 in cc, tt)))))));
    arrived = both_arrived _ refl refl refl refl;
  },
  λ h. h.accepted.0 (StoreFailed, refl),
  λ h. (let none = (h.arrived 0 leader refl).all in omega (arith, none)),
  λ h. (let none = (h.arrived 1 follower refl).all in omega (arith, none)),
  λ h. h.accepted.1.0 (AlreadyMoving, refl),
  (0, 0 ∷ 1 ∷ 2 ∷ 3 ∷ [], square_turns, (0, 0, turning (cell 0 0) (cell 1 0), refl, refl, omega arith)),
  λ h. no_three h.0 h.1 h.2,
) where
  in_turn : (v : Version) → IsCompletion v row [] (Start 0 ∷ Finish 0 ∷ Say 0 ∷ Deliver 1 0 ∷ Start 1 ∷ Finish 1 ∷ [])
  in_turn One = record {
    accepted = (λ w. let e = w.1 in cc, (λ w. let e = w.1 in cc, (λ w. let e = w.1 in cc, (λ w. let e = w.1 in cc, (λ w. let e = w.1 in cc, (λ w. let e = w.1 in cc, tt))))));
    arrived = both_arrived _ refl refl refl refl;
  }
  in_turn Two = record {
    accepted = (λ w. let e = w.1 in cc, (λ w. let e = w.1 in cc, (λ w. let e = w.1 in cc, (λ w. let e = w.1 in cc, (λ w. let e = w.1 in cc, (λ w. let e = w.1 in cc, tt))))));
    arrived = both_arrived _ refl refl refl refl;
  }
