-- Where agents are, and where steps take them.
use Rattle.std.proofs.Common.{◌≡◌, ℕ, zero, suc, ◌+◌, ◌<◌, ◌≤◌, List, [], ◌∷◌, ◌++◌, length, map, Some, None, inl, inr, arith, refl, sym, ap, subst, ◌∙◌}
use Rattle.std.specs.Prelude.{Option, MatchOption, slice_get}
use Rattle.std.specs.List.{AllByRecursion}
use Rattle.std.proofs.lemmas.Bool.{cases_lt}
use Rattle.std.proofs.lemmas.Int.{ints}
use Rattle.std.proofs.lemmas.List.{get_or_append_left, get_or_push, length-append, get_or-map, length-map}
use Rattle.std.proofs.lemmas.List.Elements.{All-get_or, All-from_recursion}
use Rattle.std.proofs.lemmas.Option.{slice_get_within, get_or_from_slice_get}
use Rattle.model.specs.declared.act.Act.{Act}
use Rattle.model.specs.declared.act.Act.TheVariants.{N, E, S, W, Wait}
use Rattle.model.specs.Laws.Places.{position_after-end}
use Rattle.model.specs.Plan.{Position, position_of, moved, Course, position_after, position_at}
use Rattle.plan_text.specs.Limits.{IsCourse}
use Rattle.checker.specs.Laws.Walking.{no_course, position_at-start, position-moved}
use Rattle.checker.specs.declared.places.Step.{Step}
use Rattle.checker.specs.Code.Places.{as_position, stay_at, IsWithin, IsNear, ActLeads, step_in, AreSteps}

-- ---- agents stay near

within-more : (a b : ℕ) (p : Position) → a ≤ b → IsWithin a p → IsWithin b p
within-more a b p less h =
    let west = h.west in
    let east = h.east in
    let north = h.north in
    let south = h.south in
    record { west = omega (arith, ints, west, less); east = omega (arith, ints, east, less); north = omega (arith, ints, north, less); south = omega (arith, ints, south, less) }

within-moved : (far : ℕ) (a : Act) (p : Position) → IsWithin far p → IsWithin (far + 1) (moved a p)
within-moved far N p h = record {
  west = (let e = h.west in omega (arith, ints, e));
  east = (let e = h.east in omega (arith, ints, e));
  north = (let e = h.north in omega (arith, ints, e));
  south =
      (let e = h.south in omega (arith, ints, e));
}
within-moved far E p h = record {
  west = (let e = h.west in omega (arith, ints, e));
  east = (let e = h.east in omega (arith, ints, e));
  north = (let e = h.north in omega (arith, ints, e));
  south =
      (let e = h.south in omega (arith, ints, e));
}
within-moved far S p h = record {
  west = (let e = h.west in omega (arith, ints, e));
  east = (let e = h.east in omega (arith, ints, e));
  north = (let e = h.north in omega (arith, ints, e));
  south =
      (let e = h.south in omega (arith, ints, e));
}
within-moved far W p h = record {
  west = (let e = h.west in omega (arith, ints, e));
  east = (let e = h.east in omega (arith, ints, e));
  north = (let e = h.north in omega (arith, ints, e));
  south =
      (let e = h.south in omega (arith, ints, e));
}
within-moved far Wait p h = within-more far (far + 1) p (omega arith) h

within-after : (far : ℕ) (p : Position) (acts : List Act) (t : ℕ) → IsWithin far p → IsWithin (far + length acts) (position_after p acts t)
within-after far p [] t h = within-more far (far + length {A = Act} []) p (omega arith) h
within-after far p (a ∷ acts) zero h = within-more far (far + length (a ∷ acts)) p (omega arith) h
within-after far p (a ∷ acts) (suc t) h =
    within-more ((far + 1) + length acts) (far + length (a ∷ acts)) (position_after (moved a p) acts t) (omega arith) (within-after (far + 1) (moved a p) acts t (within-moved far a p h))

pub course_limits : (courses : List Course) (i : ℕ) (course : Course) → AllByRecursion IsCourse courses → slice_get courses i ≡ Some course → IsCourse course
course_limits courses i course all there =
    subst IsCourse (get_or_from_slice_get courses i course no_course there)
    (All-get_or IsCourse courses i no_course (slice_get_within courses i course there) (All-from_recursion IsCourse courses all))

pub near : (course : Course) (t : ℕ) → IsCourse course → IsNear (position_at course t)
near course t h =
    let column = h.column in
    let row = h.row in
    let few = h.acts_limit in
    within-more (65536 + length course.acts) 1000000 (position_at course t) (omega (arith, few))
    (within-after 65536 (position_of course.start) course.acts t
    (record { west = omega (arith, ints); east = omega (arith, ints, column); north = omega (arith, ints); south = omega (arith, ints, row) }))

-- ---- a step on

pub position_start : (course : Course) → position_at course 0 ≡ position_of course.start
position_start course = position_at-start (position_of course.start) course.acts

next : (n : ℕ) → n + 1 ≡ suc n
next n = omega arith

leads-by : (course : Course) (n : ℕ) (o : Option Act) (from to : Position) → slice_get course.acts n ≡ o → (o ≡ None → length course.acts ≤ n) → from ≡ position_at course n
    → MatchOption o (to ≡ from) (λ act. to ≡ moved act from) → to ≡ position_at course (n + 1)
leads-by course n None from to is past at h =
    let start = position_of course.start in
    h ∙ at ∙ position_after-end start course.acts n (past refl) ∙ sym (position_after-end start course.acts (n + 1) (let few = past refl in omega (arith, few)))
leads-by course n (Some act) from to is past at h =
    h ∙ ap (moved act) at ∙ sym (position-moved (position_of course.start) course.acts n act is) ∙ ap (position_at course) (sym (next n))

none-past : (acts : List Act) (n : ℕ) → slice_get acts n ≡ None → length acts ≤ n
none-past [] n h = omega arith
none-past (a ∷ acts) zero h = cc
none-past (a ∷ acts) (suc n) h = let rest = none-past acts n h in omega (arith, rest)

pub act_leads : (course : Course) (acts : List Act) (n : ℕ) (from to : Position) → acts ≡ course.acts → from ≡ position_at course n → ActLeads acts n from to → to ≡ position_at course (n + 1)
act_leads course acts n from to same at h =
    leads-by course n (slice_get course.acts n) from to refl (none-past course.acts n) at (subst (λ l. ActLeads l n from to) same h)

-- ---- the steps of the agents before a number

pub record AreStepsTo (courses : List Course) (before after : ℕ) (steps : List Step) (n : ℕ) : Type 0 where
  pub count : length steps ≡ n
  pub from : (i : ℕ) (course : Course) → i < n → slice_get courses i ≡ Some course → as_position (step_in steps i).from ≡ position_at course before
  pub to : (i : ℕ) (course : Course) → i < n → slice_get courses i ≡ Some course → as_position (step_in steps i).to ≡ position_at course after

pub steps-none : (courses : List Course) (before after : ℕ) (steps : List Step) → steps ≡ [] → AreStepsTo courses before after steps 0
steps-none courses before after steps e = record {
  count = ap length e;
  from = λ i course less there. absurd (omega (arith, less));
  to = λ i course less there. absurd (omega (arith, less));
}

step-before : (steps : List Step) (step : Step) (i : ℕ) → i < length steps → step_in (steps ++ step ∷ []) i ≡ step_in steps i
step-before steps step i less = get_or_append_left steps (step ∷ []) _ i less

step-last : (steps : List Step) (step : Step) (n : ℕ) → length steps ≡ n → step_in (steps ++ step ∷ []) n ≡ step
step-last steps step n e = get_or_push steps step _ n e

same_course : (courses : List Course) (i n : ℕ) (a b : Course) → i ≡ n → slice_get courses n ≡ Some a → slice_get courses i ≡ Some b → a ≡ b
same_course courses i n a b e at_n at_i = let both : Some a ≡ Some b = sym at_n ∙ ap (slice_get courses) (sym e) ∙ at_i in cc

pub steps-more : (courses : List Course) (before after : ℕ) (steps : List Step) (n : ℕ) (course : Course) (step : Step) → AreStepsTo courses before after steps n
    → slice_get courses n ≡ Some course → as_position step.from ≡ position_at course before → as_position step.to ≡ position_at course after
    → AreStepsTo courses before after (steps ++ step ∷ []) (n + 1)
steps-more courses before after steps n course step h there from to =
    let count = h.count in
    record {
      count = (let long = length-append steps (step ∷ []) in omega (arith, count, long));
      from = λ i other less at. elim (cases_lt i n) [
        | inl old ↦ ap (λ s. as_position s.from) (step-before steps step i (omega (arith, old, count))) ∙ h.from i other old at
        | inr new ↦ (
            let e : i ≡ n = omega (arith, less, new) in
            ap (λ k. as_position (step_in (steps ++ step ∷ []) k).from) e ∙ ap (λ s. as_position s.from) (step-last steps step n count) ∙ from
            ∙ ap (λ a. position_at a before) (same_course courses i n course other e there at)
            )
      ];
      to = λ i other less at. elim (cases_lt i n) [
        | inl old ↦ ap (λ s. as_position s.to) (step-before steps step i (omega (arith, old, count))) ∙ h.to i other old at
        | inr new ↦ (
            let e : i ≡ n = omega (arith, less, new) in
            ap (λ k. as_position (step_in (steps ++ step ∷ []) k).to) e ∙ ap (λ s. as_position s.to) (step-last steps step n count) ∙ to
            ∙ ap (λ a. position_at a after) (same_course courses i n course other e there at)
            )
      ];
    }

pub steps-all : (courses : List Course) (before after : ℕ) (steps : List Step) (n : ℕ) → AreStepsTo courses before after steps n → n ≡ length courses → AreSteps courses before after steps
steps-all courses before after steps n h e = record {
  count = h.count ∙ e;
  from = λ i course there. h.from i course (let less = slice_get_within courses i course there in omega (arith, less, e)) there;
  to = λ i course there. h.to i course (let less = slice_get_within courses i course there in omega (arith, less, e)) there;
}

-- ---- those who arrived, and stay

stay-in : (steps : List Step) (i : ℕ) → i < length steps → step_in (map stay_at steps) i ≡ stay_at (step_in steps i)
stay-in steps i less = get_or-map stay_at steps i _ _ less

pub steps-stay : (courses : List Course) (before after : ℕ) (steps standing : List Step) → AreSteps courses before after steps → standing ≡ map stay_at steps
    → AreSteps courses after after standing
steps-stay courses before after steps standing h same = record {
  count = ap length same ∙ length-map steps stay_at ∙ h.count;
  from = λ i course there. ap (λ l. as_position (step_in l i).from) same ∙ ap (λ s. as_position s.from) (stay-in steps i (within i course there)) ∙ h.to i course there;
  to = λ i course there. ap (λ l. as_position (step_in l i).to) same ∙ ap (λ s. as_position s.to) (stay-in steps i (within i course there)) ∙ h.to i course there;
} where
  within : (i : ℕ) (course : Course) → slice_get courses i ≡ Some course → i < length steps
  within i course there = let less = slice_get_within courses i course there in let count = h.count in omega (arith, less, count)
