-- Two faults with one key are the same; past the end of all courses nothing new begins.
use Rattle.std.proofs.Common.{◌≡◌, ℕ, zero, suc, ◌+◌, ◌≤◌, List, [], ◌∷◌, length, Some, None, inl, inr, arith, refl, sym, ap, subst, ◌∙◌}
use Rattle.std.specs.Prelude.{Option, MatchOption, slice_get}
use Rattle.std.proofs.lemmas.Bool.{cases_lt, cases_order}
use Rattle.std.proofs.lemmas.Option.{slice_get_within, same_Some, none-some}
use Rattle.grid.specs.Map.{Grid}
use Rattle.model.specs.declared.plan_fault.PlanFault.{PlanFault}
use Rattle.model.specs.declared.plan_fault.PlanFault.TheVariants.{BadStart, BadMove, Vertex, Swap, OutOfMemory}
use Rattle.model.specs.Plan.{Position, position_of, Course, Plan, position_at, course_of, IsAt, HasPlanFault, Key, key_of, IsBefore, IsLeastFault, longest_of}
use Rattle.model.specs.Laws.Options.{some-found}
use Rattle.model.specs.Laws.Places.{same_place, position_after-end}
use Rattle.model.proofs.laws.least_faults.Goals as goal

-- ---- one fault for a key

one_place : (o : Option Course) (t : ℕ) (u v : Position) → MatchOption o ⊥ (λ course. position_at course t ≡ u) → MatchOption o ⊥ (λ course. position_at course t ≡ v) → u ≡ v
one_place None t u v h k = absurd h
one_place (Some course) t u v h k = sym h ∙ k

-- neither is before the other
pub record IsLevel (a b : Key) : Type 0 where
  pub time : a.time ≡ b.time
  pub rank : a.rank ≡ b.rank
  pub first : a.first ≡ b.first
  pub second : a.second ≡ b.second

level_from : (a b : Key) → (IsBefore a b → ⊥) → (IsBefore b a → ⊥) → IsLevel a b
level_from a b h k =
    elim (cases_order a.time b.time) [
      | inr (inl less) ↦ absurd (h (inl less))
      | inr (inr more) ↦ absurd (k (inl more))
      | inl time ↦ elim (cases_order a.rank b.rank) [
        | inr (inl less) ↦ absurd (h (inr (time, inl less)))
        | inr (inr more) ↦ absurd (k (inr (sym time, inl more)))
        | inl rank ↦ elim (cases_order a.first b.first) [
          | inr (inl less) ↦ absurd (h (inr (time, inr (rank, inl less))))
          | inr (inr more) ↦ absurd (k (inr (sym time, inr (sym rank, inl more))))
          | inl first ↦ elim (cases_order a.second b.second) [
            | inr (inl less) ↦ absurd (h (inr (time, inr (rank, inr (first, less)))))
            | inr (inr more) ↦ absurd (k (inr (sym time, inr (sym rank, inr (sym first, more)))))
            | inl second ↦ record { time = time; rank = rank; first = first; second = second }
          ]
        ]
      ]
    ]

same_fault : (m : Grid) (p : Plan) (f g : PlanFault) → HasPlanFault m p f → HasPlanFault m p g → IsLevel (key_of f) (key_of g) → f ≡ g
same_fault m p (BadStart i) (BadStart j) h k l = ap (λ n. BadStart n) l.first
same_fault m p (BadStart i) (BadMove j s) h k l = absurd (let e = l.time in omega (arith, e))
same_fault m p (BadStart i) (Vertex j q t c) h k l = absurd (let e = l.rank in omega (arith, e))
same_fault m p (BadStart i) (Swap j q t) h k l = absurd (let e = l.rank in omega (arith, e))
same_fault m p (BadMove i s) (BadStart j) h k l = absurd (let e = l.time in omega (arith, e))
same_fault m p (BadMove i s) (BadMove j t) h k l =
    let e = l.time in
    let step : s ≡ t = omega (arith, e) in
    ap (λ n. BadMove n s) l.first ∙ ap (λ n. BadMove j n) step
same_fault m p (BadMove i s) (Vertex j q t c) h k l = absurd (let e = l.rank in omega (arith, e))
same_fault m p (BadMove i s) (Swap j q t) h k l = absurd (let e = l.rank in omega (arith, e))
same_fault m p (Vertex i o s c) (BadStart j) h k l = absurd (let e = l.rank in omega (arith, e))
same_fault m p (Vertex i o s c) (BadMove j t) h k l = absurd (let e = l.rank in omega (arith, e))
same_fault m p (Vertex i o s c) (Vertex j q t d) h k l =
    let there : IsAt p i s (position_of d) = subst (λ n. IsAt p n s (position_of d)) (sym l.first) (subst (λ n. IsAt p j n (position_of d)) (sym l.time) k.1) in
    let cell = same_place c d (one_place (course_of p i) s (position_of c) (position_of d) h.1 there) in
    ap (λ n. Vertex n o s c) l.first ∙ ap (λ n. Vertex j n s c) l.second ∙ ap (λ n. Vertex j q n c) l.time ∙ ap (λ x. Vertex j q t x) cell
same_fault m p (Vertex i o s c) (Swap j q t) h k l = absurd (let e = l.rank in omega (arith, e))
same_fault m p (Swap i o s) (BadStart j) h k l = absurd (let e = l.rank in omega (arith, e))
same_fault m p (Swap i o s) (BadMove j t) h k l = absurd (let e = l.rank in omega (arith, e))
same_fault m p (Swap i o s) (Vertex j q t c) h k l = absurd (let e = l.rank in omega (arith, e))
same_fault m p (Swap i o s) (Swap j q t) h k l =
    let e = l.time in
    let step : s ≡ t = omega (arith, e) in
    ap (λ n. Swap n o s) l.first ∙ ap (λ n. Swap j n s) l.second ∙ ap (λ n. Swap j q n) step
same_fault m p OutOfMemory g h k l = absurd h
same_fault m p f OutOfMemory h k l = absurd k

pub returns-clause-one : goal.returns-clause-one
returns-clause-one c = λ m p f g h k. same_fault m p f g h.has k.has (level_from (key_of f) (key_of g) (λ b. k.first f h.has b) (λ b. h.first g k.has b))

-- ---- past the end

longest-is : (courses : List Course) (i : ℕ) (course : Course) → slice_get courses i ≡ Some course → length course.acts ≤ longest_of courses
longest-is [] i course e = absurd (none-some course e)
longest-is (first ∷ courses) zero course e =
    let count = ap (λ k. length k.acts) (same_Some first course e) in omega (arith, count)
longest-is (first ∷ courses) (suc i) course e = let rest = longest-is courses i course e in omega (arith, rest)

at_end : (o : Option Course) (most t : ℕ) (place : Position) → ((course : Course) → o ≡ Some course → length course.acts ≤ most) → most ≤ t
    → MatchOption o ⊥ (λ course. position_at course t ≡ place) → MatchOption o ⊥ (λ course. position_at course most ≡ place)
at_end None most t place within past h = h
at_end (Some course) most t place within past h =
    let count = within course refl in
    let start = position_of course.start in
    position_after-end start course.acts most count ∙ sym (position_after-end start course.acts t (omega (arith, count, past))) ∙ h

in_time : (m : Grid) (p : Plan) (f : PlanFault) → IsLeastFault m p f → (key_of f).time ≤ longest_of p.courses
in_time m p (BadStart i) h = omega arith
in_time m p (BadMove i step) h =
    let course = some-found (course_of p i) _ h.has in
    let act = some-found (slice_get course.0.acts step) _ course.2 in
    let below = slice_get_within course.0.acts step act.0 act.1 in
    let most = longest-is p.courses i course.0 course.1 in
    omega (arith, below, most)
in_time m p (Vertex i j t c) h =
    let most = longest_of p.courses in
    elim (cases_lt most t) [
      | inr within ↦ within
      | inl past ↦ absurd (
          let least : most ≤ t = omega (arith, past) in
          let at_i = at_end (course_of p i) most t (position_of c) (λ course e. longest-is p.courses i course e) least h.has.1 in
          let at_j = at_end (course_of p j) most t (position_of c) (λ course e. longest-is p.courses j course e) least h.has.2 in
          h.first (Vertex i j most c) (h.has.0, at_i, at_j) (inl past))
    ]
in_time m p (Swap i j step) h =
    let most = longest_of p.courses in
    elim (cases_lt step most) [
      | inl within ↦ omega (arith, within)
      | inr past ↦ absurd (
          let later : most ≤ step + 1 = omega (arith, past) in
          let before = at_end (course_of p i) most step h.has.1 (λ course e. longest-is p.courses i course e) past h.has.4 in
          let after = at_end (course_of p i) most (step + 1) h.has.2 (λ course e. longest-is p.courses i course e) later h.has.5 in
          h.has.3 (one_place (course_of p i) most h.has.1 h.has.2 before after))
    ]
in_time m p OutOfMemory h = omega arith

pub returns-clause-in_time : goal.returns-clause-in_time
returns-clause-in_time c = in_time
