-- Who is elsewhere first, and that nobody is where a plan goes on.
use Rattle.std.proofs.Common.{◌≡◌, ℕ, ◌+◌, ◌<◌, ◌≤◌, ◌⊎◌, List, [], ◌∷◌, length, Some, None, inl, inr, arith, refl, sym, subst, ◌∙◌}
use Rattle.std.specs.Prelude.{Option, MatchOption, slice_get}
use Rattle.std.specs.List.{AllByRecursion}
use Rattle.std.proofs.lemmas.Bool.{cases_lt, cases_order}
use Rattle.std.proofs.lemmas.Option.{same_Some, slice_get_within, slice_get_cases}
use Rattle.model.specs.Plan.{Position, Course, Plan, position_at, course_of, IsAt, longest_of}
use Rattle.model.specs.Laws.Options.{some-found}
use Rattle.plan_text.specs.Limits.{most_acts, IsCourse, IsPlan}
use Rattle.continuing.specs.Continuing.{Continues}
use Rattle.continuing.specs.Departing.{IsElsewhere, IsFirstElsewhere}
use Rattle.continuing.specs.Code.Apart.{IsTogether, IsFirstOf}

few_acts : (courses : List Course) → AllByRecursion IsCourse courses → longest_of courses ≤ most_acts
few_acts [] all = omega arith
few_acts (course ∷ courses) all =
    let first = (all.0).acts_limit in
    let rest = few_acts courses all.1 in
    omega (arith, first, rest)

pub few-acts : (p : Plan) → IsPlan p → longest_of p.courses ≤ 65535
few-acts p is = few_acts p.courses is.courses

-- of courses that are the plans'
pub first-of : (xs ys : List Course) (old new : Plan) (past : ℕ) (o : Option ℕ) (time : ℕ) → xs ≡ old.courses → ys ≡ new.courses
    → IsFirstOf xs ys (length xs) past o time → IsFirstOf old.courses new.courses (length old.courses) past o time
first-of xs ys old new past o time is_old is_new first =
    subst (λ l. IsFirstOf old.courses l (length old.courses) past o time) is_new (subst (λ l. IsFirstOf l ys (length l) past o time) is_old first)

pub is-there : (courses : List Course) (i : ℕ) → i < length courses → (course : Course) × (slice_get courses i ≡ Some course)
is-there courses i less = elim ((slice_get_cases courses i).1) [
  | inl found ↦ (found.0, found.2)
  | inr past ↦ absurd (let most = past.0 in omega (arith, most, less))
]

at_from : (p : Plan) (i t : ℕ) (place : Position) (course : Course) → course_of p i ≡ Some course → position_at course t ≡ place → IsAt p i t place
at_from p i t place course there at = subst (λ o. MatchOption o ⊥ (λ k. position_at k t ≡ place)) (sym there) at

module _ (old new : Plan) (count : length new.courses ≡ length old.courses) where
  -- where an agent is together, it is by the new plan where the old one has it
  follows : (i t : ℕ) (place : Position) → IsTogether old.courses new.courses i t → IsAt old i t place → IsAt new i t place
  follows i t place together at =
      let a = some-found (course_of old i) (λ k. position_at k t ≡ place) at in
      let less = slice_get_within old.courses i a.0 a.1 in
      let b = is-there new.courses i (omega (arith, less, count)) in
      at_from new i t place b.0 b.1 (together a.0 b.0 a.1 b.1 ∙ a.2)

  within : (i t : ℕ) (place : Position) → IsAt old i t place → i < length old.courses
  within i t place at =
      let a = some-found (course_of old i) (λ k. position_at k t ≡ place) at in
      slice_get_within old.courses i a.0 a.1

  pub none-elsewhere : (past time : ℕ) → new.number ≡ old.number → past ≡ longest_of old.courses + 1
      → IsFirstOf old.courses new.courses (length old.courses) past None time → Continues old new
  none-elsewhere past time number end none = record {
    number = number;
    agents = count;
    same = λ i t place most at.
        (let over = none.1 in follows i t place (none.0 i t (within i t place at) (omega (arith, most, over, end))) at);
  }

  pub first-elsewhere : (past agent time : ℕ) → past ≡ longest_of old.courses + 1
      → IsFirstOf old.courses new.courses (length old.courses) past (Some agent) time → IsFirstElsewhere old new agent time
  first-elsewhere past agent time end first =
      let early = first.1.1 in
      let a = is-there old.courses agent first.1.0 in
      record {
        elsewhere = record {
          in_time = omega (arith, early, end);
          place = position_at a.0 time;
          was = at_from old agent time (position_at a.0 time) a.0 a.1 refl;
          is_not = λ at. first.1.2 (together a.0 a.1 at);
        };
        first = λ i t other. by_time i t other (cases_order time t);
      } where
        together : (a : Course) → course_of old agent ≡ Some a → IsAt new agent time (position_at a time) → IsTogether old.courses new.courses agent time
        together a there at c d is_old is_new =
            let b = some-found (course_of new agent) (λ k. position_at k time ≡ position_at a time) at in
            subst (λ k. position_at k time ≡ position_at c time) (same_Some b.0 d (sym b.1 ∙ is_new))
            (subst (λ k. position_at b.0 time ≡ position_at k time) (same_Some a c (sym there ∙ is_old)) b.2)

        by_time : (i t : ℕ) → IsElsewhere old new i t → (time ≡ t) ⊎ ((time < t) ⊎ (t < time)) → (time < t) ⊎ ((time ≡ t) × (agent ≤ i))
        by_time i t other (inr (inl later)) = inl later
        by_time i t other (inr (inr sooner)) =
            absurd (other.is_not (follows i t other.place (first.0 i t (within i t other.place other.was) sooner) other.was))
        by_time i t other (inl same) = elim (cases_lt i agent) [
          | inl before ↦ absurd (other.is_not (follows i t other.place (subst (IsTogether old.courses new.courses i) same (first.1.3 i before)) other.was))
          | inr behind ↦ inr (same, behind)
        ]
