-- The faults of one agent: bad starts and bad moves.
use Rattle.std.proofs.Common.{◌≡◌, ℕ, ◌+◌, ◌<◌, ◌≤◌, List, [], ◌∷◌, ◌++◌, length, take, get_or, Some, arith, refl, sym, subst}
use Rattle.std.specs.Prelude.{Option, MatchOption, slice_get}
use Rattle.std.proofs.lemmas.Option.{slice_get_read, slice_get_within}
use Rattle.grid.specs.Map.{Grid}
use Rattle.model.specs.declared.plan_fault.PlanFault.{PlanFault}
use Rattle.model.specs.declared.plan_fault.PlanFault.TheVariants.{BadStart, BadMove, Vertex, Swap, OutOfMemory}
use Rattle.model.specs.Plan.{Course, Plan, course_of, IsPassable, IsBadMove, HasPlanFault, key_of, longest_of}
use Rattle.model.specs.Laws.Options.{some-found}
use Rattle.checker.specs.declared.listing.Listing.{Listing}
use Rattle.checker.specs.Code.Known.{key_with, IsListedTo}
use Rattle.checker.proofs.SameFaults.{longest-is}
use Rattle.checker.proofs.KnownLemmas.{listed-skip, listed-push}
use Rattle.checker.proofs.RankLemmas.{row-gap, row-only}

-- the course of an agent, as it is read
pub course_read : (courses read : List Course) (i : ℕ) (course : Course) → read ≡ courses → i < length read → course ≡ get_or read i course → slice_get courses i ≡ Some course
course_read courses read i course same less is = subst (λ l. slice_get l i ≡ Some course) same (slice_get_read read (length read) i course refl less is)

pub single_second : (m : Grid) (p : Plan) (f : PlanFault) → HasPlanFault m p f → (key_of f).rank ≡ 0 → 1 ≤ (key_of f).second → ⊥
single_second m p (BadStart i) has rank more = omega (arith, more)
single_second m p (BadMove i s) has rank more = omega (arith, more)
single_second m p (Vertex i j t c) has rank more = omega (arith, rank)
single_second m p (Swap i j s) has rank more = omega (arith, rank)
single_second m p OutOfMemory has rank more = has

at_course : (o : Option Course) (course : Course) (P : Course → Type 0) → o ≡ Some course → MatchOption o ⊥ P → P course
at_course o course P e h = subst (λ q. MatchOption q ⊥ P) e h

pub from_course : (o : Option Course) (course : Course) (P : Course → Type 0) → o ≡ Some course → P course → MatchOption o ⊥ P
from_course o course P e h = subst (λ q. MatchOption q ⊥ P) (sym e) h

module _ (m : Grid) (p : Plan) (i : ℕ) (course : Course) (there : slice_get p.courses i ≡ Some course) where
  pub start-is : (f : PlanFault) → HasPlanFault m p f → (key_of f).time ≡ 0 → (key_of f).rank ≡ 0 → (key_of f).first ≡ i → IsPassable m course.start → ⊥
  start-is (BadStart k) has time rank first passable =
      at_course (course_of p i) course (λ a. IsPassable m a.start → ⊥) there (subst (λ n. MatchOption (course_of p n) ⊥ (λ a. IsPassable m a.start → ⊥)) first has) passable
  start-is (BadMove k s) has time rank first passable = omega (arith, time)
  start-is (Vertex k j t c) has time rank first passable = omega (arith, rank)
  start-is (Swap k j s) has time rank first passable = omega (arith, time)
  start-is OutOfMemory has time rank first passable = has

  pub good-start : (l : Listing) → IsListedTo m p (key_with 0 0 i 0) l → IsPassable m course.start → IsListedTo m p (key_with 0 0 (i + 1) 0) l
  good-start l h passable =
      listed-skip m p (key_with 0 0 i 0) (key_with 0 0 (i + 1) 0) l h
      (row-gap m p 0 0 i 0 (λ f has told time rank first second. start-is f has time rank first passable))

  pub bad-start : (old new : Listing) → IsListedTo m p (key_with 0 0 i 0) old → new.most ≡ old.most → new.faults.items ≡ take (old.most + 1) (old.faults.items ++ BadStart i ∷ [])
      → (IsPassable m course.start → ⊥) → IsListedTo m p (key_with 0 0 (i + 1) 0) new
  bad-start old new h most items bad =
      listed-skip m p (key_with 0 0 i 1) (key_with 0 0 (i + 1) 0) new
      (listed-push m p (key_with 0 0 i 0) (key_with 0 0 i 1) old new (BadStart i) h most items
      (row-only m p 0 0 i 0 0 (BadStart i) (from_course (course_of p i) course (λ a. IsPassable m a.start → ⊥) there bad) (omega arith) refl (omega arith)
      (λ f has told is more less. omega (arith, less))))
      (row-gap m p 0 0 i 1 (λ f has told time rank first second. single_second m p f has rank second))

  module _ (step : ℕ) where
    pub move-is : (f : PlanFault) → HasPlanFault m p f → (key_of f).time ≡ step + 1 → (key_of f).rank ≡ 0 → (key_of f).first ≡ i → IsBadMove m course step
    move-is (BadStart k) has time rank first = absurd (omega (arith, time))
    move-is (BadMove k s) has time rank first =
        let same : s ≡ step = omega (arith, time) in
        subst (IsBadMove m course) same (at_course (course_of p i) course (λ a. IsBadMove m a s) there (subst (λ n. MatchOption (course_of p n) ⊥ (λ a. IsBadMove m a s)) first has))
    move-is (Vertex k j t c) has time rank first = absurd (omega (arith, rank))
    move-is (Swap k j s) has time rank first = absurd (omega (arith, rank))
    move-is OutOfMemory has time rank first = absurd has

    pub move-time : IsBadMove m course step → step + 1 ≤ longest_of p.courses
    move-time bad =
        let act = some-found (slice_get course.acts step) _ bad in
        let less = slice_get_within course.acts step act.0 act.1 in
        let most = longest-is p.courses i course there in
        omega (arith, less, most)

    pub good-move : (l : Listing) → IsListedTo m p (key_with (step + 1) 0 i 0) l → (IsBadMove m course step → ⊥) → IsListedTo m p (key_with (step + 1) 0 (i + 1) 0) l
    good-move l h good =
        listed-skip m p (key_with (step + 1) 0 i 0) (key_with (step + 1) 0 (i + 1) 0) l h
        (row-gap m p (step + 1) 0 i 0 (λ f has told time rank first second. good (move-is f has time rank first)))

    pub bad-move : (old new : Listing) → IsListedTo m p (key_with (step + 1) 0 i 0) old → new.most ≡ old.most
        → new.faults.items ≡ take (old.most + 1) (old.faults.items ++ BadMove i step ∷ []) → IsBadMove m course step → IsListedTo m p (key_with (step + 1) 0 (i + 1) 0) new
    bad-move old new h most items bad =
        listed-skip m p (key_with (step + 1) 0 i 1) (key_with (step + 1) 0 (i + 1) 0) new
        (listed-push m p (key_with (step + 1) 0 i 0) (key_with (step + 1) 0 i 1) old new (BadMove i step) h most items
        (row-only m p (step + 1) 0 i 0 0 (BadMove i step) (from_course (course_of p i) course (λ a. IsBadMove m a step) there bad) (move-time bad) refl (omega arith)
        (λ f has told is more less. omega (arith, less))))
        (row-gap m p (step + 1) 0 i 1 (λ f has told time rank first second. single_second m p f has rank second))
