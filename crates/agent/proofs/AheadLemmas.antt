-- What is free ahead, by what each move waits for.
use Rattle.std.proofs.Common.{◌≡◌, ℕ, ◌+◌, ◌*◌, ◌/◌, ◌%◌, ◌<◌, ◌≤◌, true, false, Some, None, refl, ap, ◌∙◌, arith}
use Rattle.std.specs.Prelude.{◌==◌, Option, is_some}
use Rattle.std.proofs.Math.Nat.{mul-div_cancel_left}
use Rattle.std.proofs.lemmas.Bool.{cond-true, cond-false, eq-eqb, ne_eqb, false≢true}
use Rattle.model.specs.Dependency.{need}
use Rattle.model.specs.Timetable.{Track, Timetable, moves}
use Rattle.agent.specs.Ahead.{gone_on, IsFreeAhead}
use Rattle.agent.specs.States.{State, is_on_the_way, finished_moves, begun_moves, waits_for, start_refusal}
use Rattle.agent.specs.declared.refusal.Refusal.{Refusal}
use Rattle.agent.specs.declared.refusal.Refusal.TheVariants.{Broken, AtEnd}

half : (n : ℕ) → (2 * n) / 2 ≡ n
half n = mul-div_cancel_left n (omega arith)

even : (n : ℕ) → ((2 * n) % 2 == 1) ≡ false
even n = ne_eqb ((2 * n) % 2) 1 (λ odd. omega (arith, odd))

module _ (tt : Timetable) (i : ℕ) (track : Track) (s : State) (n : ℕ) where
  pub broken-ahead : s.broken ≡ true → start_refusal tt i track (gone_on s n) ≡ Some Broken
  broken-ahead broken = cond-true s.broken _ _ broken

  pub end-ahead : s.broken ≡ false → begun_moves s + n ≡ moves track → start_refusal tt i track (gone_on s n) ≡ Some AtEnd
  end-ahead whole all =
      cond-false s.broken _ _ whole
      ∙ cond-false (is_on_the_way (gone_on s n)) _ _ (even (begun_moves s + n))
      ∙ cond-true (finished_moves (gone_on s n) == moves track) _ _ (eq-eqb (finished_moves (gone_on s n)) (moves track) (half (begun_moves s + n) ∙ all))

  pub free-ahead : s.broken ≡ false → begun_moves s + n < moves track → start_refusal tt i track (gone_on s n) ≡ waits_for s.heard (need tt i track (begun_moves s + n))
  free-ahead whole less =
      let k = half (begun_moves s + n) in
      cond-false s.broken _ _ whole
      ∙ cond-false (is_on_the_way (gone_on s n)) _ _ (even (begun_moves s + n))
      ∙ cond-false (finished_moves (gone_on s n) == moves track) _ _ (ne_eqb (finished_moves (gone_on s n)) (moves track) (λ e. omega (arith, e, k, less)))
      ∙ ap (λ m. waits_for s.heard (need tt i track m)) k

-- ---- how many moves are free

pub some-of : (o : Option Refusal) → is_some o ≡ true → (why : Refusal) × (o ≡ Some why)
some-of None none = absurd (false≢true none)
some-of (Some why) some = (why, refl)

-- the moves from the first that isn't begun, so many, wait for nobody
abbrev pub WaitForNobody : Timetable → ℕ → Track → State → ℕ → Type 0
WaitForNobody tt i track s count = (n : ℕ) → n < count → waits_for s.heard (need tt i track (begun_moves s + n)) ≡ None

module _ (tt : Timetable) (i : ℕ) (track : Track) (s : State) (whole : s.broken ≡ false) (most count : ℕ) (few : count ≤ most) (within : begun_moves s + count ≤ moves track)
    (free : WaitForNobody tt i track s count) where
  starts-all : (n : ℕ) → n < count → start_refusal tt i track (gone_on s n) ≡ None
  starts-all n less = free-ahead tt i track s n whole (omega (arith, less, within)) ∙ free n less

  -- the next one waits
  pub free-up-to : begun_moves s + count < moves track → is_some (waits_for s.heard (need tt i track (begun_moves s + count))) ≡ true → IsFreeAhead tt i track s most count
  free-up-to less waits = record {
    few = few;
    starts = starts-all;
    no_more = λ more. some-of (start_refusal tt i track (gone_on s count)) (ap is_some (free-ahead tt i track s count whole less) ∙ waits);
  }

  -- all are free that there are, or as many as were asked for
  pub free-to-end : (count < most → begun_moves s + count ≡ moves track) → IsFreeAhead tt i track s most count
  free-to-end all = record { few = few; starts = starts-all; no_more = λ more. (AtEnd, end-ahead tt i track s count whole (all more)) }
