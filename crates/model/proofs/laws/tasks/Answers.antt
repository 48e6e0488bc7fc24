use Rattle.std.proofs.Common.{◌≡◌, ℕ, zero, suc, ◌<◌, ◌≤◌, List, [], ◌∷◌, length, take, arith, refl, sym, ap, subst, ◌∙◌}
use Rattle.std.specs.Prelude.{slice_get}
use Rattle.std.proofs.lemmas.Option.{same_Some}
use Rattle.model.specs.Timetable.{Track}
use Rattle.model.specs.Costs.{Task, Solves, Fits, SolvesAt}
use Rattle.model.proofs.laws.tasks.Goals as goal

slice_get-take : {X : Type 0} (xs : List X) (k i : ℕ) → i < k → slice_get (take k xs) i ≡ slice_get xs i
slice_get-take [] zero i less = refl
slice_get-take [] (suc k) i less = refl
slice_get-take (x ∷ xs) zero i less = absurd (omega (arith, less))
slice_get-take (x ∷ xs) (suc k) zero less = refl
slice_get-take (x ∷ xs) (suc k) (suc i) less = slice_get-take xs k i (omega (arith, less))

each_solves : (width height : ℕ) (tracks : List Track) (tasks : List Task) → Fits width height tracks tasks
    → (i : ℕ) → i < length tracks → SolvesAt width height tracks tasks i
each_solves width height [] tasks fits i less = absurd (omega (arith, less))
each_solves width height (track ∷ tracks) tasks fits zero less = (track, fits.0, refl, ap (λ l. slice_get l 0) fits.2, fits.3)
each_solves width height (track ∷ tracks) tasks fits (suc i) less =
    let rest = each_solves width height tracks fits.1 fits.4 i (omega (arith, less)) in
    (rest.0, rest.1, rest.2, ap (λ l. slice_get l (suc i)) fits.2 ∙ rest.3, rest.4)

fits_first : (width height : ℕ) (tracks : List Track) (tasks : List Task) → length tracks ≤ length tasks
    → ((i : ℕ) → i < length tracks → SolvesAt width height tracks tasks i) → Fits width height tracks (take (length tracks) tasks)
fits_first width height [] tasks enough each = refl
fits_first width height (track ∷ tracks) [] enough each = absurd (omega (arith, enough))
fits_first width height (track ∷ tracks) (task ∷ tasks) enough each =
    let here = each 0 (omega arith) in
    let solves = subst (λ k. Solves width height k task) (sym (same_Some track here.0 here.2))
    (subst (λ k. Solves width height here.0 k) (sym (same_Some task here.1 here.3)) here.4) in
    (task, take (length tracks) tasks, refl, solves, fits_first width height tracks tasks (omega (arith, enough)) (λ i less. each (suc i) (omega (arith, less))))

pub returns : goal.returns
returns c = λ width height tracks tasks k. (
  λ h. (
    h.agents,
    h.enough,
    λ i less.
        let there : i < length tracks = (let count = h.agents in omega (arith, less, count)) in
        let here = each_solves width height tracks (take k tasks) h.fits i there in
        (here.0, here.1, here.2, sym (slice_get-take tasks k i less) ∙ here.3, here.4),
  ),
  λ h. record {
    agents = h.0;
    enough = h.1;
    fits = subst (λ n. Fits width height tracks (take n tasks)) h.0
        (fits_first width height tracks tasks (subst (λ n. n ≤ length tasks) (sym h.0) h.1) (λ i less. h.2 i (subst (λ n. i < n) h.0 less)));
  },
)
