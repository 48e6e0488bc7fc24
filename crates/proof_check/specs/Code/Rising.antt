-- Numbers that rise, or stay, up to a limit.
use Rattle.std.specs.Prelude.{ℕ, ◌≤◌, List, [], ◌∷◌, ⊤}
use Rattle.std.specs.List.{AllByRecursion}

abbrev pub RisesTo : List ℕ → ℕ → Type 0
RisesTo [] n = ⊤
RisesTo (a ∷ numbers) n = (a ≤ n) × AllByRecursion (λ b. a ≤ b) numbers × RisesTo numbers n
