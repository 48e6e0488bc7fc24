-- Values that may be missing.
use Rattle.std.proofs.Common.{◌≡◌, Some, None, refl}
use Rattle.std.specs.Prelude.{Option, MatchOption}

-- what holds of a value that is there
pub some-found : {X : Type 0} (o : Option X) (P : X → Type 0) → MatchOption o ⊥ P → (x : X)
    × (o ≡ Some x) × P x
some-found None P h = absurd h
some-found (Some x) P h = (x, refl, h)
