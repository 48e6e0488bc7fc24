-- The parts that are read are those of the number, and they are within the limits.
use Rattle.std.proofs.Common.{◌≡◌, ℕ, ◌^◌, ◌<◌, Some, None, inl, inr, arith, sym}
use Rattle.std.specs.Prelude.{◌⊎◌, Option, MatchOption}
use Rattle.scenario.specs.declared.length.Length.{Length}
use Rattle.walks.specs.Code.KeyParts.{diagonal_in, straight_in, IsKey, length_of_number}
use Rattle.walks.proofs.KeyNumbers.{length_of_some}
use Rattle.walks.proofs.keys.length_of.Goals as goal

by_parts : (v : ℕ) (r : Option Length) → IsKey v → 0 < v → v < 2 ^ 62
    → MatchOption r ((4194304 < straight_in v) ⊎ (4194304 < diagonal_in v)) (λ l. (l.straight ≡ straight_in v) × (l.diagonal ≡ diagonal_in v))
    → r ≡ length_of_number v
by_parts v None is some small (inl h) = absurd (let k = is.straight_limit in omega (arith, h, k))
by_parts v None is some small (inr h) = absurd (let k = is.diagonal_limit in omega (arith, h, k))
by_parts v (Some l) is some small h = sym (length_of_some v l some small h.0 h.1)

pub returns : goal.returns
unfolding diagonal_in straight_in
returns c = by_parts c.args.number c.new.result c.requires.of_length c.requires.some c.requires.limit c.new.ensures
