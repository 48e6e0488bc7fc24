-- What a fleet did without the bytes that its agents refused and nobody of it had said.
use Rattle.std.specs.Prelude.{◌≡◌, ◌⊎◌, ℕ, List, [], ◌∷◌, Some, Err, slice_get}
use Rattle.fleet.specs.Deeds.{Deed, hears}
use Rattle.fleet.specs.Fleets.{Log, spoken}

-- the bytes were refused, and nobody had said them: they are damaged, of another fleet, or forged
abbrev pub IsUnsaid : List (List ℕ) → Deed → Type 0
IsUnsaid before (hears bytes (Err fault)) = (m : ℕ) → slice_get before m ≡ Some bytes → ⊥
IsUnsaid before _ = ⊥

-- the second log is the first without some of these
abbrev pub LeavesUnsaid : Log → Log → Type 0
LeavesUnsaid [] kept = kept ≡ []
LeavesUnsaid (now ∷ log) kept =
    (IsUnsaid (spoken log) now.deed × LeavesUnsaid log kept)
    ⊎ ((rest : Log) × (kept ≡ now ∷ rest) × LeavesUnsaid log rest)
