-- What an explanation leaves of what was written before it.
use Rattle.std.specs.Prelude.{ℕ, List, Option}
use Rattle.std.specs.Io.KnownBytes.{Appends}

-- the writer holds what it held, and something behind it, perhaps nothing
abbrev pub AddsMore : Option (List ℕ) → Option (List ℕ) → Type 0
AddsMore old new = (more : List ℕ) × Appends old new more
