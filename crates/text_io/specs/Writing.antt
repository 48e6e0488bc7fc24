-- What a writer of texts leaves.
use Rattle.std.specs.Prelude.{◌≡◌, ℕ, Bool, true, false, List, ◌++◌, Option}
use Rattle.std.specs.Io.KnownBytes.{Appends}
use Rattle.text_io.specs.Counted.{Rises}

-- A writer of texts appended the whole text, or failed in the call and had taken a beginning of it.
abbrev pub WritesText : Bool → Option (List ℕ) → Option (List ℕ) → ℕ → ℕ → List ℕ → Type 0
WritesText true old new old_failures new_failures text =
    Appends old new text × (new_failures ≡ old_failures)
WritesText false old new old_failures new_failures text =
    (sent rest : List ℕ) × (text ≡ sent ++ rest) × Appends old new sent
    × Rises old_failures new_failures
