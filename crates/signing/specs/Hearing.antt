-- What one process takes of the letters that come, one after another.
use Rattle.std.specs.Prelude.{ℕ, List, [], ◌∷◌, length, replicate, Option, None, Result}
use Rattle.signing.specs.declared.verifier.Dropped.{Dropped}
use Rattle.signing.specs.Verifying.{Judge, Opens}

-- one that has taken nothing yet
abbrev pub first_judge : (run : ℕ) → (keys : List (Option (List ℕ))) → Judge
first_judge run keys = record { run = run; keys = keys; taken = replicate (length keys) None }

-- a letter that came, and its message or why it was dropped
pub record Arrival : Type 0 where
  pub letter : List ℕ
  pub answer : Result (List ℕ) Dropped

-- each letter was opened, by what was taken of those before it
abbrev pub IsHearing : Judge → List Arrival → Type 0
IsHearing judge [] = Unit {0}
IsHearing judge (now ∷ later) =
    (next : Judge) × Opens judge next now.letter now.answer × IsHearing next later
