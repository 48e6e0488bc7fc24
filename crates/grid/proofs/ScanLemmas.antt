-- Runs of bytes at the front of a text.
use Rattle.std.proofs.Common.{◌≡◌, ℕ, ◌+◌, Bool, true, List, [], ◌∷◌, length, refl, ◌∙◌, arith}
use Rattle.std.specs.List.{prefix_len, list_all}
use Rattle.std.proofs.lemmas.Bool.{and_parts, cond-true}

-- the run is the whole text where each byte passes
pub prefix_len-whole : (p : ℕ → Bool) (bytes : List ℕ) → list_all p bytes ≡ true → prefix_len p bytes ≡ length bytes
prefix_len-whole p [] all = refl
prefix_len-whole p (b ∷ bytes) all =
    let both = and_parts (p b) (list_all p bytes) all in
    let rest = prefix_len-whole p bytes both.1 in
    cond-true (p b) (1 + prefix_len p bytes) 0 both.0 ∙ omega (arith, rest)
