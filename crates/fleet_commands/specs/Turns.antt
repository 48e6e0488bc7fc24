-- What is made of numbers in turn.
use Rattle.std.specs.Prelude.{ℕ, List, map}
use Rattle.std.specs.List.{flat_map, range_with_len}

-- what comes of each number below another, one behind the other
abbrev pub in_turn : {A : Type 0} → (ℕ → List A) → ℕ → List A
in_turn f count = flat_map (λ items. items) (map f (range_with_len 0 count))
