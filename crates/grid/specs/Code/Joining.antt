-- Which terrains a straight step joins, by their characters.
use Rattle.std.specs.Prelude.{ℕ, Bool, ◌==◌, ◌&&◌, ◌||◌}

-- `.`, `G` or `S`
abbrev pub is_land_character : ℕ → Bool
is_land_character c = c == 46 || c == 71 || c == 83

-- both are land, or both are `W`
abbrev pub joins_by : ℕ → ℕ → Bool
joins_by c d = (is_land_character c && is_land_character d) || (c == 87 && d == 87)
