-- Marks of agents.
use Rattle.std.specs.Prelude.{ℕ, ◌+◌, zero, suc, Bool, false, if◌then◌else◌, List, get_or}

-- how many of the first so many are marked
abbrev pub count_of_marks : ℕ → List Bool → ℕ
count_of_marks zero marks = 0
count_of_marks (suc i) marks =
    if get_or marks i false then count_of_marks i marks + 1 else count_of_marks i marks
