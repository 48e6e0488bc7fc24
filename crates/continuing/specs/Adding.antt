-- How many moves a plan adds to another.
use Rattle.std.specs.Prelude.{◌≡◌, ℕ, ◌+◌, Bool, true, false, List, count_by, sum_by}
use Rattle.model.specs.declared.act.Act.{Act}
use Rattle.model.specs.declared.act.Act.TheVariants.{Wait}
use Rattle.model.specs.Plan.{Course, Plan}

-- the act leads to another cell
abbrev pub changes_cell : Act → Bool
changes_cell Wait = false
changes_cell act = true

-- how many moves the agents make together
abbrev pub moves_made : List Course → ℕ
moves_made courses = sum_by (λ course. count_by changes_cell course.acts) courses

-- the new plan has so many moves more than the old one
abbrev pub AddsMoves : Plan → Plan → ℕ → Type 0
AddsMoves old new more = moves_made new.courses ≡ moves_made old.courses + more
