-- The limits that every plan keeps.
use Rattle.std.specs.Prelude.{ℕ, ◌+◌, ◌^◌, ◌<◌, ◌≤◌, List, [], ◌∷◌, length}
use Rattle.std.specs.List.{AllByRecursion}
use Rattle.model.specs.Plan.{Course, Plan}

abbrev pub most_agents : ℕ
most_agents = 10000

-- of one agent, and of all
abbrev pub most_acts : ℕ
most_acts = 65535

abbrev pub most_acts_in_all : ℕ
most_acts_in_all = 16777216

-- how many acts the agents have together
abbrev pub acts_in : List Course → ℕ
acts_in [] = 0
acts_in (course ∷ courses) = length course.acts + acts_in courses

-- the course's start is a cell that a map may have, and it has no more acts than an agent may have
pub record IsCourse (course : Course) : Type 0 where
  pub column : course.start.x < 65536
  pub row : course.start.y < 65536
  pub acts_limit : length course.acts ≤ most_acts

pub record IsPlan (p : Plan) : Type 0 where
  pub number_limit : p.number < 2 ^ 32
  pub agent_limit : length p.courses ≤ most_agents
  pub courses : AllByRecursion IsCourse p.courses
  pub acts_limit : acts_in p.courses ≤ most_acts_in_all
