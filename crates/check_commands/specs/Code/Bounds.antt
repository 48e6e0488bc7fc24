-- What is put of agents, with what they cost and at least.
use Rattle.std.specs.Prelude.{ℕ, Bool, true, false, List, [], ◌∷◌, ◌++◌}
use Rattle.std.specs.List.{flat_map}
use Rattle.check_commands.specs.BoundCommand.{agent_bound_json, agent_bounds_json}
use Rattle.check_commands.specs.FaultsText.{comma}

-- a comma, or nothing
abbrev pub comma_if : Bool → List ℕ
comma_if false = []
comma_if true = comma ∷ []

-- an object, behind a comma where it follows another one
abbrev pub object_text : Bool → ℕ × ℕ → List ℕ
object_text follows pair = comma_if follows ++ agent_bound_json pair

-- the objects that are left, behind others or as the first
abbrev pub objects_left : Bool → List (ℕ × ℕ) → List ℕ
objects_left false pairs = agent_bounds_json pairs
objects_left true pairs = flat_map (λ other. comma ∷ agent_bound_json other) pairs
