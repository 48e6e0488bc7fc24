-- The grammar of a proof's lines.
use Rattle.std.specs.Prelude.{◌≡◌, ℕ, ◌<◌, ◌==◌, List, [], ◌∷◌}
use Rattle.std.specs.Prelude.{length, codes, Option, None, Some, ⊤}
use Rattle.std.specs.List.{AllByRecursion, slice_split}
use Rattle.text_io.specs.Numerals.{IsNumeral}
use Rattle.text_io.specs.Text.{space}
use Rattle.grid.specs.declared.cell.Cell.{Cell}
use Rattle.grid.specs.Map.{Grid}
use Rattle.optimality.specs.declared.constraint.Ends.{Ends}
use Rattle.optimality.specs.declared.constraint.Objective.{Objective}
use Rattle.optimality.specs.declared.constraint.Objective.TheVariants.{Cost, Makespan}
use Rattle.optimality.specs.declared.node.Node.{Node}
use Rattle.optimality.specs.declared.node.Node.TheVariants.{Vertex, Swap, At, Goes, Stays}
use Rattle.optimality.specs.Splitting.{IsNode}

abbrev pub proof_header : List ℕ
proof_header = codes "mapf-proof 1"

abbrev pub objective_line : Objective → List ℕ
objective_line Cost = codes "objective cost"
objective_line Makespan = codes "objective makespan"

-- the word of a node's line
abbrev pub node_word : Node → List ℕ
node_word (Vertex i j t c) = codes "vertex"
node_word (Swap i j t u v) = codes "swap"
node_word (At i t c) = codes "at"
node_word (Goes i t u v) = codes "goes"
node_word (Stays i t) = codes "stays"

-- and its numbers: agents, the time, and the column and the row of each cell
abbrev pub node_numbers : Node → List ℕ
node_numbers (Vertex i j t c) = i ∷ j ∷ t ∷ c.x ∷ c.y ∷ []
node_numbers (Swap i j t u v) = i ∷ j ∷ t ∷ u.x ∷ u.y ∷ v.x ∷ v.y ∷ []
node_numbers (At i t c) = i ∷ t ∷ c.x ∷ c.y ∷ []
node_numbers (Goes i t u v) = i ∷ t ∷ u.x ∷ u.y ∷ v.x ∷ v.y ∷ []
node_numbers (Stays i t) = i ∷ t ∷ []

-- the line is a word and numbers behind it, each below 65536, with one space between each two
abbrev pub AreSmallNumerals : List ℕ → List (List ℕ) → Type 0
AreSmallNumerals [] parts = parts ≡ []
AreSmallNumerals (n ∷ numbers) parts =
    (digits : List ℕ) × (others : List (List ℕ)) × (parts ≡ digits ∷ others) × IsNumeral n digits
    × (n < 65536) × AreSmallNumerals numbers others

pub record SpellsNode (node : Node) (line : List ℕ) : Type 0 where
  pub parts : List (List ℕ)
  pub cut : slice_split (λ b. b == space) line ≡ node_word node ∷ parts
  pub numerals : AreSmallNumerals (node_numbers node) parts

-- a leaf has no numbers
abbrev pub SpellsNodeLine : Option Node → List ℕ → Type 0
SpellsNodeLine None line = line ≡ codes "leaf"
SpellsNodeLine (Some node) line = SpellsNode node line

abbrev pub IsNodeOrLeaf : Option Node → Type 0
IsNodeOrLeaf None = ⊤
IsNodeOrLeaf (Some node) = IsNode node

-- the agents that a node names
abbrev pub node_agents : Node → List ℕ
node_agents (Vertex i j t c) = i ∷ j ∷ []
node_agents (Swap i j t u v) = i ∷ j ∷ []
node_agents (At i t c) = i ∷ []
node_agents (Goes i t u v) = i ∷ []
node_agents (Stays i t) = i ∷ []

-- and the cells
abbrev pub node_cells : Node → List Cell
node_cells (Vertex i j t c) = c ∷ []
node_cells (Swap i j t u v) = u ∷ v ∷ []
node_cells (At i t c) = c ∷ []
node_cells (Goes i t u v) = u ∷ v ∷ []
node_cells (Stays i t) = []

-- all of them are there
abbrev pub HasAgents : List Ends → Node → Type 0
HasAgents ends node = AllByRecursion (λ i. i < length ends) (node_agents node)

abbrev pub HasCells : Grid → Node → Type 0
HasCells m node = AllByRecursion (λ c. (c.x < m.width) × (c.y < m.height)) (node_cells node)
