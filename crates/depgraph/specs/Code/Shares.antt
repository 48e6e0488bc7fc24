-- What one agent needs of a graph, as lists keep it.
use Rattle.std.specs.Prelude.{ℕ, ◌-◌, ◌<◌, ◌≤◌, ◌==◌, if◌then◌else◌, List, take}
use Rattle.std.specs.Prelude.{drop, length, get_or, map, Option, None, Some}
use Rattle.std.specs.List.{range_with_len}
use Rattle.grid.specs.declared.cell.Cell.{Cell}
use Rattle.model.specs.Dependency.{Need}
use Rattle.depgraph.specs.declared.waiting.Wait.{Wait}
use Rattle.depgraph.specs.AgentParts.{AgentPart, IsOfGraph}
use Rattle.depgraph.specs.Code.Entries.{begin_in}
use Rattle.depgraph.specs.Code.Numbers.{cells_by, AreKnown}

-- how many moves an agent makes: one fewer than its path has cells
abbrev pub count_in : List ℕ → ℕ → ℕ
count_in ends i = get_or ends i 0 - begin_in ends i - 1

abbrev pub counts_by : List ℕ → List ℕ
counts_by ends = map (count_in ends) (range_with_len 0 (length ends))

-- what a wait asks for
abbrev pub need_told : Wait → Option Need
need_told w = if w.count == 0 then None else Some (record { agent = w.agent; count = w.count })

-- of the cells of a path, the first is entered by no move
abbrev pub needs_told : List Wait → List (Option Need)
needs_told needs = map need_told (drop 1 needs)

-- the part of an agent with these cells and waits, where the paths of all agents end there
abbrev pub part_by : (number agent : ℕ) → List Cell → List ℕ → List Wait → List ℕ → AgentPart
part_by number agent names numbers needs ends = record {
  number = number;
  agent = agent;
  moves = counts_by ends;
  cells = cells_by names numbers;
  needs = needs_told needs;
}

-- The lists are those of a part: each cell has a name, and each path a cell.
pub record IsShare (number agent : ℕ) (names : List Cell) (numbers : List ℕ) (needs : List Wait)
    (ends : List ℕ) : Type 0 where
  pub of_graph : IsOfGraph (part_by number agent names numbers needs ends)
  pub known : AreKnown names numbers
  pub rising : (i : ℕ) → i < length ends → begin_in ends i < get_or ends i 0

-- the entries of an agent among those of all
abbrev pub entries_among : {X : Type 0} → List ℕ → ℕ → List X → List X
entries_among ends i xs = take (get_or ends i 0 - begin_in ends i) (drop (begin_in ends i) xs)

-- There is such an agent, and its entries in the lists of all agents are those of its part.
pub record HasShare (number agent : ℕ) (names : List Cell) (all_numbers : List ℕ)
    (all_needs : List Wait) (ends : List ℕ) : Type 0 where
  pub is_agent : agent < length ends
  pub numbers_end : get_or ends agent 0 ≤ length all_numbers
  pub needs_end : get_or ends agent 0 ≤ length all_needs
  pub share : IsShare number agent names (entries_among ends agent all_numbers)
      (entries_among ends agent all_needs) ends
