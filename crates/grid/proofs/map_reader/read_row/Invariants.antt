-- The characters so far are terrain, and were added.
use Rattle.std.proofs.Common.{◌≡◌, ◌≤◌, ◌-◌, ℕ, List, ◌++◌, length}
use Rattle.std.specs.Prelude.{IsTrue}
use Rattle.std.specs.List.{list_all}
use Rattle.grid.specs.Terrain.{is_terrain}
use Rattle.text_io.specs.Source.{Takes}
use Rattle.grid.proofs.map_reader.read_row.Given as goal

abbrev pub invariant-loop-count : goal.invariant-loop-count
invariant-loop-count g l =
    (row : List ℕ) × Takes g.R.Read.remaining l.fn.source l.source row × (length row ≡ l.count) × (l.count ≤ l.width)
    × IsTrue (list_all is_terrain row) × (l.characters.items ≡ l.fn.characters.items ++ row)

abbrev pub decreases-loop-count : goal.decreases-loop-count
decreases-loop-count g l = l.width - l.count
