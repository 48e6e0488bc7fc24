-- The rows so far were taken, and their characters kept.
use Rattle.std.proofs.Common.{◌≡◌, ℕ, List, length, false}
use Rattle.std.specs.List.{AllByRecursion}
use Rattle.text_io.specs.Source.{has_failed}
use Rattle.text_io.specs.Text.{IsLine}
use Rattle.grid.specs.Code.Following.{TakesLines, HaveRows}
use Rattle.grid.proofs.map_reader.read_rows.Given as goal

abbrev pub invariant-loop-row : goal.invariant-loop-row
invariant-loop-row g l =
    (lines : List (List ℕ)) × AllByRecursion IsLine lines × HaveRows l.width l.characters.items lines × (length lines ≡ l.row)
    × TakesLines g.R.Read.remaining l.fn.source l.source lines × (has_failed l.source ≡ false)
