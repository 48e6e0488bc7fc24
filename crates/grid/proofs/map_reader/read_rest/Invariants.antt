-- The lines so far are blank, and the number is that of the line that is read.
use Rattle.std.proofs.Common.{◌≡◌, ℕ, ◌+◌, List, ◌++◌, min}
use Rattle.std.specs.List.{AllByRecursion}
use Rattle.text_io.specs.Counted.{greatest}
use Rattle.text_io.specs.Text.{ended}
use Rattle.text_io.specs.Source.{Takes, most_left}
use Rattle.grid.specs.Code.Following.{number_after}
use Rattle.grid.proofs.RestTaken.{IsBlankLine}
use Rattle.grid.proofs.map_reader.read_rest.Given as goal

abbrev pub invariant-loop-number : goal.invariant-loop-number
invariant-loop-number g l =
    (before : List (List ℕ)) × (line : List ℕ) × AllByRecursion IsBlankLine before × IsBlankLine line
    × Takes g.R.Read.remaining l.fn.source l.source (ended before ++ line)
    × ((skipped : ℕ) → l.first ≡ min (skipped + 1) greatest → l.number ≡ number_after skipped before)

abbrev pub decreases-loop-number : goal.decreases-loop-number
decreases-loop-number g l = most_left l.source
