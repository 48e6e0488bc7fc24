-- The bytes so far are of one line, and the progress is what they make.
use Rattle.std.proofs.Common.{◌≡◌, ℕ, List}
use Rattle.std.specs.Prelude.{fold}
use Rattle.grid.specs.declared.header_line.Progress.TheVariants.{Word}
use Rattle.text_io.specs.Source.{Takes, most_left}
use Rattle.grid.specs.Code.HeaderLine.{header_step}
use Rattle.text_io.specs.Text.{IsLine}
use Rattle.grid.proofs.map_reader.read_header_line.Given as goal

abbrev pub invariant-loop-b : goal.invariant-loop-b
invariant-loop-b g l =
    (bytes : List ℕ) × IsLine bytes × Takes g.R.Read.remaining l.fn.source l.source bytes
    × (l.progress ≡ fold (header_step l.line) (Word 0) bytes)

abbrev pub decreases-loop-b : goal.decreases-loop-b
decreases-loop-b g l = most_left l.source
