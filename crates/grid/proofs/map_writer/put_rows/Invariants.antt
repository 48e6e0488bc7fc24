-- The rows that were put, and those of the rest, are all.
use Rattle.std.proofs.Common.{◌≡◌, ℕ, ◌-◌, ◌*◌, List, ◌++◌, length}
use Rattle.text_io.specs.Text.{ended}
use Rattle.text_io.specs.Sink.{Puts}
use Rattle.grid.specs.MapText.{rows_of}
use Rattle.grid.proofs.map_writer.put_rows.Given as goal

abbrev pub invariant-loop-row : goal.invariant-loop-row
invariant-loop-row g l =
    (done : List ℕ) × Puts g.W.Write.contents l.fn.sink l.sink done
    × (done ++ ended (rows_of (l.height - l._row) l.width l.rest) ≡ ended (rows_of l.height l.width l.characters))
    × (length l.rest ≡ l.width * (l.height - l._row))
