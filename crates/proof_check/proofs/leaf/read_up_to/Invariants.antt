use Rattle.std.proofs.Common.{◌≡◌}
use Rattle.text_io.specs.Source.{most_left, source_reader}
use Rattle.proof_check.specs.Code.LinesRead.{HasReadLines}
use Rattle.proof_check.proofs.leaf.read_up_to.Given as goal

abbrev pub invariant-lines : goal.invariant-lines
invariant-lines g l =
    HasReadLines g.R.Read.remaining (source_reader l.fn.source) l.map l.fn.ends.items l.source l.progress l.next
    × (l.source.reader.ghost_name ≡ l.initial.source.reader.ghost_name)

abbrev pub decreases-lines : goal.decreases-lines
decreases-lines g l = most_left l.source
