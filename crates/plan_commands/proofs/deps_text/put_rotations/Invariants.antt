-- The lines of the rotations that follow are left.
use Rattle.std.proofs.Common.{drop, map}
use Rattle.text_io.specs.Text.{ended}
use Rattle.depgraph.specs.Rotations.{turns_of}
use Rattle.text_io.specs.Sink.{Leaves}
use Rattle.plan_commands.specs.DepsText.{rotation_line}
use Rattle.plan_commands.proofs.deps_text.put_rotations.Given as goal

abbrev pub invariant-loop-rotation : goal.invariant-loop-rotation
invariant-loop-rotation g l =
    Leaves g.W.Write.contents l.fn.sink l.sink (ended (map rotation_line (turns_of l.rotations)))
    (ended (map rotation_line (turns_of (drop l.rotation-index l.rotations))))
