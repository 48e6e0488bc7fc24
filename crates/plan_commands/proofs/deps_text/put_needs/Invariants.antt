-- The lines of the moves that follow are left.
use Rattle.std.proofs.Common.{drop}
use Rattle.text_io.specs.Text.{ended}
use Rattle.text_io.specs.Sink.{Leaves}
use Rattle.plan_commands.specs.DepsText.{need_lines}
use Rattle.plan_commands.proofs.deps_text.put_needs.Given as goal

abbrev pub invariant-loop-k : goal.invariant-loop-k
invariant-loop-k g l =
    Leaves g.W.Write.contents l.fn.sink l.sink (ended (need_lines l.agent 0 l.part.needs)) (ended (need_lines l.agent l.k (drop l.k l.part.needs)))
