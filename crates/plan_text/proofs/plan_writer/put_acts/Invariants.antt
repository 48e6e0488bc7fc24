-- The characters of the acts that follow are left.
use Rattle.std.proofs.Common.{length, map}
use Rattle.text_io.specs.Sink.{Leaves}
use Rattle.plan_text.specs.PlanText.{act_character}
use Rattle.plan_text.proofs.plan_writer.put_acts.Given as goal

abbrev pub invariant-loop-rest : goal.invariant-loop-rest
invariant-loop-rest g l = Leaves g.W.Write.contents l.fn.sink l.sink (map act_character l.acts) (map act_character l.rest)

abbrev pub decreases-loop-rest : goal.decreases-loop-rest
decreases-loop-rest g l = length l.rest
