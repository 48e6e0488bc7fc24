-- The lines of the visits that follow are left.
use Rattle.std.proofs.Common.{drop}
use Rattle.text_io.specs.Sink.{Leaves}
use Rattle.plan_commands.specs.CellVisitsText.{visits_text}
use Rattle.plan_commands.proofs.visits_text.put_visits.Given as goal

abbrev pub invariant-loop-visit : goal.invariant-loop-visit
invariant-loop-visit g l = Leaves g.W.Write.contents l.fn.sink l.sink (visits_text l.visits) (visits_text (drop l.visit-index l.visits))
