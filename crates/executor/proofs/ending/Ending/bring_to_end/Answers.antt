use Rattle.std.proofs.Common.{sym, subst}
use Rattle.executor.specs.Code.Waiting.{HasNoRotation}
use Rattle.executor.proofs.ending.Ending.bring_to_end.Goals as goal

pub go_on-requires-clause-still : goal.go_on-requires-clause-still
go_on-requires-clause-still c = subst HasNoRotation (sym c.moves.invariant.same.timetable) c.requires.still
