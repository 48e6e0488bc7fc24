-- The faults that follow are left.
use Rattle.std.proofs.Common.{drop, map}
use Rattle.text_io.specs.Sink.{Leaves}
use Rattle.check_commands.specs.Code.Listing.{others_text}
use Rattle.check_commands.specs.FaultsText.{of_plan}
use Rattle.check_commands.proofs.faults_text.put_others.Given as goal

abbrev pub invariant-loop-fault : goal.invariant-loop-fault
invariant-loop-fault g l =
    Leaves g.W.Write.contents l.fn.sink l.sink (others_text l.json (map of_plan l.faults)) (others_text l.json (map of_plan (drop l.fault-index l.faults)))
