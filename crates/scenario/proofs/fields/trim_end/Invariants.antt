-- Only blanks were left out so far.
use Rattle.std.proofs.Common.{◌≡◌, length}
use Rattle.scenario.specs.Fields.{without_trailing}
use Rattle.scenario.proofs.fields.trim_end.Given as goal

abbrev pub invariant-loop-rest : goal.invariant-loop-rest
invariant-loop-rest l = without_trailing l.rest ≡ without_trailing l.bytes

abbrev pub decreases-loop-rest : goal.decreases-loop-rest
decreases-loop-rest l = length l.rest
