-- Only blanks were left out so far.
use Rattle.std.proofs.Common.{◌≡◌, length}
use Rattle.scenario.specs.Fields.{without_leading}
use Rattle.scenario.proofs.fields.trim_start.Given as goal

abbrev pub invariant-loop-rest : goal.invariant-loop-rest
invariant-loop-rest l = without_leading l.rest ≡ without_leading l.bytes

abbrev pub decreases-loop-rest : goal.decreases-loop-rest
decreases-loop-rest l = length l.rest
