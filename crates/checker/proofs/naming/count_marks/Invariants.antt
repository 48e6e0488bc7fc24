-- So many of the agents before are marked.
use Rattle.std.proofs.Common.{◌≡◌, ◌≤◌}
use Rattle.checker.specs.Code.Marks.{count_of_marks}
use Rattle.checker.proofs.naming.count_marks.Given as goal

abbrev pub invariant-loop-agent : goal.invariant-loop-agent
invariant-loop-agent l = (l.count ≡ count_of_marks l.agent l.marks) × (l.count ≤ l.agent)
