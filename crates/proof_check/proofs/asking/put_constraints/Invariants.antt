use Rattle.std.proofs.Common.{◌≡◌, take}
use Rattle.optimality.specs.Constraints.{constraints_of}
use Rattle.proof_check.proofs.asking.put_constraints.Given as goal

abbrev pub invariant-loop-demand : goal.invariant-loop-demand
invariant-loop-demand l = l.asked.items ≡ constraints_of (take l.demand-index l.demands) l.agent
