use Rattle.std.proofs.Common.{◌≡◌, []}
use Rattle.least_costs.specs.Code.States.{HasState}
use Rattle.least_costs.proofs.frontier.Frontier.begin.Given as goal

abbrev pub invariant-loop-cell : goal.invariant-loop-cell
invariant-loop-cell l = (l.self.closed ≡ []) × HasState l.self.waiting.items l.fn.start 0 × (l.self.next.items ≡ []) × (l.self.after.items ≡ [])
