use Rattle.std.proofs.Common.{◌≡◌, length}
use Rattle.least_costs.proofs.rules.Rules.note_dues.Given as goal

abbrev pub invariant-loop-back : goal.invariant-loop-back
invariant-loop-back l = (l.self.timed ≡ l.fn.self.timed) × (l.self.lasting ≡ l.fn.self.lasting) × (length l.self.moments.items ≡ l.count)
