use Rattle.least_costs.specs.Code.Ruling.{AreRules}
use Rattle.least_costs.proofs.rules.Rules.take.Given as goal

abbrev pub invariant-loop-constraint : goal.invariant-loop-constraint
invariant-loop-constraint l = AreRules l.asked l.self
