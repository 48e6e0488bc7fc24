use Rattle.least_costs.proofs.rules.Rules.forbid_now.Given as goal

abbrev pub invariant-loop : goal.invariant-loop
invariant-loop l = Unit {0}
