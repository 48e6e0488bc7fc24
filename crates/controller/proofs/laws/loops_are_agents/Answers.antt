-- One deed at the most.
use Rattle.controller.proofs.DeedLemmas.{leads-deeds}
use Rattle.controller.proofs.laws.loops_are_agents.Goals as goal

pub returns : goal.returns
returns c = λ settings table i track old happening new leads. leads-deeds settings table i track old new happening leads
