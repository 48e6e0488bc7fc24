use Rattle.std.proofs.Common.{ap, arith}
use Rattle.agent.specs.Tape.{whole_records}
use Rattle.agent.proofs.OwnLemmas.{few-needs}
use Rattle.agent.proofs.agent.Agent.restart.Goals as goal

pub read_records-requires-clause-limit : goal.read_records-requires-clause-limit
read_records-requires-clause-limit g c =
    let few = few-needs _ c.number-plan.ensures.within in
    let limit = c.self.invariant.own.size.limit in
    let number = c.records-records.ensures.records in
    let same = ap (λ a. whole_records (g.T.Tape.state a.tape)) c.self.view_is in
    omega (arith, few, limit, number, same)
