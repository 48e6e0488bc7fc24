use Rattle.std.proofs.Common.{subst}
use Rattle.std.proofs.lemmas.Result.{IfErr-weaker}
use Rattle.agent.specs.Opening.{IsRefused}
use Rattle.agent.proofs.agent.Agent.open.Goals as goal

pub returns-in-Some-clause-refused : goal.returns-in-Some-clause-refused
returns-in-Some-clause-refused g c =
    let is = c.in-Some.ensures in
    IfErr-weaker c.open_part.result _ _
    (λ e refused. subst (λ i. IsRefused g.T.Tape.state g.T.Tape.may_read c.args.graph.now i c.args.tape e.1 e.0) is.1 (refused c.args.graph.now is.0))
    c.open_part.ensures.refused
