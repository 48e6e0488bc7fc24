-- The least number is that of the shortest length.
use Rattle.std.proofs.Common.{true, subst}
use Rattle.least_steps.specs.Code.Reaching.{IsLeastNumber}
use Rattle.least_steps.proofs.LeastLemmas.{no_walk, shortest}
use Rattle.least_steps.proofs.step_search.StepSearch.shortest.Goals as goal

pub returns-in_ok-length_of-in-Some-clause-answer : goal.returns-in_ok-length_of-in-Some-clause-answer
returns-in_ok-length_of-in-Some-clause-answer c =
    let m = c.args.self.now in
    shortest m c.args.start c.args.goal c.in-Some.number c.in_ok-length_of-in-Some.field-0
    (subst (IsLeastNumber m true c.args.start c.args.goal) c.in-Some.is c.in_ok-number.ensures.answer)
    c.in_ok-length_of-in-Some.ensures.limit c.in_ok-length_of-in-Some.ensures.number

pub returns-in-None-clause-answer : goal.returns-in-None-clause-answer
returns-in-None-clause-answer c =
    let m = c.args.self.now in
    no_walk m c.args.start c.args.goal (subst (IsLeastNumber m true c.args.start c.args.goal) c.in-None.is c.in_ok-number.ensures.answer)
