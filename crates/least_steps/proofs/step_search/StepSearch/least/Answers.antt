-- The least number is that of the fewest steps.
use Rattle.std.proofs.Common.{false, subst}
use Rattle.least_steps.specs.Code.Reaching.{IsLeastNumber}
use Rattle.least_steps.proofs.LeastLemmas.{fewest, no_steps}
use Rattle.least_steps.proofs.step_search.StepSearch.least.Goals as goal

pub returns-in_ok-steps_of-in-Some-clause-answer : goal.returns-in_ok-steps_of-in-Some-clause-answer
returns-in_ok-steps_of-in-Some-clause-answer c =
    let m = c.args.self.now in
    fewest m c.args.start c.args.goal c.in-Some.number c.in_ok-steps_of-in-Some.field-0
    (subst (IsLeastNumber m false c.args.start c.args.goal) c.in-Some.is c.in_ok-number.ensures.answer) c.in_ok-steps_of-in-Some.ensures

pub returns-in-None-clause-answer : goal.returns-in-None-clause-answer
returns-in-None-clause-answer c =
    let m = c.args.self.now in
    no_steps m c.args.start c.args.goal (subst (IsLeastNumber m false c.args.start c.args.goal) c.in-None.is c.in_ok-number.ensures.answer)
