-- One course from the agent's place on.
use Rattle.plan_commands.proofs.AskedLemmas.{asked_one}
use Rattle.plan_commands.proofs.path_command.asked.Goals as goal

pub returns-then-index-courses : goal.returns-then-index-courses
returns-then-index-courses c =
    asked_one c.args.plan.now c.args.agent c.in-Some.agent c.from-index.result c.courses-courses.result.now c.in-Some.is c.from-index.ensures
    c.courses-courses.ensures.courses c.if-index-courses.true
