use Rattle.std.proofs.Common.{rules}
use Rattle.robot.proofs.answering.answer_say.Goals as goal

pub returns-in-Err-clause-never : goal.returns-in-Err-clause-never
returns-in-Err-clause-never g c =
    let done = c.in-Err.ensures.says c.say.ensures.within.0 c.say.ensures.within.2 in
    search rules
