use Rattle.std.proofs.Common.{rules}
use Rattle.robot.proofs.answering.state_answer.Goals as goal

pub returns-clause-line : goal.returns-clause-line
returns-clause-line g c table is =
    let done = c.held.ensures.holds table is in
    search rules
