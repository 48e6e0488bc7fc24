use Rattle.std.proofs.Common.{rules}
use Rattle.robot.proofs.talking.say_state.Goals as goal

pub returns-clause-says : goal.returns-clause-says
returns-clause-says g c table is =
    let line = c.state_answer.ensures.line table is in
    search rules
