use Rattle.std.proofs.Common.{rules}
use Rattle.robot.proofs.answering.answer_kept.Goals as goal

pub returns-in-Some-clause-turn : goal.returns-in-Some-clause-turn
returns-in-Some-clause-turn g c table is track text there kept =
    let turn = c.answer_text.ensures.turn table is track there in
    search rules
