use Rattle.robot.proofs.TurnLemmas.{turn_of_request}
use Rattle.robot.proofs.answering.answer_text.Goals as goal

pub returns-in-Some-clause-turn : goal.returns-in-Some-clause-turn
returns-in-Some-clause-turn g c table is track there =
    turn_of_request _ table _ track c.args.line.now _ _ _ c.answer_request.result c.in-Some.ensures.asks (c.answer_request.ensures.takes table is track there)
