-- The dialogue was led.
use Rattle.std.specs.Prelude.{is_some}
use Rattle.robot.proofs.DialogueLemmas.{talk_of}
use Rattle.robot.proofs.talking.talk.Goals as goal

pub returns-clause-talks : goal.returns-clause-talks
returns-clause-talks g c table is = talk_of g.R.Read.remaining g.W.Write.contents g.T.Tape.state (is_some c.args.talker.now.heeded) table _ _ _ _ _ _ c.talk_with_room.result
    (c.talk_with_room.ensures.leads table is)
