use Rattle.std.proofs.Common.{rules}
use Rattle.std.specs.Prelude.{is_some}
use Rattle.robot.proofs.answering.answer_request.Goals as goal

pub returns-in-Start-clause-same : goal.returns-in-Start-clause-same
returns-in-Start-clause-same g c =
    let done = c.start.ensures.starts c.start.ensures.within.0 c.start.ensures.within.2 in
    search rules

pub returns-in-Start-clause-counts : goal.returns-in-Start-clause-counts
returns-in-Start-clause-counts g c =
    let done = c.start.ensures.starts c.start.ensures.within.0 c.start.ensures.within.2 in
    search rules

pub returns-in-Start-clause-takes : goal.returns-in-Start-clause-takes
returns-in-Start-clause-takes g c table is track there =
    let done = c.start.ensures.starts table is in
    search rules

pub returns-in-Finish-clause-same : goal.returns-in-Finish-clause-same
returns-in-Finish-clause-same g c =
    let done = c.finish.ensures.finishes c.finish.ensures.within.0 c.finish.ensures.within.2 in
    search rules

pub returns-in-Finish-clause-counts : goal.returns-in-Finish-clause-counts
returns-in-Finish-clause-counts g c =
    let done = c.finish.ensures.finishes c.finish.ensures.within.0 c.finish.ensures.within.2 in
    search rules

pub returns-in-Finish-clause-takes : goal.returns-in-Finish-clause-takes
returns-in-Finish-clause-takes g c table is track there =
    let done = c.finish.ensures.finishes table is in
    search rules

pub returns-in-Held-clause-takes : goal.returns-in-Held-clause-takes
returns-in-Held-clause-takes g c table is track there =
    let done = c.state_answer.ensures.line table is in
    search rules

pub returns-in-Say-clause-takes : goal.returns-in-Say-clause-takes
returns-in-Say-clause-takes g c table is track there = rw c.in-Say.is (c.answer_say.ensures.takes (is_some c.args.heeded.now) table is track)

pub returns-in-Tell-clause-takes : goal.returns-in-Tell-clause-takes
returns-in-Tell-clause-takes g c table is track there = rw c.in-Tell.is (c.answer_tell.ensures.takes (is_some c.args.heeded.now) table is track)

pub returns-in-Hear-clause-takes : goal.returns-in-Hear-clause-takes
returns-in-Hear-clause-takes g c table is track there =
    let done = c.answer_hear.ensures.takes table is track in
    rw c.in-Hear.is done

pub returns-in-May-clause-takes : goal.returns-in-May-clause-takes
returns-in-May-clause-takes g c table is track there =
    let looks = c.ahead.ensures.looks table is in
    search rules
