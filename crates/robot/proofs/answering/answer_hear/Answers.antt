use Rattle.std.proofs.Common.{rules, refl}
use Rattle.robot.proofs.answering.answer_hear.Goals as goal

pub returns-in-Ok-clause-same : goal.returns-in-Ok-clause-same
returns-in-Ok-clause-same g c =
    let done = c.hear.ensures.hears c.hear.ensures.within.0 c.hear.ensures.within.2 in
    search rules

pub returns-in-Ok-clause-counts : goal.returns-in-Ok-clause-counts
returns-in-Ok-clause-counts g c =
    let done = c.hear.ensures.hears c.hear.ensures.within.0 c.hear.ensures.within.2 in
    search rules

pub returns-in-Ok-clause-takes : goal.returns-in-Ok-clause-takes
returns-in-Ok-clause-takes g c table is track =
    let done = c.hear.ensures.hears table is in
    search rules

pub returns-in-Err-clause-same : goal.returns-in-Err-clause-same
returns-in-Err-clause-same g c =
    let done = c.hear.ensures.hears c.hear.ensures.within.0 c.hear.ensures.within.2 in
    search rules

pub returns-in-Err-clause-counts : goal.returns-in-Err-clause-counts
returns-in-Err-clause-counts g c =
    let done = c.hear.ensures.hears c.hear.ensures.within.0 c.hear.ensures.within.2 in
    search rules

pub returns-in-Err-clause-takes : goal.returns-in-Err-clause-takes
returns-in-Err-clause-takes g c table is track =
    let done = c.hear.ensures.hears table is in
    search rules

pub returns-in-Some-clause-takes : goal.returns-in-Some-clause-takes
returns-in-Some-clause-takes g c table is track = (c.args.message.now, refl, c.in-Some.ensures.heeded, c.in-Some.ensures.word table is, refl)
