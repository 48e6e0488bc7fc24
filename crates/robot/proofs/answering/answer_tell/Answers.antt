use Rattle.std.proofs.Common.{Err, refl, subst}
use Rattle.agent.specs.Agents.{state_of}
use Rattle.agent.specs.States.{IsToldBy}
use Rattle.agent.specs.declared.refusal.TellFault.TheVariants.{Broken, OutOfMemory}
use Rattle.robot.proofs.answering.answer_tell.Goals as goal

pub returns-in-Err-Broken-clause-takes : goal.returns-in-Err-Broken-clause-takes
returns-in-Err-Broken-clause-takes g c heeds table is track =
    let a = c.args.agent.now in
    (tt, (Err Broken, (subst (λ f. IsToldBy table a.part.agent (state_of g.T.Tape.state a) (Err f)) c.in-Err-Broken.field-0-is (c.in-Err-Broken.ensures.tells table is), refl), refl))

pub returns-in-Err-OutOfMemory-clause-takes : goal.returns-in-Err-OutOfMemory-clause-takes
returns-in-Err-OutOfMemory-clause-takes g c heeds table is track =
    let a = c.args.agent.now in
    (tt, (Err OutOfMemory, (subst (λ f. IsToldBy table a.part.agent (state_of g.T.Tape.state a) (Err f)) c.in-Err-OutOfMemory.field-0-is (c.in-Err-OutOfMemory.ensures.tells table is), refl), refl))
