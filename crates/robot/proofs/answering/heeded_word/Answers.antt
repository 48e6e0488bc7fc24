-- The part is the agent's.
use Rattle.std.proofs.Common.{◌≡◌, ap, subst}
use Rattle.std.specs.Prelude.{is_some, IfSome}
use Rattle.agent.specs.Agents.{state_of}
use Rattle.depgraph.specs.AgentParts.{AgentPart}
use Rattle.robot.proofs.StaleLemmas.{heeds_word}
use Rattle.robot.proofs.answering.heeded_word.Goals as goal

pub older_tape-requires : goal.older_tape-requires
older_tape-requires g c = subst (λ h. IfSome h (λ (p : AgentPart). p ≡ c.args.agent.now.part)) c.in-Some.is c.requires

pub returns-in-Some-clause-word : goal.returns-in-Some-clause-word
returns-in-Some-clause-word g c tt is =
    let a = c.args.agent.now in
    heeds_word tt a.part.agent (state_of g.T.Tape.state a) c.args.message.now (is_some c.args.heeded.now) c.older_tape.result (ap is_some c.in-Some.is) (c.older_tape.ensures tt is)
