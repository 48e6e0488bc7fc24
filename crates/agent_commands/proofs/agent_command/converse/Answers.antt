-- The agent was opened, and the dialogue was led.
use Rattle.std.proofs.Common.{◌≡◌, ◌∙◌, refl, sym, ap, subst}
use Rattle.std.specs.Prelude.{Ok, Err, IfSome}
use Rattle.std.proofs.lemmas.Result.{err_from_is_err_and}
use Rattle.depgraph.specs.AgentParts.{AgentPart, IsPartOf}
use Rattle.robot.specs.Dialogue.{Talks}
use Rattle.robot.specs.FileTape.{file_state}
use Rattle.agent_commands.specs.AgentCommand.{IsNotOnTape, IsOnTape, heeds, told_of_dialogue}
use Rattle.agent_commands.specs.Code.Parts.{unguarded}
use Rattle.agent_commands.specs.Code.Plans.{claim_of}
use Rattle.agent_commands.proofs.GuardLemmas.{unguard_talks}
use Rattle.agent_commands.proofs.agent_command.converse.Goals as goal

pub talk-requires : goal.talk-requires
talk-requires g c =
    let own : c.args.found.own ≡ c.in_ok-agent.agent.part = sym c.part.ensures ∙ sym c.in_ok-agent.ensures.part in
    subst (λ (a : AgentPart). IfSome c.heeded_part-heeded.result (λ (p : AgentPart). p ≡ a)) own c.heeded_part-heeded.ensures.part

pub returns-in_err-talk : goal.returns-in_err-talk
returns-in_err-talk g c p on table is =
    let q = err_from_is_err_and c.from_residual-in_err-talk.result c.from_residual-in_err-talk.ensures.1 in
    let is_part = subst (IsPartOf table) (sym (c.in_ok-agent.ensures.part ∙ c.part.ensures)) is in
    rw (q.1, q.2) (record {
      opened = Ok (unguarded c.in_ok-agent.agent);
      opens = subst (λ (o : AgentPart). IsOnTape g.R.Tape.Read.remaining g.R.ReadFiles.was_done (claim_of c.args.found.terms) p table o.agent (unguarded c.in_ok-agent.agent)) c.part.ensures
          (c.in_ok-agent.ensures.opened p on table (subst (IsPartOf table) (sym c.part.ensures) is));
      ends = (
        c.talk.result,
        unguarded c.talk.new.talker.agent,
        subst (λ b. Talks g.I.Read.remaining g.W.Write.contents file_state b table c.args.input.now c.talk.new.input c.args.out.now c.talk.new.output
            (unguarded c.in_ok-agent.agent) (unguarded c.talk.new.talker.agent) c.talk.result) (c.heeded_part-heeded.ensures.heeds ∙ ap heeds c.claim.ensures)
            (unguard_talks g.I.Read.remaining g.W.Write.contents _ table _ _ _ _ c.in_ok-agent.agent c.talk.new.talker.agent c.talk.result (c.talk.ensures.talks table is_part)),
        sym (ap told_of_dialogue c.in_err-talk.was),
      );
    })

pub returns : goal.returns
returns g c p on table is =
    let is_part = subst (IsPartOf table) (sym (c.in_ok-agent.ensures.part ∙ c.part.ensures)) is in
    record {
      opened = Ok (unguarded c.in_ok-agent.agent);
      opens = subst (λ (o : AgentPart). IsOnTape g.R.Tape.Read.remaining g.R.ReadFiles.was_done (claim_of c.args.found.terms) p table o.agent (unguarded c.in_ok-agent.agent)) c.part.ensures
          (c.in_ok-agent.ensures.opened p on table (subst (IsPartOf table) (sym c.part.ensures) is));
      ends = (
        c.talk.result,
        unguarded c.talk.new.talker.agent,
        subst (λ b. Talks g.I.Read.remaining g.W.Write.contents file_state b table c.args.input.now c.talk.new.input c.args.out.now c.talk.new.output
            (unguarded c.in_ok-agent.agent) (unguarded c.talk.new.talker.agent) c.talk.result) (c.heeded_part-heeded.ensures.heeds ∙ ap heeds c.claim.ensures)
            (unguard_talks g.I.Read.remaining g.W.Write.contents _ table _ _ _ _ c.in_ok-agent.agent c.talk.new.talker.agent c.talk.result (c.talk.ensures.talks table is_part)),
        sym (ap told_of_dialogue c.in_ok-talk.was),
      );
    }

pub returns-in_err-agent : goal.returns-in_err-agent
returns-in_err-agent g c p on table is =
    let q = err_from_is_err_and c.from_residual.result c.from_residual.ensures.1 in
    let is_part = subst (IsPartOf table) (sym c.part.ensures) is in
    let not = subst (λ (o : AgentPart). IsNotOnTape g.R.Tape.Read.remaining g.R.ReadFiles.was_done (claim_of c.args.found.terms) p table o.agent c.in_err-agent.field-0.0) c.part.ensures
    (c.in_err-agent.ensures.opened p on table is_part) in
    rw (q.1, q.2) (record { opened = Err c.in_err-agent.field-0.0; opens = not; ends = (refl, refl, refl) })
