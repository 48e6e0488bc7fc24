-- The agent's part was taken, and it answered; or there is no such agent.
use Rattle.std.proofs.Common.{Ok, Err, inl, refl, sym, subst}
use Rattle.std.proofs.lemmas.Result.{err_from_is_err_and}
use Rattle.agent_commands.specs.AgentCommand.{Converses}
use Rattle.agent_commands.specs.Code.Plans.{IsPartOnTerms, IsTermsFor}
use Rattle.agent_commands.proofs.TermsLemmas.{claim_of-terms}
use Rattle.agent_commands.proofs.agent_command.serve.Goals as goal

pub returns-in_err-found : goal.returns-in_err-found
returns-in_err-found g c =
    let p = err_from_is_err_and c.from_residual.result c.from_residual.ensures.1 in
    rw (p.1, p.2) (record { read = Err _; reads = c.in_err-found.ensures; ends = (refl, refl, refl) })

pub returns-in_default : goal.returns-in_default
returns-in_default g c =
    let read = c.in_ok-found.ensures in
    let none = subst (IsPartOnTerms c.args.seat.claim read.0 c.args.seat.id) c.in_default.is read.2 in
    record { read = Ok read.0; reads = read.1; ends = record { opened = Err _; opens = inl none; ends = (refl, refl, refl) } }

pub returns : goal.returns
returns g c =
    let read = c.in_ok-found.ensures in
    let part = subst (IsPartOnTerms c.args.seat.claim read.0 c.args.seat.id) c.in-Some.is read.2 in
    let same = claim_of-terms c.args.seat.claim read.0.plan c.in-Some.found.terms part.2 in
    let own = c.converse.ensures read.0.plan (subst (λ k. IsTermsFor k read.0.plan c.in-Some.found.terms) (sym same) part.2) read.0.dependencies part.0 in
    record {
      read = Ok read.0;
      reads = read.1;
      ends = subst (λ i. Converses g.R.Tape.Read.remaining g.R.ReadFiles.was_done g.I.Read.remaining g.W.Write.contents c.args.seat.claim read.0.plan read.0.dependencies i c.args.input.now
          c.converse.new.input c.args.out.now c.converse.new.out c.converse.result) part.1
          (subst (λ k. Converses g.R.Tape.Read.remaining g.R.ReadFiles.was_done g.I.Read.remaining g.W.Write.contents k read.0.plan read.0.dependencies c.in-Some.found.own.agent c.args.input.now
          c.converse.new.input c.args.out.now c.converse.new.out c.converse.result) same own);
    }
