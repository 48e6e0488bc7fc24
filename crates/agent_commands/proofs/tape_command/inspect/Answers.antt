-- The agent's part was taken, and its tape was read; or there is no such agent.
use Rattle.std.proofs.Common.{Ok, Err, refl, sym, subst, ◌∙◌, ap}
use Rattle.std.specs.Prelude.{MatchResult}
use Rattle.std.proofs.lemmas.Result.{err_from_is_err_and}
use Rattle.depgraph.specs.AgentParts.{IsPartOf}
use Rattle.agent_commands.specs.TapeCommand.{IsNotShown}
use Rattle.agent_commands.specs.Code.Reading.{IsPartFor}
use Rattle.agent_commands.specs.Code.Reports.{IsReported}
use Rattle.agent_commands.proofs.ReportLemmas.{as_text}
use Rattle.agent_commands.proofs.tape_command.inspect.Goals as goal

pub returns-in_err-own : goal.returns-in_err-own
returns-in_err-own g c =
    let p = err_from_is_err_and c.from_residual.result c.from_residual.ensures.1 in
    rw (p.1, p.2) (record { read = Err _; reads = c.in_err-own.ensures; ends = (refl, refl) })

pub returns-in_default : goal.returns-in_default
returns-in_default g c =
    let read = c.in_ok-own.ensures in
    let none = subst (IsPartFor read.0 c.args.id) c.in_default.is read.2 in
    record { read = Ok read.0; reads = read.1; ends = (none, refl) }

pub returns : goal.returns
returns g c =
    let read = c.in_ok-own.ensures in
    let part = subst (IsPartFor read.0 c.args.id) c.in-Some.is read.2 in
    let lent = c.part.ensures in
    let is = subst (IsPartOf read.0) (sym lent) part.0 in
    let kept = subst (λ i. MatchResult c.read_report.result (IsReported g.T.Read.remaining read.0 i c.args.tape.now c.read_report.new.file)
    (IsNotShown g.T.Read.remaining read.0 i c.args.tape.now c.read_report.new.file))
    (ap (λ p. p.agent) lent ∙ part.1) (c.read_report.ensures.reports read.0 is) in
    record { read = Ok read.0; reads = read.1; ends = as_text g.T.Read.remaining read.0 c.args.id c.args.tape.now c.read_report.new.file c.read_report.result kept }
