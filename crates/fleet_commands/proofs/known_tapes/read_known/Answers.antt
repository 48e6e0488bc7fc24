-- What shows that the tapes are not those of one run shows it of all that was read.
use Rattle.std.proofs.Common.{◌∙◌, Err, ap, subst, sym}
use Rattle.std.specs.Prelude.{IfErr}
use Rattle.std.proofs.lemmas.Result.{err_from_is_err_and}
use Rattle.fleet_commands.specs.HandoverCommand.{AreAllKnown}
use Rattle.fleet_commands.specs.Code.Reading.{IsHeldToOneRun, IsNotKnownBy}
use Rattle.fleet_commands.proofs.ReadLemmas.{held-unknown}
use Rattle.fleet_commands.proofs.known_tapes.read_known.Goals as goal

pub returns-in_err-hold_one_run-clause-fault : goal.returns-in_err-hold_one_run-clause-fault
returns-in_err-hold_one_run-clause-fault g c =
    let p = err_from_is_err_and c.from_residual-in_err-hold_one_run.result c.from_residual-in_err-hold_one_run.ensures.1 in
    let fault = c.in_err-hold_one_run.field-0.0 in
    let table = c.args.dependencies.now in
    let found = c.in_ok-found.found.items in
    let known = subst (AreAllKnown c.args.without) c.deref.ensures.value c.in_default.ensures in
    let held = subst (λ f. IsHeldToOneRun table c.args.without f (Err fault)) c.deref-2.ensures.value c.in_err-hold_one_run.ensures in
    subst (λ r. IfErr r (IsNotKnownBy g.R.ReadFiles.was_done table c.args.without)) (sym (p.1 ∙ ap Err p.2))
    (held-unknown g.R.ReadFiles.was_done table c.args.without found c.in_ok-found.ensures.found known fault held)
