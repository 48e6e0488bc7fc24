-- The plan that was checked is this one.
use Rattle.std.proofs.Common.{Err, sym, subst}
use Rattle.checker.specs.Checking.{IsRefusedFor}
use Rattle.fleet_commands.specs.Code.Reading.{IsJudgedSo}
use Rattle.fleet_commands.proofs.ReadLemmas.{refused}
use Rattle.fleet_commands.proofs.anew_command.checked.Goals as goal

pub returns-in-Err : goal.returns-in-Err
returns-in-Err c =
    let m = c.args.map.now in
    let fault = c.in-Err.rejected.fault in
    let was = subst (λ p. IsRefusedFor m p fault) c.in_ok-taken.ensures.plan c.in-Err.ensures.1 in
    subst (λ f. IsJudgedSo m c.args.left (Err f)) (sym c.fault_of.ensures) (refused m c.args.left fault was)
