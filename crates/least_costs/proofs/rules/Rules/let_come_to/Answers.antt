-- What stands there is asked.
use Rattle.std.proofs.Common.{◌≡◌, List, Some, length, refl, subst}
use Rattle.std.specs.Prelude.{slice_get}
use Rattle.std.proofs.lemmas.Option.{slice_get_read}
use Rattle.least_costs.specs.declared.rules.Timed.{Timed}
use Rattle.least_costs.proofs.rules.Rules.let_come_to.Goals as goal

pub returns-in-Some : goal.returns-in-Some
returns-in-Some c = λ e asked m ends track rules walk meets here.
    let found = c.in-Some.ensures.lookup in
    let at = subst (λ (l : List Timed). slice_get l c.args.place ≡ Some c.in-Some.timed.now) c.deref.ensures.value
    (slice_get_read c.deref.result.now (length c.deref.result.now) c.args.place c.in-Some.timed.now refl found.3.0 found.1) in
    c.lets_come.ensures e m ends track walk (rules.timed c.args.place c.in-Some.timed.now at track meets) here
