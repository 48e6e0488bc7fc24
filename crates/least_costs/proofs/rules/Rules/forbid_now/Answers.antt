-- What stands there is asked.
use Rattle.std.proofs.Common.{◌≡◌, List, Some, length, refl, subst}
use Rattle.std.specs.Prelude.{slice_get}
use Rattle.std.proofs.lemmas.Option.{slice_get_read}
use Rattle.least_costs.specs.declared.rules.Timed.{Timed}
use Rattle.least_costs.proofs.rules.Rules.forbid_now.Goals as goal

pub returns-then-forbids : goal.returns-then-forbids
returns-then-forbids c = λ _ asked track rules meets here next.
    let timed = c.in-Some-get.timed.now in
    let found = c.in-Some-get.ensures.lookup in
    let at = subst (λ (l : List Timed). slice_get l c.in-Some.place ≡ Some timed) c.deref.ensures.value
    (slice_get_read c.deref.result.now (length c.deref.result.now) c.in-Some.place timed refl found.3.0 found.1) in
    c.forbids.ensures c.if-forbids.true track (rules.timed c.in-Some.place timed at track meets) here next
