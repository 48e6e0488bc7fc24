-- Who waits for nobody is led no further.
use Rattle.std.proofs.Common.{◌≡◌, ◌-◌, length, None, sym, ap, ◌∙◌, arith}
use Rattle.std.specs.Prelude.{slice_index_or}
use Rattle.fleet_commands.specs.Standing.{keeper_after}
use Rattle.fleet_commands.proofs.StandingLemmas.{led-no-further}
use Rattle.fleet_commands.proofs.keeping.keeper_of.Goals as goal

pub returns-in_default : goal.returns-in_default
returns-in_default c =
    let waits = c.args.waits.now in
    let n = c.loop-step._step in
    let less = c.loop-step-test.true in
    let here : c.loop-step.end ≡ keeper_after waits c.args.agent n = c.loop-step.invariant.led in
    let nobody : slice_index_or waits (keeper_after waits c.args.agent n) None ≡ None = ap (λ e. slice_index_or waits e None) (sym here) ∙ sym c.next_of.ensures ∙ c.in_default.is in
    let rest = led-no-further waits c.args.agent n nobody (length waits - n) in
    here ∙ sym rest ∙ ap (keeper_after waits c.args.agent) (omega (arith, less))
