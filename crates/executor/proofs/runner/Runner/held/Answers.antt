use Rattle.std.proofs.Common.{Some, sym, ap, subst, ◌∙◌}
use Rattle.std.specs.Prelude.{option_map, slice_get}
use Rattle.std.proofs.lemmas.Option.{slice_get-get_or}
use Rattle.model.specs.Safety.{held}
use Rattle.model.specs.Timetable.{track_of}
use Rattle.executor.specs.Standing.{StandsAt}
use Rattle.executor.proofs.GoesLemmas.{held-on}
use Rattle.executor.specs.Laws.Safe.{safe-run}
use Rattle.executor.proofs.runner.Runner.held.Goals as goal

pub returns-clause-held : goal.returns-clause-held
returns-clause-held c h stands =
    let inside = subst (λ r. StandsAt r h) (sym c.self.view_is) stands in
    let found = c.in_ok-get.ensures.lookup in
    let listed = slice_get-get_or c.deref.result.now c.args.agent c.in_ok-get.field-0.now found.3.0 ∙ ap (λ a. Some a) (sym found.1) in
    let there = ap (λ l. slice_get l c.args.agent) (sym c.deref.ensures.value) ∙ listed in
    held-on _ h inside c.args.agent c.in_ok-get.field-0.now c.held.result there c.held.ensures.holds ∙ ap (λ r. option_map (λ track. held track h c.args.agent) (track_of r.timetable c.args.agent))
    c.self.view_is

pub returns-clause-safe : goal.returns-clause-safe
returns-clause-safe c = safe-run c.every_run_is_safe.ensures c.rotations_never_begin.ensures _

pub returns-in_err-get-clause-safe : goal.returns-in_err-get-clause-safe
returns-in_err-get-clause-safe c = safe-run c.every_run_is_safe.ensures c.rotations_never_begin.ensures _
