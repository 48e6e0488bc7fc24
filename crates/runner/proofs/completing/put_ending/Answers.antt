-- The rotation's number could not be put, or the events.
use Rattle.std.proofs.Common.{refl, sym, subst}
use Rattle.std.proofs.lemmas.Result.{err_from_is_err_and}
use Rattle.executor.specs.Endings.{IsEndedBy}
use Rattle.runner.specs.declared.completion.Completion.TheVariants.{Ends, Blocked}
use Rattle.runner.specs.Completing.{blocked_text, completion_text}
use Rattle.runner.proofs.completing.put_ending.Goals as goal

pub returns-in_err-put_blocked-in-Err-Rotation-clause-ending : goal.returns-in_err-put_blocked-in-Err-Rotation-clause-ending
returns-in_err-put_blocked-in-Err-Rotation-clause-ending g c h stands =
    let p =
    err_from_is_err_and c.from_residual-in_err-put_blocked-in-Err-Rotation.result
    c.from_residual-in_err-put_blocked-in-Err-Rotation.ensures.1 in
    let number = c.in-Err-Rotation.number in
    let blocks = rw c.in-Err-Rotation.field-0-is at (c.in-Err-Rotation.ensures h stands) in
    rw (p.1, p.2) (
      Blocked number,
      (blocked_text number, (blocks, refl), c.in_err-put_blocked-in-Err-Rotation.ensures.err),
    )

pub returns-in_err-put_completion-in-Ok-clause-ending : goal.returns-in_err-put_completion-in-Ok-clause-ending
returns-in_err-put_completion-in-Ok-clause-ending g c h stands =
    let p = err_from_is_err_and c.from_residual.result c.from_residual.ensures.1 in
    let ends = subst (IsEndedBy c.args.runner.now.version c.args.runner.now.timetable h) (sym c.deref.ensures.value) (c.in-Ok.ensures h stands) in
    rw (p.1, p.2) (
      Ends,
      (completion_text c.deref.result.now, (c.deref.result.now, ends, refl), c.in_err-put_completion-in-Ok.ensures.err),
    )
