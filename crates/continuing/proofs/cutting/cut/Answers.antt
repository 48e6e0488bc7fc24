-- Only memory can lack: what is kept is within the limits of the plan.
use Rattle.std.proofs.Common.{◌≡◌, ◌<◌, IfErr, length, take, Some, Err, refl, sym, ap, subst, ◌∙◌}
use Rattle.std.specs.Prelude.{slice_get}
use Rattle.std.proofs.lemmas.Option.{slice_get_read}
use Rattle.std.proofs.lemmas.Result.{err_from_is_err_and}
use Rattle.plan_text.specs.declared.plan.PushFault.{PushFault}
use Rattle.plan_text.specs.declared.plan.PushFault.TheVariants.{TooMany, OutOfMemory}
use Rattle.continuing.proofs.CutLemmas.{fits-behind}
use Rattle.continuing.proofs.cutting.cut.Goals as goal

lacks-memory : (fault : PushFault) → (fault ≡ TooMany → ⊥) → fault ≡ OutOfMemory
lacks-memory TooMany not = absurd (not refl)
lacks-memory OutOfMemory not = refl

pub returns-in_err-push-clause-fault : goal.returns-in_err-push-clause-fault
returns-in_err-push-clause-fault c =
    let p = err_from_is_err_and c.from_residual-in_err-push.result c.from_residual-in_err-push.ensures.1 in
    let items = c.courses-course-items.result.now in
    let i = c.loop-course.course-index in
    let course = c.course-item.result in
    let less = c.loop-course-test.true in
    let there = slice_get_read items (length items) i course refl less c.course-item.is in
    let courses = c.courses-course-items.ensures.courses in
    let acts = c.in_ok-acts.ensures.acts ∙ ap (take c.args.time) c.acts.ensures in
    subst (λ r. IfErr r (λ fault. fault ≡ OutOfMemory)) (sym p.1)
    (p.2
    ∙ lacks-memory c.in_err-push.field-0.0
    (λ many. fits-behind c.args.plan.now c.args.time i course c.loop-course.kept.courses c.in_ok-acts.acts.items c.courses-course-items.ensures.within
    (subst (λ l. i < length l) courses less) (subst (λ l. slice_get l i ≡ Some course) courses there) c.loop-course.invariant.1 acts
    (c.push.ensures.too_many.0 (c.in_err-push.was ∙ ap (λ f. Err f) many))))
