use Rattle.std.proofs.Common.{◌∙◌, ap, arith}
use Rattle.std.proofs.lemmas.Result.{IfOk-weaker}
use Rattle.model.specs.Plan.{longest_of}
use Rattle.continuing.specs.Continuing.{cut_at}
use Rattle.continuing.proofs.CopyLemmas.{cut-end, end-few}
use Rattle.continuing.proofs.cutting.copy.Goals as goal

pub overflow_cast-end : goal.overflow_cast-end
overflow_cast-end c =
    let few = end-few c.args.plan.now c.courses.ensures.within in
    let end = c.longest-end.ensures ∙ ap longest_of c.courses.ensures.courses in
    omega (arith, few, end)

pub returns-clause-plan : goal.returns-clause-plan
returns-clause-plan c =
    let end = c.longest-end.ensures ∙ ap longest_of c.courses.ensures.courses in
    let whole = ap (λ n. cut_at n c.args.plan.now) end ∙ cut-end c.args.plan.now in
    IfOk-weaker c.cut.result _ _ (λ kept is. is ∙ whole) c.cut.ensures.plan
