-- No agent has more acts than a plan may have.
use Rattle.std.proofs.Common.{arith}
use Rattle.plan_commands.proofs.RowLemmas.{longest_few}
use Rattle.plan_commands.proofs.path_text.count_of_times.Goals as goal

pub overflow_add-result : goal.overflow_add-result
overflow_add-result c =
    let few = longest_few c.args.courses.now c.requires in
    let most = c.loop-course.invariant in
    omega (arith, few, most)
