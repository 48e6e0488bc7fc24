-- One kind of lines behind the other.
use Rattle.std.proofs.Common.{◌++◌, None, ap, subst, ◌∙◌}
use Rattle.depgraph.specs.Rotations.{turns_of}
use Rattle.fleet_commands.specs.PlansBeside.{AreCompared}
use Rattle.fleet_commands.specs.StatusText.{run_lines, status_lines}
use Rattle.fleet_commands.proofs.status_command.all_lines.Goals as goal

pub returns : goal.returns
returns g c =
    let table = c.args.dependencies.now in
    let found = c.in_ok-found.found.items in
    let turns = turns_of c.rotations-rotations.result.now in
    let plans = c.in_ok-push_plan_lines.ensures in
    let own = c.in_ok-lines.ensures ∙ ap (status_lines table turns) c.deref.ensures.value in
    let run = c.in_ok-push_run_lines.ensures ∙ ap (λ f. c.in_ok-lines.lines.items ++ run_lines table None turns f) c.deref-2.ensures.value ∙ ap (λ l. l ++ run_lines table None turns found) own in (
      found,
      turns,
      c.in_ok-found.ensures.found,
      c.rotations-rotations.ensures,
      (plans.0, plans.1, subst (λ n. AreCompared g.R.ReadFiles.was_done n plans.0 plans.1) c.agents.ensures.agents plans.2, plans.3 ∙ ap (λ l. l ++ plans.1) run),
    )
