-- One agent more, with a line or none.
use Rattle.std.proofs.Common.{◌++◌, ap, sym, ◌∙◌, append-nil}
use Rattle.fleet_commands.specs.StatusText.{unmet_line, unmet_line_by}
use Rattle.fleet_commands.proofs.LineLemmas.{behind-more}
use Rattle.fleet_commands.proofs.one_run.push_unmet.Goals as goal
use Rattle.fleet_commands.proofs.one_run.push_unmet.Goals.{in-Some+in_ok-push, in_default}

pub loop-agent-preserved : goal.loop-agent-preserved
loop-agent-preserved c =
    let n = c.loop-agent.agent in
    let before = c.loop-agent.lines.items in
    record {
      lines = behind-more c.args.lines.now.items (unmet_line c.args.dependencies.now c.args.without c.args.found.now) n before c.match-unmet_in.lines.items c.loop-agent.invariant.lines
          (elim c.match-unmet_in.branch [
            | in-Some+in_ok-push w ↦
                ap (λ v. v.items) w.lines-is ∙ w.in_ok-push.ensures.items ∙ ap (λ o. before ++ unmet_line_by n o) (sym w.in-Some.is ∙ c.unmet_in.ensures)
            | in_default w ↦
                ap (λ v. v.items) w.lines-is ∙ sym (append-nil before) ∙ ap (λ o. before ++ unmet_line_by n o) (sym w.in_default.is ∙ c.unmet_in.ensures)
          ]);
    }
