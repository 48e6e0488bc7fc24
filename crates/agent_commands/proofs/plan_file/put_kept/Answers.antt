-- The first line was taken, and then the plan.
use Rattle.std.proofs.Common.{◌≡◌, ◌∙◌, ap, subst, sym}
use Rattle.std.specs.Io.KnownBytes.{Appends}
use Rattle.std.proofs.KnownBytes.{Appends-trans}
use Rattle.agent_commands.specs.KeptPlan.{mark_line}
use Rattle.agent_commands.proofs.plan_file.put_kept.Goals.{then-is_marked, else-is_marked}
use Rattle.agent_commands.proofs.plan_file.put_kept.Goals as goal

pub returns-in-Ok : goal.returns-in-Ok
returns-in-Ok g c =
    let line : c.if-is_marked.write_all.now ≡ mark_line c.args.is_marked = elim c.if-is_marked.branch [
      | then-is_marked w ↦ ap (λ r. r.now) w.write_all-is ∙ ap mark_line (sym w.if-is_marked.true)
      | else-is_marked w ↦ ap (λ r. r.now) w.write_all-is ∙ ap mark_line (sym w.if-is_marked.false)
    ] in
    Appends-trans _ _ _ _ _ (subst (Appends _ _) line c.in_ok-write_all.ensures.bytes) c.in-Ok.ensures.0
