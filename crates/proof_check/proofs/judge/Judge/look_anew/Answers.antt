use Rattle.std.proofs.Common.{◌∙◌, subst, sym}
use Rattle.proof_check.specs.Code.Trails.{AreTables, IsTrail}
use Rattle.proof_check.proofs.judge.Judge.look_anew.Goals as goal

pub loop-agent-preserved : goal.loop-agent-preserved
loop-agent-preserved c =
    let before = c.loop-agent.invariant in
    let at = c.in_ok-look_at.ensures in
    record {
      ends = at.ends ∙ before.ends;
      tables = at.tables ∙ before.tables;
      demands = at.demands ∙ before.demands;
      trail = λ m tables trail.
          subst (λ e. IsTrail m e.items c.look_at-in-loop-agent.new.self.trail.demands.items c.look_at-in-loop-agent.new.self.trail.kept.items) before.ends
          (at.trail m (subst (AreTables m c.loop-agent.self.ends.items) (sym before.tables)
          (subst (λ e. AreTables m e.items c.args.self.now.tables.items) (sym before.ends) tables))
          (subst (λ e. IsTrail m e.items c.loop-agent.self.trail.demands.items c.loop-agent.self.trail.kept.items) (sym before.ends) (before.trail m tables trail)));
    }
