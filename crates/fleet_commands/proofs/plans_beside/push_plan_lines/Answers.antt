-- One agent more, and none before the first.
use Rattle.std.proofs.Common.{◌≡◌, ◌+◌, suc, arith, subst, sym}
use Rattle.agent_commands.specs.KeptPlan.{IsFoundBeside}
use Rattle.fleet_commands.specs.PlansBeside.{AreCompared, ComparesNext}
use Rattle.fleet_commands.proofs.PlanLemmas.{behind-front}
use Rattle.fleet_commands.proofs.plans_beside.push_plan_lines.Goals as goal

pub loop-agent-preserved : goal.loop-agent-preserved
loop-agent-preserved g c =
    let i = c.loop-agent.agent in
    let before = c.loop-agent.invariant.compared in
    let comes = subst (λ lines. ComparesNext i c.in_ok-found.found c.loop-agent.foremost c.in_ok-foremost.foremost lines c.compare_next.new.lines.items) before.2 c.in_ok-foremost.ensures in
    let next = behind-front c.args.lines.now.items i c.in_ok-found.found c.loop-agent.foremost c.in_ok-foremost.foremost before.0 c.compare_next.new.lines.items comes in
    let found = subst (IsFoundBeside g.R.ReadFiles.was_done) (sym c.in_ok-found.ensures) c.plan_beside.ensures in
    let same : suc i ≡ i + 1 = omega arith in
    record {
      compared = (
        next.0,
        subst (λ n. AreCompared g.R.ReadFiles.was_done n c.in_ok-foremost.foremost next.0) same (c.loop-agent.foremost, before.0, before.1, (c.in_ok-found.found, found, next.1)),
        next.2,
      );
    }
