use Rattle.agent_commands.proofs.SameLemmas.{same_course}
use Rattle.agent_commands.proofs.kept_plan.is_same_course.Goals as goal

pub returns-then-eq : goal.returns-then-eq
returns-then-eq c = same_course c.args.one.now c.args.other.now _ _ _ _ _ c.start.ensures c.start-2.ensures c.acts.ensures c.acts-then-eq.ensures c.if-eq.ensures c.eq-then-eq.ensures
