-- There is room for all acts, and those of the characters so far are there.
use Rattle.std.proofs.Common.{◌≡◌, ◌<◌, ℕ, length, get_or}
use Rattle.model.specs.declared.act.Act.TheVariants.{Wait}
use Rattle.plan_text.specs.Code.PlanLines.{act_by}
use Rattle.plan_text.proofs.agent_line.acts_of.Given as goal

abbrev pub invariant-loop-i : goal.invariant-loop-i
invariant-loop-i l = record {
  count : length l.acts.items ≡ length l.characters;
  each : (k : ℕ) → k < l.i → get_or l.acts.items k Wait ≡ act_by (get_or l.characters k 0);
}
