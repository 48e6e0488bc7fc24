use Rattle.std.proofs.Common.{◌≡◌, length}
use Rattle.plan_commands.proofs.WalkLemmas.{AreLinedUp}
use Rattle.plan_commands.proofs.walk.first_stretches.Given as goal

abbrev pub invariant-loop-agent : goal.invariant-loop-agent
invariant-loop-agent l = record { lined_up : AreLinedUp l.courses 0 l.stretches.items l.agent; count : length l.stretches.items ≡ l.agent }
