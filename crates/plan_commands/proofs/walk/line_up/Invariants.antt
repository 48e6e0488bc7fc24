use Rattle.std.proofs.Common.{◌≡◌, length}
use Rattle.plan_commands.proofs.WalkLemmas.{AreLinedUp}
use Rattle.plan_commands.proofs.walk.line_up.Given as goal

abbrev pub invariant-loop-agent : goal.invariant-loop-agent
invariant-loop-agent l = record { lined_up : AreLinedUp l.courses l.step l.stretches l.agent; count : length l.stretches ≡ length l.courses }
