use Rattle.std.proofs.Common.{◌≡◌, take}
use Rattle.std.specs.Prelude.{map}
use Rattle.optimality.specs.Splitting.{ends_of}
use Rattle.proof_commands.proofs.ends.ends_of_agents.Given as goal

abbrev pub invariant-loop-agent : goal.invariant-loop-agent
invariant-loop-agent l = l.ends.items ≡ map ends_of (take l.agent l.plan.timetable.tracks)
