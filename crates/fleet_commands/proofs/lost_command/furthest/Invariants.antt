-- None of the moves before that is not begun waits.
use Rattle.std.proofs.Common.{◌≡◌, ℕ, ◌<◌, ◌≤◌, None}
use Rattle.model.specs.Timetable.{Timetable}
use Rattle.depgraph.specs.AgentParts.{IsPartOf}
use Rattle.fleet_commands.specs.FoundTapes.{begun_by}
use Rattle.fleet_commands.specs.LostPlaces.{shown_wait}
use Rattle.fleet_commands.proofs.lost_command.furthest.Given as goal

abbrev pub invariant-loop-number : goal.invariant-loop-number
invariant-loop-number l = record {
  low : begun_by l.found l.part.agent ≤ l.number;
  free : (tt : Timetable) (is : IsPartOf tt l.part) (k : ℕ) → begun_by l.found l.part.agent ≤ k → k < l.number → shown_wait tt l.found l.part.agent is.track k ≡ None;
}
