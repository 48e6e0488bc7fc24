-- The agents before have made by the time what they have begun, and it is no later than it has to be.
use Rattle.std.proofs.Common.{◌≡◌, ℕ, ◌<◌, ◌≤◌, Some}
use Rattle.model.specs.Timetable.{Track, moves_before, track_of}
use Rattle.fleet_commands.specs.FoundTapes.{begun_by}
use Rattle.fleet_commands.specs.CutTimes.{HasAllBegun}
use Rattle.fleet_commands.proofs.cut_time.cut_time.Given as goal

abbrev pub invariant-loop-agent : goal.invariant-loop-agent
invariant-loop-agent l = record {
  has : (i : ℕ) (track : Track) → i < l.agent → track_of l.dependencies i ≡ Some track → begun_by l.found i ≤ moves_before track l.time;
  least : (sooner : ℕ) → HasAllBegun l.dependencies l.found sooner → l.time ≤ sooner;
}
