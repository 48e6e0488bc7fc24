use Rattle.std.proofs.Common.{◌≡◌, ◌≤◌, ◌*◌, ℕ, length, Some, Ok}
use Rattle.std.specs.Prelude.{slice_get}
use Rattle.model.specs.Timetable.{Track, moves, track_of}
use Rattle.fleet_commands.specs.FoundTapes.{Found, IsFoundIn}
use Rattle.fleet_commands.proofs.found_tapes.read_tapes.Given as goal

-- those so far
abbrev pub invariant-loop-agent : goal.invariant-loop-agent
invariant-loop-agent g l = record {
  count : length l.found.items ≡ l.agent;
  each : (i : ℕ) (f : Found) → slice_get l.found.items i ≡ Some f → IsFoundIn g.R.ReadFiles.was_done l.dependencies i f;
  within : (i records : ℕ) (track : Track) → track_of l.dependencies i ≡ Some track → slice_get l.found.items i ≡ Some (Ok records) → records ≤ 2 * moves track;
}
