-- Every run at which a runner stands is safe.
use Rattle.std.proofs.Common.{◌≡◌, ℕ, ◌≤◌, List, ◌++◌, Some, subst}
use Rattle.std.specs.Prelude.{slice_get}
use Rattle.model.specs.declared.version.Version.{Version}
use Rattle.model.specs.Dependency.{IsRotation}
use Rattle.model.specs.History.{History, kept_starts}
use Rattle.model.specs.Rules.{IsRun}
use Rattle.model.specs.Safety.{IsSafe}
use Rattle.model.specs.Timetable.{Track, Timetable, moves_before, track_of, IsConflictFree}
use Rattle.executor.specs.SafeRuns.{IsSafeRun}
use Rattle.executor.specs.Standing.{RunnerState, StandsAt}

module _
    (every : (v : Version) (tt : Timetable) (later earlier : History) → IsConflictFree tt
    → IsRun v tt (later ++ earlier) → IsSafe tt earlier)
    (never : (v : Version) (tt : Timetable) (step : ℕ) (agents : List ℕ) (h : History) (place i : ℕ)
    (track : Track)
    → IsConflictFree tt → IsRotation tt step agents → IsRun v tt h → slice_get agents place ≡ Some i
    → track_of tt i ≡ Some track → kept_starts h i ≤ moves_before track step)
  where
    pub safe-by : (v : Version) (tt : Timetable) (h : History) → IsConflictFree tt → IsRun v tt h
        → IsSafeRun v tt h
    safe-by v tt h free run = record {
      run = run;
      safe = λ later earlier parts. every v tt later earlier free (subst (IsRun v tt) parts run);
      rotations =
          λ step agents place i track turns member there. never v tt step agents h place i track
          free turns run member there;
    }

    pub safe-run
        : (r : RunnerState) (h : History) → StandsAt r h → IsSafeRun r.version r.timetable h
    safe-run r h stands = safe-by r.version r.timetable h stands.conflict_free stands.run
