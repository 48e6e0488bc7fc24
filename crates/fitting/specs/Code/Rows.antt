-- What is answered of an agent and the row of its number.
use Rattle.std.specs.Prelude.{◌≡◌, ◌≢◌, ℕ, Some, Result, Ok, Err}
use Rattle.model.specs.Costs.{cost, Solves}
use Rattle.model.specs.Timetable.{Track, cell_at, track_of}
use Rattle.scenario.specs.Query.{Query}
use Rattle.fitting.specs.declared.fit_fault.FitFault.{FitFault}
use Rattle.fitting.specs.declared.fit_fault.FitFault.TheVariants.{TooFewRows, AgentCount}
use Rattle.fitting.specs.declared.fit_fault.FitFault.TheVariants.{StartDiffers, GoalDiffers}
use Rattle.fitting.specs.declared.fit_fault.FitFault.TheVariants.{SizeDiffers}
use Rattle.checker.specs.Checking.{Checked}
use Rattle.fitting.specs.Fitting.{task_of, HasSize}

-- the track of the agent, and that it solves the row, or the first that differs
abbrev pub JudgesAgent : Checked → Query → ℕ → Result Unit FitFault → Type 0
JudgesAgent c row i (Ok u) =
    (track : Track) × (track_of c.timetable i ≡ Some track)
    × Solves c.width c.height track (task_of row)
JudgesAgent c row i (Err (SizeDiffers j)) =
    (track : Track) × (track_of c.timetable i ≡ Some track) × (j ≡ i) × (HasSize c row → ⊥)
JudgesAgent c row i (Err (StartDiffers j)) =
    (track : Track) × (track_of c.timetable i ≡ Some track) × (j ≡ i) × HasSize c row
    × (track.start ≢ row.start)
JudgesAgent c row i (Err (GoalDiffers j)) =
    (track : Track) × (track_of c.timetable i ≡ Some track) × (j ≡ i) × HasSize c row
    × (track.start ≡ row.start)
    × (cell_at track (cost track) ≢ row.goal)
JudgesAgent c row i (Err TooFewRows) = ⊥
JudgesAgent c row i (Err AgentCount) = ⊥
