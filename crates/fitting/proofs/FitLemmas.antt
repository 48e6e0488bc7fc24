-- Agents and the rows of their numbers.
use Rattle.std.proofs.Common.{◌≡◌, ℕ, ◌<◌, ◌≤◌, List, [], length, map, get_or, Some, Ok, Err, sym, ap, subst, ◌∙◌}
use Rattle.std.specs.Prelude.{Option, slice_get, option_map}
use Rattle.std.proofs.lemmas.Option.{slice_get-map, slice_get-get_or}
use Rattle.model.specs.Costs.{SolvesAt}
use Rattle.model.specs.Timetable.{Track, Timetable, cell_at, track_of}
use Rattle.model.specs.Laws.Tracks.{cell_at-start}
use Rattle.scenario.specs.Query.{Query}
use Rattle.fitting.specs.declared.fit_fault.FitFault.{FitFault}
use Rattle.fitting.specs.declared.fit_fault.FitFault.TheVariants.{TooFewRows, AgentCount, StartDiffers, GoalDiffers, SizeDiffers}
use Rattle.checker.specs.Checking.{Checked}
use Rattle.fitting.specs.Fitting.{task_of, IsReached, AnswersFit}
use Rattle.fitting.specs.Code.Rows.{JudgesAgent}

-- there is a track, and what is read of it
pub some_track : (tab : Timetable) (i : ℕ) → i < length tab.tracks → (track : Track) × (track_of tab i ≡ Some track)
some_track tab i less =
    let none : Track = record { start = record { x = 0; y = 0 }; later = [] } in
    (get_or tab.tracks i none, slice_get-get_or tab.tracks i none less)

pub read_track : {X : Type 0} (tab : Timetable) (i : ℕ) (track : Track) (read : Track → X) (answer : Option X) → track_of tab i ≡ Some track
    → answer ≡ option_map read (track_of tab i) → answer ≡ Some (read track)
read_track tab i track read answer there is = is ∙ ap (option_map read) there

pub at_first : (track : Track) → cell_at track 0 ≡ track.start
at_first track = cell_at-start track.start track.later

-- the first row that an agent does not solve is the answer
pub fault_of_row : (c : Checked) (rows : List Query) (k i : ℕ) (row : Query) → length c.timetable.tracks ≡ k → k ≤ length rows
    → ((j : ℕ) → j < i → SolvesAt c.width c.height c.timetable.tracks (map task_of rows) j) → slice_get rows i ≡ Some row → (fault : FitFault)
    → JudgesAgent c row i (Err fault) → AnswersFit c rows k (Err fault)
fault_of_row c rows k i row agents enough before is_row fault h = by_fault fault h where
  reached : (track : Track) (j : ℕ) → track_of c.timetable i ≡ Some track → j ≡ i → IsReached c rows k j track row
  reached track j there same = subst (λ n. IsReached c rows k n track row) (sym same)
      (record { agents = agents; enough = enough; before = before; is_track = there; is_row = is_row })

  by_fault : (fault : FitFault) → JudgesAgent c row i (Err fault) → AnswersFit c rows k (Err fault)
  by_fault TooFewRows h = absurd h
  by_fault AgentCount h = absurd h
  by_fault (SizeDiffers j) (track, there, same, differs) = (track, row, reached track j there same, differs)
  by_fault (StartDiffers j) (track, there, same, size, differs) = (track, row, reached track j there same, size, differs)
  by_fault (GoalDiffers j) (track, there, same, size, start, differs) = (track, row, reached track j there same, size, start, differs)

pub solves_at : (c : Checked) (rows : List Query) (i : ℕ) (row : Query) (u : Unit) → slice_get rows i ≡ Some row → JudgesAgent c row i (Ok u)
    → SolvesAt c.width c.height c.timetable.tracks (map task_of rows) i
solves_at c rows i row u there h =
    (h.0, task_of row, h.1, slice_get-map task_of rows i ∙ ap (option_map task_of) there, h.2)
