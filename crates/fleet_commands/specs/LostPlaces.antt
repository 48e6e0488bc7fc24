-- In which cells a robot may be that is lost: along its agent's path, from the end of the last move
-- that is finished by its tape, as far as no tape shows that a move has to wait.
use Rattle.std.specs.Prelude.{◌≡◌, ◌≢◌, ℕ, ◌+◌, ◌-◌, ◌<◌, ◌≤◌}
use Rattle.std.specs.Prelude.{false, List, map, Option, None, Ok, Some, slice_get}
use Rattle.std.specs.List.{range_with_len}
use Rattle.text_io.specs.Text.{ended}
use Rattle.model.specs.Dependency.{need}
use Rattle.model.specs.History.{at}
use Rattle.model.specs.Rules.{path_cell}
use Rattle.model.specs.Timetable.{Track, Timetable, moves}
use Rattle.agent.specs.States.{State}
use Rattle.event_text.specs.ReplyText.{reply_line}
use Rattle.fleet_commands.specs.FoundTapes.{Found, begun_by, finished_by}
use Rattle.fleet_commands.specs.LeftPlan.{is_left_out}
use Rattle.fleet_commands.specs.OneRun.{unmet_by}
use Rattle.fleet_commands.specs.Standing.{kept_by_need}
use Rattle.fleet_commands.specs.declared.one_run.Unmet.{Unmet}

-- what a move of the agent still waits for by a tape; nothing where the tape that would tell is
-- unknown
abbrev pub shown_wait : Timetable → List Found → ℕ → Track → ℕ → Option Unmet
shown_wait tt found i track k =
    unmet_by None found (kept_by_need (finished_by found) (need tt i track k))

-- The agent's drive may have begun so many moves: those that its tape has as begun, and behind
-- them all up to the first one that has to wait.
pub record IsFurthest (tt : Timetable) (found : List Found) (i : ℕ) (track : Track)
    (count : ℕ) : Type 0 where
  pub begun : begun_by found i ≤ count
  pub within : count ≤ moves track
  pub free : (k : ℕ) → begun_by found i ≤ k → k < count → shown_wait tt found i track k ≡ None
  pub stops : count < moves track → shown_wait tt found i track count ≢ None

-- each tape that was found to be right, but for that of an agent that is left out, has as many
-- records as its agent left on it
abbrev pub AreTapesOf : Option ℕ → List Found → (ℕ → State) → Type 0
AreTapesOf without found states =
    (j records : ℕ) → is_left_out without j ≡ false → slice_get found j ≡ Some (Ok records)
    → records ≡ (states j).records

-- ---- what is written

-- the line of a place on the path: its cell, and how many moves lead there
abbrev pub place_line : Track → ℕ → List ℕ
place_line track k = reply_line (at (path_cell track k) k)

-- a line for each place from the one to the other
abbrev pub places_text : Track → (from to : ℕ) → List ℕ
places_text track from to = ended (map (place_line track) (range_with_len from (to + 1 - from)))
