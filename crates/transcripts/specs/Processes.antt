-- What one process of an agent did, as its lines tell it. A process may end at any moment. What it
-- wrote counts, whether anybody read it or not.
use Rattle.std.specs.Prelude.{◌≡◌, ℕ, ◌*◌, ◌≤◌, ◌⊎◌, true, false, List, [], ◌∷◌, ◌++◌}
use Rattle.std.specs.Prelude.{Option, None, Some}
use Rattle.model.specs.Timetable.{Track, Timetable, moves, track_of}
use Rattle.agent.specs.States.{State, finished_moves, begun_moves, held_by_tape}
use Rattle.fleet.specs.Deeds.{Deed, opens, ends, ends_starting, ends_finishing, Does, DoesAll}
use Rattle.robot.specs.Dialogue.{IsAnswerTo, IsStaleAnswer}
use Rattle.robot.specs.Requests.{start, finish, AsksFor}
use Rattle.robot.specs.Turns.{state_line}

pub record Process : Type 0 where
  -- the timetable of the plan that it ran by
  pub by : Timetable
  -- the lines that it answered, without their LF
  pub lines : List (List ℕ)
  -- the lines that it wrote whole: that of its state, and then an answer to each of those
  pub texts : List (List ℕ)
  -- the line, if any, that it had begun to answer when it ended, with no answer written whole
  pub begun : Option (List ℕ)

-- one that ran by this timetable
abbrev pub process_of : Timetable → (lines texts : List (List ℕ)) → Option (List ℕ) → Process
process_of by lines texts begun =
    record { by = by; lines = lines; texts = texts; begun = begun }

-- the state of an agent that has just opened a tape with so many records
abbrev pub on_tape : ℕ → State
on_tape n = record { records = n; heard = []; broken = false }

-- How a process ends that has begun to answer this line, or none. A start or a finish that isn't
-- refused may have stored its record or not. Whatever else the process was doing leaves nothing.
abbrev pub EndsWhile : Option (List ℕ) → Deed → Type 0
EndsWhile None deed = deed ≡ ends
EndsWhile (Some line) deed =
    (deed ≡ ends) ⊎ (AsksFor start line × (deed ≡ ends_starting))
    ⊎ (AsksFor finish line × (deed ≡ ends_finishing))

-- The line is answered by the deed that it asks for, or by none where it isn't understood. Or it is
-- a message that shows the tape to be an older one, and the answer says so.
abbrev pub IsAnsweredSo : Timetable → ℕ → Track → State → List ℕ → List ℕ → List Deed → State
    → Type 0
IsAnsweredSo by i track old line text deeds new =
    (IsAnswerTo line text deeds [] × DoesAll by i track old deeds new)
    ⊎ (IsStaleAnswer true by i old line text × (deeds ≡ []) × (new ≡ old))

-- each line is answered by its text, in turn
abbrev pub AreAllAnsweredSo : Timetable → ℕ → Track → State → List (List ℕ) → List (List ℕ)
    → List Deed → State → Type 0
AreAllAnsweredSo by i track old [] [] deeds new = (deeds ≡ []) × (new ≡ old)
AreAllAnsweredSo by i track old (line ∷ lines) (text ∷ texts) deeds new =
    (mid : State) × (own : List Deed) × (rest : List Deed)
    × IsAnsweredSo by i track old line text own mid
    × AreAllAnsweredSo by i track mid lines texts rest new × (deeds ≡ own ++ rest)
AreAllAnsweredSo by i track old _ _ deeds new = ⊥

-- The process opened the agent's tape, which had so many records. It wrote the line of its state,
-- and answered its lines by these deeds. It ended at a request or between two, and left so many
-- records on the tape.
pub record IsLedProcess (i old : ℕ) (process : Process) (first : List ℕ) (answers : List (List ℕ))
    (deeds : List Deed) (new : ℕ) : Type 0 where
  pub track : Track
  pub is_track : track_of process.by i ≡ Some track
  pub within : old ≤ 2 * moves track
  pub is_first : first ≡ state_line track (on_tape old)
  pub done : List Deed
  pub last : State
  pub are_answered
      : AreAllAnsweredSo process.by i track (on_tape old) process.lines answers done last
  pub ending : Deed
  pub is_ending : EndsWhile process.begun ending
  pub end : State
  pub leaves : Does process.by i track last ending end
  pub is_new : new ≡ end.records
  pub are_deeds
      : deeds ≡ opens (held_by_tape track (on_tape old)) (finished_moves (on_tape old)) ∷ done
      ++ ending ∷ []

-- The same by the lines that it wrote whole. If there is none, it read no line, and the tape is as
-- it was.
abbrev pub IsProcessWith
    : ℕ → (old : ℕ) → Process → List (List ℕ) → List Deed → (new : ℕ) → Type 0
IsProcessWith i old process [] deeds new = (process.lines ≡ []) × (deeds ≡ []) × (new ≡ old)
IsProcessWith i old process (first ∷ answers) deeds new =
    IsLedProcess i old process first answers deeds new

-- a process of the agent did these deeds, over a tape with so many records, and left so many
abbrev pub IsProcess : ℕ → (old : ℕ) → Process → List Deed → (new : ℕ) → Type 0
IsProcess i old process deeds new = IsProcessWith i old process process.texts deeds new

-- If it wrote a line, its timetable fits each number of moves up to those that the tape had as
-- begun when it ended.
abbrev pub FitsProcess : (Timetable → ℕ → Track → ℕ → Type 0) → ℕ → Process → ℕ → Type 0
FitsProcess Fits i process new =
    (process.texts ≡ [])
    ⊎ ((track : Track) (count : ℕ) → track_of process.by i ≡ Some track
    → count ≤ begun_moves (on_tape new) → Fits process.by i track count)

-- one process after another, each over the tape that the one before left
abbrev pub AreProcesses : (Timetable → ℕ → Track → ℕ → Type 0) → ℕ → (old : ℕ) → List Process
    → List Deed → (new : ℕ) → Type 0
AreProcesses Fits i old [] deeds new = (deeds ≡ []) × (new ≡ old)
AreProcesses Fits i old (process ∷ later) deeds new =
    (mid : ℕ) × (done : List Deed) × (rest : List Deed) × IsProcess i old process done mid
    × FitsProcess Fits i process mid × AreProcesses Fits i mid later rest new
    × (deeds ≡ done ++ rest)
