-- What `mapf status` writes.
use Rattle.std.specs.Prelude.{ℕ, ◌/◌, ◌&&◌, not, Bool, if◌then◌else◌, nat_lt, false}
use Rattle.std.specs.Prelude.{List, [], ◌∷◌, ◌++◌, length, map, codes, Option}
use Rattle.std.specs.Prelude.{None, Some, is_some, Ok, Err, slice_get, slice_index_or}
use Rattle.std.specs.List.{range_with_len}
use Rattle.text_io.specs.FaultWords.{Words}
use Rattle.ending.specs.Pieces.{pieces_text}
use Rattle.ending.specs.Telling.{enclosed_words}
use Rattle.model.specs.declared.held.Held.{Held}
use Rattle.model.specs.declared.held.Held.TheVariants.{At, Between}
use Rattle.model.specs.Timetable.{Track, Timetable, moves, track_of}
use Rattle.agent.specs.States.{held_by_tape}
use Rattle.depgraph.specs.Rotations.{Turn}
use Rattle.agent_commands.specs.FaultWords.{agent_fault_words}
use Rattle.agent_commands.specs.declared.agent_fault.AgentFault.TheVariants.{NoTape}
use Rattle.fleet_commands.specs.FoundTapes.{Found}
use Rattle.fleet_commands.specs.Standing.{kept_now, waits_of, keepers_of}
use Rattle.fleet_commands.specs.Standing.{kept_count, has_come, stuck_count}
use Rattle.fleet_commands.specs.OneRun.{is_turn_begun, unmet_in}
use Rattle.fleet_commands.specs.Turns.{in_turn}
use Rattle.fleet_commands.specs.declared.keeping.Keeping.{Keeping}
use Rattle.fleet_commands.specs.declared.keeping.Keeping.TheVariants.{Unknown, OwnMove, OwnEnd}
use Rattle.fleet_commands.specs.declared.keeping.Keeping.TheVariants.{Nothing, Other}
use Rattle.fleet_commands.specs.declared.one_run.Unmet.{Unmet}
use Rattle.fleet_commands.specs.declared.status_line.AgentLine.{AgentLine}
use Rattle.fleet_commands.specs.declared.status_line.StatusLine.{StatusLine}
use Rattle.fleet_commands.specs.declared.status_line.StatusLine.TheVariants.{Agent, Fault}
use Rattle.fleet_commands.specs.declared.status_line.StatusLine.TheVariants.{Root, Circle}
use Rattle.fleet_commands.specs.declared.status_line.StatusLine.TheVariants.{Unmet as Early, Begun}
use Rattle.fleet_commands.specs.declared.status_line.StatusLine.TheVariants.{Parted, BesideFault}

-- ---- a line as bytes, in words or as JSON

abbrev pub said : Bool → (words object : List ℕ) → List ℕ
said json words object = if json then object else words

-- each a word and a number behind it
abbrev pub held_pieces : Bool → Held → List (List ℕ × ℕ)
held_pieces json (At c) = (
  said json (codes " at ") (codes ",\"at\":["),
  c.x,
) ∷ (said json (codes " ") (codes ","), c.y) ∷ []
held_pieces json (Between u v) = (
  said json (codes " between ") (codes ",\"between\":["),
  u.x,
) ∷ (said json (codes " ") (codes ","), u.y)
    ∷ (said json (codes " ") (codes ","), v.x) ∷ (said json (codes " ") (codes ","), v.y) ∷ []

abbrev pub keeping_text : Bool → Keeping → List ℕ
keeping_text json Unknown = said json (codes "\n") (codes "}\n")
keeping_text json OwnMove = said json (codes "\n") (codes ",\"state\":\"moving\"}\n")
keeping_text json OwnEnd = said json (codes " arrived\n") (codes ",\"state\":\"arrived\"}\n")
keeping_text json Nothing = said json (codes " ready\n") (codes ",\"state\":\"ready\"}\n")
keeping_text json (Other agent count) =
    pieces_text ((said json (codes " waits ") (codes ",\"state\":\"waits\",\"for\":"), agent)
    ∷ (said json (codes " ") (codes ",\"until\":"), count) ∷ [])
    ++ said json (codes "\n") (codes "}\n")

-- which agent it is
abbrev pub agent_text : Bool → ℕ → List ℕ
agent_text json i = pieces_text ((said json [] (codes "{\"agent\":"), i) ∷ [])

-- how many of all its moves it has finished
abbrev pub counts_text : Bool → AgentLine → List ℕ
counts_text json line =
    pieces_text ((said json (codes " done ") (codes "],\"done\":"), line.done)
    ∷ (said json (codes " of ") (codes ",\"of\":"), line.all) ∷ [])

-- and where it is, and what keeps it
abbrev pub progress_text : Bool → AgentLine → List ℕ
progress_text json line =
    (agent_text json line.agent ++ pieces_text (held_pieces json line.held))
    ++ counts_text json line

-- a fault behind a word and a number
abbrev pub fault_text : Bool → (head : List ℕ) → (number : ℕ) → Words → List ℕ
fault_text json head number words =
    pieces_text ((head, number) ∷ [])
    ++ enclosed_words (said json (codes " ") (codes ",\"fault\":\"")) words
    (said json (codes "\n") (codes "\"}\n"))

abbrev pub keeps_text : Bool → (head : List ℕ) → (number keeps : ℕ) → List ℕ
keeps_text json head number keeps =
    pieces_text ((head, number) ∷ (said json (codes " keeps ") (codes ",\"keeps\":"), keeps) ∷ [])
    ++ said json (codes "\n") (codes "}\n")

-- an agent has begun a move that waits until the other has finished so many
abbrev pub unmet_text : Bool → (i j count : ℕ) → List ℕ
unmet_text json i j count =
    pieces_text ((
      said json (codes "NotOneRun ") (codes "{\"fault\":\"NotOneRun\",\"agents\":["),
      i,
    ) ∷ (said json (codes " ") (codes ","), j)
    ∷ (said json (codes " ") (codes "],\"until\":"), count) ∷ [])
    ++ said json (codes "\n") (codes "}\n")

-- a rotation was begun
abbrev pub begun_text : Bool → ℕ → List ℕ
begun_text json number =
    pieces_text ((
      said json (codes "NotOneRun ") (codes "{\"fault\":\"NotOneRun\",\"rotation\":"),
      number,
    ) ∷ []) ++ said json (codes "\n") (codes "}\n")

-- the plans of two agents differ from a time on
abbrev pub parted_text : Bool → (i j time : ℕ) → List ℕ
parted_text json i j time =
    pieces_text ((
      said json (codes "PlansPart ") (codes "{\"fault\":\"PlansPart\",\"agents\":["),
      i,
    ) ∷ (said json (codes " ") (codes ","), j)
    ∷ (said json (codes " ") (codes "],\"time\":"), time) ∷ [])
    ++ said json (codes "\n") (codes "}\n")

-- with its LF
abbrev pub status_line : Bool → StatusLine → List ℕ
status_line json (Agent line) = progress_text json line ++ keeping_text json line.keeping
status_line json (Fault i fault) =
    fault_text json (said json [] (codes "{\"agent\":")) i (agent_fault_words fault)
status_line json (Root i keeps) =
    keeps_text json (said json (codes "root ") (codes "{\"root\":")) i keeps
status_line json (Circle number keeps) =
    keeps_text json (said json (codes "rotation ") (codes "{\"rotation\":")) number keeps
status_line json (Early i unmet) = unmet_text json i unmet.agent unmet.count
status_line json (Begun number) = begun_text json number
status_line json (Parted i j time) = parted_text json i j time
status_line json (BesideFault i fault) =
    fault_text json (said json (codes "beside ") (codes "{\"beside\":")) i (agent_fault_words fault)

-- ---- which lines there are

-- of an agent, by what its tape was found to have; there are no others
abbrev pub agent_line_by : Timetable → List Found → ℕ → Option Track → Option Found → StatusLine
agent_line_by tt found i (Some track) (Some (Ok records)) =
    Agent (record {
      agent = i;
      held = held_by_tape track (record { records = records; heard = []; broken = false });
      done = records / 2;
      all = moves track;
      keeping = kept_now tt found i;
    })
agent_line_by tt found i _ (Some (Err fault)) = Fault i fault
agent_line_by tt found i _ _ = Fault i NoTape

abbrev pub agent_line : Timetable → List Found → ℕ → StatusLine
agent_line tt found i = agent_line_by tt found i (track_of tt i) (slice_get found i)

-- of an agent that waits for nobody, and keeps others
abbrev pub root_line : List ℕ → List (Option ℕ) → ℕ → List StatusLine
root_line ends waits i =
    if not (is_some (slice_index_or waits i None)) && nat_lt 0 (kept_count ends i) then Root i
    (kept_count ends i) ∷ [] else []

-- of a rotation to which all of its agents have come
abbrev pub circle_line_by : Timetable → List Found → List ℕ → ℕ → Option Turn → List StatusLine
circle_line_by tt found ends number None = []
circle_line_by tt found ends number (Some turn) =
    if has_come tt found turn then Circle number (stuck_count ends turn) ∷ [] else []

abbrev pub circle_line : Timetable → List Found → List ℕ → List Turn → ℕ → List StatusLine
circle_line tt found ends turns number =
    circle_line_by tt found ends number (slice_get turns number)

-- of each agent; of who keeps others; and of rotations
abbrev pub status_lines : Timetable → List Turn → List Found → List StatusLine
status_lines tt turns found =
    (map (agent_line tt found) (range_with_len 0 (length tt.tracks))
    ++ in_turn (root_line (keepers_of (waits_of tt found)) (waits_of tt found)) (length tt.tracks))
    ++ in_turn (circle_line tt found (keepers_of (waits_of tt found)) turns) (length turns)

-- ---- lines that no run has

-- of an agent that has begun a move too early
abbrev pub unmet_line_by : ℕ → Option Unmet → List StatusLine
unmet_line_by i None = []
unmet_line_by i (Some unmet) = Early i unmet ∷ []

abbrev pub unmet_line : Timetable → Option ℕ → List Found → ℕ → List StatusLine
unmet_line tt without found i = unmet_line_by i (unmet_in tt without found i (track_of tt i))

-- of a rotation in which an agent has begun its move
abbrev pub begun_line_by : Timetable → Option ℕ → List Found → ℕ → Option Turn → List StatusLine
begun_line_by tt without found number None = []
begun_line_by tt without found number (Some turn) =
    if is_turn_begun tt without found turn then Begun number ∷ [] else []

abbrev pub begun_line : Timetable → Option ℕ → List Found → List Turn → ℕ → List StatusLine
begun_line tt without found turns number =
    begun_line_by tt without found number (slice_get turns number)

-- what shows that the tapes, but for that of an agent that is left out, are not those of one run of
-- the plan
abbrev pub run_lines : Timetable → Option ℕ → List Turn → List Found → List StatusLine
run_lines tt without turns found =
    in_turn (unmet_line tt without found) (length tt.tracks)
    ++ in_turn (begun_line tt without found turns) (length turns)
