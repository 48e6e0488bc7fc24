-- What a fleet's processes read and wrote, in one order in time.
use Rattle.std.specs.Prelude.{◌≡◌, ℕ, ◌==◌, ◌⊎◌, if◌then◌else◌, List, [], ◌∷◌, ◌++◌}
use Rattle.std.specs.Prelude.{codes, Ok}
use Rattle.std.specs.List.{flat_map}
use Rattle.hex.specs.Hex.{decode_of}
use Rattle.model.specs.Plan.{Plan, IsTimetableOf}
use Rattle.model.specs.Timetable.{Track, Timetable}
use Rattle.agent.specs.States.{State}
use Rattle.fleet.specs.Deeds.{Deed}
use Rattle.fleet.specs.OwnPlans.{IsPlanAmong}
use Rattle.robot.specs.Requests.{hear, AsksFor}
use Rattle.transcripts.specs.Processes.{Process, on_tape, AreProcesses}

-- a line that a process had written whole
pub data Seen : Type 0 where
  -- that of its agent's state, which it writes first
  state_told : (text : List ℕ) → Seen
  -- the answer to a line
  line_answered : (line text : List ℕ) → Seen

-- each line with its answer
abbrev pub turns_seen : List (List ℕ) → List (List ℕ) → List Seen
turns_seen (line ∷ lines) (text ∷ texts) = line_answered line text ∷ turns_seen lines texts
turns_seen _ _ = []

abbrev pub seen_with : List (List ℕ) → List (List ℕ) → List Seen
seen_with lines [] = []
seen_with lines (first ∷ answers) = state_told first ∷ turns_seen lines answers

-- all that a process had written whole
abbrev pub seen_in : Process → List Seen
seen_in process = seen_with process.lines process.texts

-- such a line, and of which agent
pub record SeenOf : Type 0 where
  pub agent : ℕ
  pub seen : Seen

-- the newest first
abbrev pub Transcript : Type 0
Transcript = List SeenOf

-- those of one agent, in order
abbrev pub seen_of : Transcript → ℕ → List Seen
seen_of [] i = []
seen_of (now ∷ transcript) i =
    if now.agent == i then seen_of transcript i ++ now.seen ∷ [] else seen_of transcript i

-- ---- messages, as lines spell them

-- the text says these bytes, by two hexadecimal digits each
abbrev pub IsSaidLine : List ℕ → List ℕ → Type 0
IsSaidLine bytes text =
    (digits : List ℕ) × (text ≡ codes "said " ++ digits) × (decode_of digits ≡ Ok bytes)

abbrev pub SaysIn : List ℕ → Seen → Type 0
SaysIn bytes (line_answered line text) = IsSaidLine bytes text
SaysIn bytes _ = ⊥

-- some process of the fleet said these bytes
abbrev pub WasSaidIn : List ℕ → Transcript → Type 0
WasSaidIn bytes [] = ⊥
WasSaidIn bytes (now ∷ transcript) = SaysIn bytes now.seen ⊎ WasSaidIn bytes transcript

-- the text tells that a message was heard, and not refused
abbrev pub IsHeardLine : List ℕ → Type 0
IsHeardLine text = (rest : List ℕ) × (text ≡ codes "heard " ++ rest)

-- A message that was heard had been said before. What was refused may come from anywhere.
abbrev pub IsPassedOn : Transcript → Seen → Type 0
IsPassedOn before (line_answered line text) =
    (bytes : List ℕ) → AsksFor (hear bytes) line → IsHeardLine text → WasSaidIn bytes before
IsPassedOn before _ = Unit {0}

abbrev pub AreAllPassedOn : Transcript → Type 0
AreAllPassedOn [] = Unit {0}
AreAllPassedOn (now ∷ transcript) = IsPassedOn transcript now.seen × AreAllPassedOn transcript

-- ---- the fleet

-- The processes of each agent did these deeds, one process after another over a tape that was empty
-- at first, and left so many records on it. The transcript has the lines that they wrote whole, in
-- some order in time that respects each process. In that order each message that was heard had been
-- said before. A process that still runs counts as one that ended just now.
pub record IsTranscript (Fits : Timetable → ℕ → Track → ℕ → Type 0)
    (processes : ℕ → List Process) (transcript : Transcript) (deeds : ℕ → List Deed)
    (tapes : ℕ → ℕ) : Type 0 where
  pub own : (i : ℕ) → AreProcesses Fits i 0 (processes i) (deeds i) (tapes i)
  pub in_order : (i : ℕ) → seen_of transcript i ≡ flat_map seen_in (processes i)
  pub passed_on : AreAllPassedOn transcript

-- each agent's state, by what is on its tape alone
abbrev pub states_on : (ℕ → ℕ) → ℕ → State
states_on tapes i = on_tape (tapes i)

-- the timetable is this one
abbrev pub RunsBy : Timetable → Timetable → ℕ → Track → ℕ → Type 0
RunsBy tt by i track count = by ≡ tt

-- the timetable is that of one of these plans
abbrev pub RunsByChain : Plan → List Plan → Timetable → ℕ → Track → ℕ → Type 0
RunsByChain plan plans by i track count =
    (own : Plan) × IsPlanAmong own plan plans × IsTimetableOf own by
