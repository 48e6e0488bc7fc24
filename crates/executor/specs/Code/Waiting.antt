-- Agents that wait for one another while all are brought to their ends.
use Rattle.std.specs.Prelude.{◌≡◌, ℕ, ◌+◌, ◌-◌, ◌*◌, ◌<◌, ◌≤◌, Bool}
use Rattle.std.specs.Prelude.{true, false, List, [], ◌∷◌, length, Some, slice_get}
use Rattle.model.specs.Dependency.{WaitsFor, IsRotation}
use Rattle.model.specs.Timetable.{Track, Timetable, moves, track_of}
use Rattle.model.specs.declared.event.Event.{Event}
use Rattle.model.specs.declared.version.Version.{Version}
use Rattle.model.specs.History.{History, messages}
use Rattle.agent.specs.Agents.{AgentOn, state_of}
use Rattle.agent.specs.States.{finished_moves, is_on_the_way}
use Rattle.agent.specs.CountedTape.{counted_state}
use Rattle.agent.specs.declared.counted_tape.CountedTape.{CountedTape}
use Rattle.executor.specs.Endings.{HaveArrived, IsEndedBy}
use Rattle.executor.specs.Code.Leading.{EndingState, finished_in, Begins, LeadsThrough}
use Rattle.executor.specs.Code.Leading.{LeadsOn, IsOf, HasLeft}

-- nobody moves in a rotation
abbrev pub HasNoRotation : Timetable → Type 0
HasNoRotation tt = (step : ℕ) (agents : List ℕ) → IsRotation tt step agents → ⊥

-- The next move of the agent waits for the first of a list, that one's for the second, and so on;
-- each of them has a move left.
pub record IsWaiting (s : EndingState) (agent : ℕ) (waiting : List ℕ) : Type 0 where
  pub waits : (place i j : ℕ) → slice_get (agent ∷ waiting) place ≡ Some i
      → slice_get (agent ∷ waiting) (place + 1) ≡ Some j
      → WaitsFor s.timetable (finished_in s.standings) i j
  pub left : (place i : ℕ) → slice_get waiting place ≡ Some i → HasLeft s i

-- the last of them, or the agent itself
abbrev pub last_of : ℕ → List ℕ → ℕ
last_of agent [] = agent
last_of agent (j ∷ waiting) = last_of j waiting

-- nobody has fewer moves finished
abbrev pub HaveRisen : EndingState → EndingState → Type 0
HaveRisen old new = (k : ℕ) → finished_in old.standings k ≤ finished_in new.standings k

-- the agent has finished all its moves
abbrev pub HasEndedMoves : EndingState → ℕ → Type 0
HasEndedMoves s i =
    (track : Track) → track_of s.timetable i ≡ Some track → moves track ≤ finished_in s.standings i

-- how many moves are left, by how many each agent has finished, from one on
abbrev pub moves_left : List Track → ℕ → (ℕ → ℕ) → ℕ
moves_left [] first finished = 0
moves_left (track ∷ tracks) first finished =
    (moves track - finished first) + moves_left tracks (first + 1) finished

-- how far it is to the end: each move that is left may wait for all agents
abbrev pub way_left : EndingState → List ℕ → ℕ
way_left s waiting =
    moves_left s.timetable.tracks 0 (finished_in s.standings) * (length s.timetable.tracks + 1)
    + (length s.timetable.tracks - length waiting)

-- One step on: whoever goes on makes a move or is found to wait for one more, and the end is
-- nearer.
pub record GoesNearer (agent : ℕ) (old new : EndingState) (waiting more : List ℕ) : Type 0 where
  pub same : IsOf old new
  pub count : length new.standings ≡ length old.standings
  pub leads : LeadsOn old new
  pub risen : HaveRisen old new
  pub chain : IsWaiting new agent more
  pub nearer : way_left new more < way_left old waiting

-- wherever a run left the agents after so many messages, all the events lead there
abbrev pub LeadsFrom : Timetable → List (AgentOn CountedTape) → ℕ → EndingState → Type 0
LeadsFrom tt agents count s =
    (version : Version) (h : History) → Begins version tt agents h → length (messages version tt h)
    ≡ count → LeadsThrough version s h

-- they end it
abbrev pub CompletesFrom : Timetable → List (AgentOn CountedTape) → ℕ → List Event → Type 0
CompletesFrom tt agents count events =
    (version : Version) (h : History) → Begins version tt agents h → length (messages version tt h)
    ≡ count → IsEndedBy version tt h events

-- Wherever a run left the agents, the test tells whether every one was at its end there.
pub record TellsArrival (tt : Timetable) (agents : List (AgentOn CountedTape))
    (have : Bool) : Type 0 where
  pub all : (version : Version) (h : History) → Begins version tt agents h → have ≡ true
      → HaveArrived tt h
  pub some : (version : Version) (h : History) → Begins version tt agents h → have ≡ false
      → HaveArrived tt h → ⊥

-- the same of one of them, by what it has on its tape
abbrev pub HasStopped : Timetable → ℕ → AgentOn CountedTape → Type 0
HasStopped tt i a =
    (track : Track) → track_of tt i ≡ Some track
    → (finished_moves (state_of counted_state a) ≡ moves track)
    × (is_on_the_way (state_of counted_state a) ≡ false)
