-- How far ahead an agent's way is free, by what it knows.
use Rattle.std.specs.Prelude.{◌≡◌, ℕ, ◌+◌, ◌*◌, ◌<◌, ◌≤◌, None, Some}
use Rattle.model.specs.Timetable.{Track, Timetable, track_of}
use Rattle.agent.specs.declared.refusal.Refusal.{Refusal}
use Rattle.agent.specs.Agents.{AgentOn, state_of}
use Rattle.agent.specs.States.{State, begun_moves, start_refusal}
use Rattle.agent.specs.Tape.{TapeState}

-- the agent when it has finished the move that it has begun, and so many more, and has heard
-- nothing meanwhile
abbrev pub gone_on : State → ℕ → State
gone_on s n = record s { records = 2 * (begun_moves s + n) }

-- So many of the moves behind those that are begun, of these at the most, would be started one
-- after the other, and the one behind them would be refused.
pub record IsFreeAhead (tt : Timetable) (i : ℕ) (track : Track) (s : State)
    (most count : ℕ) : Type 0 where
  pub few : count ≤ most
  pub starts : (n : ℕ) → n < count → start_refusal tt i track (gone_on s n) ≡ None
  pub no_more
      : count < most → (why : Refusal) × (start_refusal tt i track (gone_on s count) ≡ Some why)

-- how many they are
abbrev pub LooksAhead
    : {T : Type 0} → (T → TapeState) → Timetable → AgentOn T → (most count : ℕ) → Type 0
LooksAhead seen tt a most count =
    (track : Track) × (track_of tt a.part.agent ≡ Some track)
    × IsFreeAhead tt a.part.agent track (state_of seen a) most count
