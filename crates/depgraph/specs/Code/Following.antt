-- What each move waits for, by the times at which cells are entered: that whoever came into its
-- cell last before it has left.
use Rattle.std.specs.Prelude.{◌≡◌, ℕ, ◌+◌, ◌<◌, ◌≤◌, ◌^◌, ◌⊎◌, ◌==◌, if◌then◌else◌}
use Rattle.std.specs.Prelude.{false, true, Bool, List, length, get_or, Option, None, Some}
use Rattle.depgraph.specs.declared.placing.Arrival.{Arrival}
use Rattle.depgraph.specs.declared.waiting.Wait.{Wait}
use Rattle.depgraph.specs.Code.Entries.{begin_in, IsEntry}
use Rattle.depgraph.specs.Code.Schedules.{entry_of_arrival}
use Rattle.depgraph.specs.Code.Waits.{no_wait}

-- Entries of agents' paths, with the times at which they are entered and the numbers of their
-- cells, which are below a limit. Nobody is in a cell with another, so that who finds a cell left
-- has one before it who went on.
pub record AreEntries (times ends numbers : List ℕ) (limit : ℕ) : Type 0 where
  pub agents : length ends < 2 ^ 16
  pub all : length times < 2 ^ 32
  pub limited : limit < 2 ^ 32
  pub count : length numbers ≡ length times
  pub known : (e : ℕ) → e < length numbers → get_or numbers e 0 < limit
  pub early : (e : ℕ) → e < length times → get_or times e 0 < 2 ^ 16
  pub begins : (i : ℕ) → i < length ends → begin_in ends i ≤ get_or ends i 0
  pub first : begin_in ends 0 ≡ 0
  pub inside : (i k e : ℕ) → IsEntry ends i k e → e < length times
  pub one : (i j k l e : ℕ) → IsEntry ends i k e → IsEntry ends j l e → (i ≡ j) × (k ≡ l)
  pub few : (i k e : ℕ) → IsEntry ends i k e → k < 2 ^ 16
  pub rising : (i k l d e : ℕ) → IsEntry ends i k d → IsEntry ends i l e → d < e
      → get_or times d 0 < get_or times e 0
  pub apart : (i j k l d e : ℕ) → IsEntry ends i k d → IsEntry ends j l e
      → get_or numbers d 0 ≡ get_or numbers e 0 → get_or times d 0 ≡ get_or times e 0 → d ≡ e
  pub left : (i j k l d e : ℕ) → IsEntry ends i k d → IsEntry ends j l e
      → get_or numbers d 0 ≡ get_or numbers e 0 → get_or times d 0 < get_or times e 0 → (i ≡ j → ⊥)
      → k + 1 < 2 ^ 16

-- nobody came into the cell with a number before a time, or this is the last arrival of those that
-- did
abbrev pub IsLastIn : (times ends numbers : List ℕ) → (number t : ℕ) → Option Arrival → Type 0
IsLastIn times ends numbers n t None =
    (i k e : ℕ) → IsEntry ends i k e → get_or numbers e 0 ≡ n → get_or times e 0 < t → ⊥
IsLastIn times ends numbers n t (Some a) =
    IsEntry ends a.agent a.index (entry_of_arrival ends a)
    × (get_or numbers (entry_of_arrival ends a) 0 ≡ n)
    × (get_or times (entry_of_arrival ends a) 0 < t)
    × ((i k e : ℕ) → IsEntry ends i k e → get_or numbers e 0 ≡ n → get_or times e 0 < t
    → get_or times e 0 ≤ get_or times (entry_of_arrival ends a) 0)

-- what a move into a cell waits for, after the last arrival there: that the other agent has left,
-- and for nobody after its own
abbrev pub wait_after : ℕ → Option Arrival → Wait
wait_after i None = no_wait
wait_after i (Some a) =
    if a.agent == i then no_wait else record { agent = a.agent; count = a.index + 1 }

-- only the agent itself came into the cell of an entry before
abbrev pub IsAlone : (times ends numbers : List ℕ) → (agent entry : ℕ) → Type 0
IsAlone times ends numbers i e =
    (j l f : ℕ) → IsEntry ends j l f → get_or numbers f 0 ≡ get_or numbers e 0
    → get_or times f 0 < get_or times e 0 → j ≡ i

-- an agent's entry has what its move waits for
abbrev pub IsFollowed : (times ends numbers : List ℕ) → List Wait → (agent entry : ℕ) → Type 0
IsFollowed times ends numbers waits i e =
    ((before : Option Arrival) × IsLastIn times ends numbers (get_or numbers e 0) (get_or times e 0)
    before × (get_or waits e no_wait ≡ wait_after i before))
    ⊎ (IsAlone times ends numbers i e × (get_or waits e no_wait ≡ no_wait))

-- so has each entry
pub record AreFollowed (times ends numbers : List ℕ) (waits : List Wait) : Type 0 where
  pub count : length waits ≡ length times
  pub each : (i k e : ℕ) → IsEntry ends i k e → IsFollowed times ends numbers waits i e

-- whether more than one agent comes into a cell, by its number; where it is not said, one agent
-- alone does
pub record AreShared (ends numbers : List ℕ) (limit : ℕ) (shared : List Bool) : Type 0 where
  pub count : length shared ≡ limit
  pub own : (i j k l d e : ℕ) → IsEntry ends i k d → IsEntry ends j l e
      → get_or numbers d 0 ≡ get_or numbers e 0 → get_or shared (get_or numbers d 0) true
      ≡ false → i ≡ j

-- an agent's entry leads into a shared cell
abbrev pub IsMeeting : (numbers : List ℕ) → List Bool → (entry : ℕ) → Type 0
IsMeeting numbers shared e = get_or shared (get_or numbers e 0) true ≡ true
