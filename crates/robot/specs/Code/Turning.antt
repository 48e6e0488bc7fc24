-- An agent's turn: it answers one line, and that leads it from one state to another.
use Rattle.std.specs.Prelude.{◌≡◌, ℕ, ◌⊎◌, Bool, List, [], ◌∷◌, Result}
use Rattle.grid.specs.declared.cell.Cell.{Cell}
use Rattle.model.specs.Timetable.{Track, Timetable}
use Rattle.agent.specs.declared.refusal.HearFault.{HearFault}
use Rattle.agent.specs.declared.refusal.Refusal.{Refusal}
use Rattle.agent.specs.declared.refusal.TellFault.{TellFault}
use Rattle.agent.specs.States.{State, finished_moves, begun_moves, held_by_tape as held_in}
use Rattle.fleet.specs.Deeds.{starts, finishes, says, tells, hears, holds, looks, Does}
use Rattle.robot.specs.Requests.{Request, start, finish, say, tell}
use Rattle.robot.specs.Requests.{held, may, hear, AsksFor, AsksNothing}
use Rattle.robot.specs.Stale.{IsHeeded}
use Rattle.robot.specs.Turns.{deed_line, not_understood, store_failed}

-- what is asked is answered by this line, as the agent's call may answer, and leaves the agent in
-- the new state
abbrev pub TakesRequest : Timetable → ℕ → Track → Request → State → State → List ℕ → Type 0
TakesRequest tt i track start old new text =
    (answer : Result Cell Refusal) × Does tt i track old (starts answer) new
    × (text ≡ deed_line (starts answer))
TakesRequest tt i track finish old new text =
    (answer : Result Cell Refusal) × Does tt i track old (finishes answer) new
    × (text ≡ deed_line (finishes answer))
TakesRequest tt i track say old new text =
    (answer : Result (List ℕ) Refusal) × Does tt i track old (says answer) new
    × (text ≡ deed_line (says answer))
TakesRequest tt i track tell old new text =
    (answer : Result (List ℕ) TellFault) × Does tt i track old (tells answer) new
    × (text ≡ deed_line (tells answer))
TakesRequest tt i track held old new text =
    Does tt i track old (holds (held_in track old) (finished_moves old)) new
    × (text ≡ deed_line (holds (held_in track old) (finished_moves old)))
TakesRequest tt i track (may most) old new text =
    (count : ℕ) × Does tt i track old (looks (begun_moves old) most count) new
    × (text ≡ deed_line (looks (begun_moves old) most count))
TakesRequest tt i track (hear bytes) old new text =
    (answer : Result (ℕ × ℕ) HearFault) × Does tt i track old (hears bytes answer) new
    × (text ≡ deed_line (hears bytes answer))

-- what is asked lets the agent hear nothing that shows its tape to be an older one, where that is
-- heeded
abbrev pub IsHeedfulOf : Bool → Timetable → ℕ → State → Request → Type 0
IsHeedfulOf heeds tt i s (hear bytes) = IsHeeded heeds tt i s bytes
IsHeedfulOf heeds tt i s _ = Unit {0}

-- a line is answered by another: what it asks for is done, or it isn't understood, and nothing
-- happens
abbrev pub IsTurn : Bool → Timetable → ℕ → Track → List ℕ → State → State → List ℕ → Type 0
IsTurn heeds tt i track line old new text =
    ((request : Request) × AsksFor request line × IsHeedfulOf heeds tt i old request
    × TakesRequest tt i track request old new text)
    ⊎ (AsksNothing line × (new ≡ old) × (text ≡ not_understood))

-- each line is answered in turn, from the state that the one before left; nothing follows a store
-- that failed
abbrev pub AreTurns
    : Bool → Timetable → ℕ → Track → List (List ℕ) → List (List ℕ) → State → State → Type 0
AreTurns heeds tt i track [] [] old new = new ≡ old
AreTurns heeds tt i track (line ∷ lines) (text ∷ texts) old new =
    (mid : State) × IsTurn heeds tt i track line old mid text × (text ≡ store_failed → lines ≡ [])
    × AreTurns heeds tt i track lines texts mid new
AreTurns heeds tt i track _ _ old new = ⊥
