-- What one agent of a fleet was asked and answered, and what befell it. Each call is answered as
-- the contract of `Agent`'s call says.
use Rattle.std.specs.Prelude.{◌≡◌, ℕ, false, List, [], ◌∷◌, Result, Err}
use Rattle.grid.specs.declared.cell.Cell.{Cell}
use Rattle.model.specs.declared.held.Held.{Held}
use Rattle.model.specs.Timetable.{Track, Timetable}
use Rattle.agent.specs.declared.refusal.HearFault.{HearFault}
use Rattle.agent.specs.declared.refusal.Refusal.{Refusal}
use Rattle.agent.specs.declared.refusal.Refusal.TheVariants.{StoreFailed}
use Rattle.agent.specs.declared.refusal.TellFault.{TellFault}
use Rattle.agent.specs.Ahead.{IsFreeAhead}
use Rattle.agent.specs.States.{State, finished_moves, begun_moves, held_by_tape}
use Rattle.agent.specs.States.{start_refusal, finish_refusal, next_cell, Answers}
use Rattle.agent.specs.States.{IsSaid, IsToldBy, IsHeard}

pub data Deed : Type 0 where
  -- a process opened the agent's tape, and found that the agent holds this and has finished so many
  -- moves
  opens : Held → ℕ → Deed
  -- a call and its answer
  starts : Result Cell Refusal → Deed
  finishes : Result Cell Refusal → Deed
  says : Result (List ℕ) Refusal → Deed
  tells : Result (List ℕ) TellFault → Deed
  hears : List ℕ → Result (ℕ × ℕ) HearFault → Deed
  holds : Held → ℕ → Deed
  -- how far ahead its way is free, behind so many moves that it had begun: of so many moves at the
  -- most so many
  looks : (begun most count : ℕ) → Deed
  -- the process ended, at any moment in which it wrote nothing
  ends : Deed
  -- the agent's drive stands in a cell that its tape holds, and from now on enters none that it was
  -- told to be free before; nobody was asked
  stops : Deed
  -- the process ended in the middle of the write of a start or of a finish, of which the record was
  -- stored or not
  ends_starting : Deed
  ends_finishing : Deed

-- The deed leads the agent with this number and track from one state to another. A process that
-- ended while it wrote leaves its agent as where the write failed: until the tape is opened again
-- nobody is answered.
abbrev pub Does : Timetable → ℕ → Track → State → Deed → State → Type 0
Does tt i track old (opens held count) new =
    (held ≡ held_by_tape track old) × (count ≡ finished_moves old)
    × (new ≡ record { records = old.records; heard = []; broken = false })
Does tt i track old (starts answer) new =
    Answers (start_refusal tt i track old) old new (next_cell track old) answer
Does tt i track old (finishes answer) new =
    Answers (finish_refusal old) old new (next_cell track old) answer
Does tt i track old (says answer) new = IsSaid tt i old answer × (new ≡ old)
Does tt i track old (tells answer) new = IsToldBy tt i old answer × (new ≡ old)
Does tt i track old (hears bytes answer) new = IsHeard tt old new bytes answer
Does tt i track old (holds held count) new =
    (held ≡ held_by_tape track old) × (count ≡ finished_moves old) × (new ≡ old)
Does tt i track old (looks begun most count) new =
    (begun ≡ begun_moves old) × IsFreeAhead tt i track old most count × (new ≡ old)
Does tt i track old ends new = new ≡ old
Does tt i track old stops new = new ≡ old
Does tt i track old ends_starting new =
    Answers (start_refusal tt i track old) old new (next_cell track old) (Err StoreFailed)
Does tt i track old ends_finishing new =
    Answers (finish_refusal old) old new (next_cell track old) (Err StoreFailed)

-- these deeds, in order, lead it from one state to another
abbrev pub DoesAll : Timetable → ℕ → Track → State → List Deed → State → Type 0
DoesAll tt i track old [] new = new ≡ old
DoesAll tt i track old (deed ∷ deeds) new =
    (mid : State) × Does tt i track old deed mid × DoesAll tt i track mid deeds new
