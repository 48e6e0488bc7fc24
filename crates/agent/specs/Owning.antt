-- What the tape of an agent keeps.
use Rattle.std.specs.Prelude.{ℕ, ◌*◌, ◌≤◌, List, length}
use Rattle.model.specs.History.{record_length}
use Rattle.agent.specs.declared.counters.Counter.{Counter}
use Rattle.agent.specs.Counters.{AreWithin}
use Rattle.agent.specs.Records.{AreDue}
use Rattle.agent.specs.Tape.{TapeState, whole_records}
use Rattle.depgraph.specs.AgentParts.{AgentPart, IsOfGraph}

-- There is room for two records a move, and there are no more.
pub record HasTapeRoom (moves : ℕ) (t : TapeState) : Type 0 where
  pub room : 2 * record_length * moves ≤ t.room
  pub limit : whole_records t ≤ 2 * moves

-- The tape of an agent has the right size, and its whole records are the first that are due.
pub record IsOwn (p : AgentPart) (t : TapeState) : Type 0 where
  pub size : HasTapeRoom (length p.needs) t
  pub due : AreDue p.number p.agent t.contents (whole_records t)

-- What an agent keeps: it has the part of a graph, its tape is its own, and it has heard of agents
-- of the plan alone.
pub record IsSound (p : AgentPart) (t : TapeState) (heard : List Counter) : Type 0 where
  pub of_graph : IsOfGraph p
  pub own : IsOwn p t
  pub within : AreWithin (length p.moves) heard
