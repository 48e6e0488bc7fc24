-- What a runner is, and at which history it stands.
use Rattle.std.specs.Prelude.{◌≡◌, ℕ, ◌<◌, false, List, ◌∷◌, length, Any, Some, slice_get}
use Rattle.model.specs.declared.event.Event.{Event}
use Rattle.model.specs.declared.event.Event.TheVariants.{Start, Finish, Say, Deliver, Restart, Tear}
use Rattle.model.specs.declared.version.Version.{Version}
use Rattle.model.specs.History.{Answer, History, armed_of, is_broken, messages}
use Rattle.model.specs.Messages.{Message}
use Rattle.model.specs.Rules.{answer, IsRun}
use Rattle.model.specs.Timetable.{Timetable, IsConflictFree}
use Rattle.agent.specs.Agents.{AgentOn, state_of}
use Rattle.agent.specs.Counters.{is_heard_of}
use Rattle.agent.specs.declared.counted_tape.CountedTape.{CountedTape}
use Rattle.agent.specs.CountedTape.{counted_state, counted_armed, CountsFor}
use Rattle.fleet.specs.Members.{IsLeftBy}
use Rattle.executor.specs.Hearing.{has_heard_of}
use Rattle.depgraph.specs.AgentParts.{IsPartOf}

-- the timetable of the graph, the version of the messages, the agents, agent 0 first, and what was
-- said, in order
pub record RunnerState : Type 0 where
  pub timetable : Timetable
  pub version : Version
  pub agents : List (AgentOn CountedTape)
  pub messages : List Message

-- An agent has its part of the timetable, and stands where a history leaves it, by what is on its
-- tape, what it heard and whether it is broken; its tape counts its own records, and is armed by
-- what happened. It has heard of just those of whom it was told.
pub record IsMember (version : Version) (tt : Timetable) (h : History) (i : ℕ)
    (a : AgentOn CountedTape) : Type 0 where
  pub part : IsPartOf tt a.part
  pub id : a.part.agent ≡ i
  pub stands : IsLeftBy version tt h i (state_of counted_state a)
  pub counts : CountsFor a.part.number a.part.agent a.tape
  pub armed : counted_armed a.tape ≡ armed_of h i
  pub heard_of : (j : ℕ) → is_heard_of a.heard j ≡ has_heard_of version tt h i j

-- A runner stands at a run of its version, over a timetable without vertex conflicts: there is an
-- agent for each track, each where the run leaves it, and just the messages of the run were said.
pub record StandsAt (r : RunnerState) (h : History) : Type 0 where
  pub conflict_free : IsConflictFree r.timetable
  pub run : IsRun r.version r.timetable h
  pub count : length r.agents ≡ length r.timetable.tracks
  pub members : (i : ℕ) (a : AgentOn CountedTape) → slice_get r.agents i ≡ Some a
      → IsMember r.version r.timetable h i a
  pub messages : r.messages ≡ messages r.version r.timetable h

-- An event is answered as the rules say after every run at which the runner stands, and then it
-- stands at that run with the event and the answer.
abbrev pub GoesOnWith : RunnerState → RunnerState → Event → Answer → Type 0
GoesOnWith old new event r =
    (h : History) → StandsAt old h → (r ≡ answer old.version old.timetable h event)
    × StandsAt new (record { event = event; answer = r } ∷ h)

-- Which events take memory after a history: an agent says a message, or it is delivered one with an
-- entry of an agent of whom it has not heard since it was opened. A broken agent does neither.
abbrev pub TakesMemory : Version → Timetable → History → Event → Type 0
TakesMemory version tt h (Start i) = ⊥
TakesMemory version tt h (Finish i) = ⊥
TakesMemory version tt h (Say i) = (i < length tt.tracks) × (is_broken h i ≡ false)
TakesMemory version tt h (Deliver i m) =
    (i < length tt.tracks) × (is_broken h i ≡ false)
    × (message : Message) × (slice_get (messages version tt h) m ≡ Some message)
    × Any (λ entry. has_heard_of version tt h i entry.agent ≡ false) message.entries
TakesMemory version tt h (Restart i) = ⊥
TakesMemory version tt h (Tear i n) = ⊥

-- of a runner, after every run at which it stands
abbrev pub WantsMemory : RunnerState → Event → Type 0
WantsMemory r event = (h : History) → StandsAt r h → TakesMemory r.version r.timetable h event
