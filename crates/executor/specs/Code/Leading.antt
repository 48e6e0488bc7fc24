-- Where events lead that are to bring every agent to its end.
use Rattle.std.specs.Prelude.{◌≡◌, ℕ, ◌+◌, ◌<◌, ◌≤◌, ◌||◌}
use Rattle.std.specs.Prelude.{◌⊎◌, Bool, false, List, length, Option}
use Rattle.std.specs.Prelude.{Some, MatchOption, is_some, option_map, unwrap_or, slice_get}
use Rattle.model.specs.declared.event.Event.{Event}
use Rattle.model.specs.declared.version.Version.{Version}
use Rattle.model.specs.Completion.{history_after, AreAccepted}
use Rattle.model.specs.Dependency.{WaitsFor, IsMet, need}
use Rattle.model.specs.History.{History, armed_of, is_broken, kept_starts, done, messages, known}
use Rattle.model.specs.Messages.{Message, told}
use Rattle.model.specs.Ready.{IsReady}
use Rattle.model.specs.Rules.{IsRun}
use Rattle.model.specs.Timetable.{Track, Timetable, moves, track_of}
use Rattle.depgraph.specs.Routes.{asked}
use Rattle.agent.specs.Agents.{AgentOn}
use Rattle.agent.specs.Counters.{known_in}
use Rattle.executor.specs.declared.ending.Heard.{Heard}
use Rattle.executor.specs.declared.ending.Standing.{Standing}
use Rattle.agent.specs.declared.counted_tape.CountedTape.{CountedTape}
use Rattle.agent.specs.CountedTape.{counted_armed}
use Rattle.executor.specs.Standing.{IsMember}

-- the agents as the run left them, the events so far, how many messages were said by then, how far
-- each agent is, the first ones first, and what was heard
pub record EndingState : Type 0 where
  pub timetable : Timetable
  pub agents : List (AgentOn CountedTape)
  pub events : List Event
  pub messages : ℕ
  pub standings : List Standing
  pub heard : List Heard

-- how many moves an agent has finished
abbrev pub finished_in : List Standing → ℕ → ℕ
finished_in standings i = unwrap_or (option_map (λ s. s.done) (slice_get standings i)) 0

-- the agent is opened anew
abbrev pub is_opened_anew : AgentOn CountedTape → Bool
is_opened_anew a = a.broken || is_some (counted_armed a.tape)

-- the run left the agents so
pub record Begins (version : Version) (tt : Timetable) (agents : List (AgentOn CountedTape))
    (h : History) : Type 0 where
  pub run : IsRun version tt h
  pub members
      : (i : ℕ) (a : AgentOn CountedTape) → slice_get agents i ≡ Some a → IsMember version tt h i a

-- the message that it said last tells so many of its moves, if any at all
abbrev pub HasTold : List Message → ℕ → Standing → Type 0
HasTold said i s =
    (s.told ≡ 0) ⊎ ((message : Message) × (slice_get said s.message ≡ Some message)
    × (s.told ≤ told message i))

-- the agent is ready, and so far
pub record StandsThere (version : Version) (tt : Timetable) (new : History) (i : ℕ)
    (s : Standing) : Type 0 where
  pub ready : IsReady new i
  pub finished : done new i ≡ s.done
  pub told : HasTold (messages version tt new) i s

-- nothing has happened to the agent
pub record IsUntouched (h new : History) (i : ℕ) : Type 0 where
  pub broken : is_broken new i ≡ is_broken h i
  pub armed : armed_of new i ≡ armed_of h i
  pub begun : kept_starts new i ≡ kept_starts h i
  pub finished : done new i ≡ done h i

-- What is so after all events.
pub record LeadsThroughTo (version : Version) (s : EndingState) (h new : History) : Type 0 where
  pub accepted : AreAccepted version s.timetable h s.events
  pub said : length (messages version s.timetable new) ≡ s.messages
  pub stand : (i : ℕ) (x : Standing) → slice_get s.standings i ≡ Some x
      → StandsThere version s.timetable new i x
  pub others : (i : ℕ) → length s.standings ≤ i → i < length s.agents → IsUntouched h new i
  pub knows
      : (i : ℕ) (a : AgentOn CountedTape) → slice_get s.agents i ≡ Some a → is_opened_anew a ≡ false
      → (j : ℕ) → known_in a.heard j ≤ known version s.timetable new i j
  pub heard : (n : ℕ) (x : Heard) → slice_get s.heard n ≡ Some x
      → x.number ≤ known version s.timetable new x.agent x.of

abbrev pub LeadsThrough : Version → EndingState → History → Type 0
LeadsThrough version s h = LeadsThroughTo version s h (history_after version s.timetable h s.events)

-- wherever the events led, they still lead there
abbrev pub LeadsOn : EndingState → EndingState → Type 0
LeadsOn old new =
    (version : Version) (h : History) → Begins version old.timetable old.agents h
    → LeadsThrough version old h → LeadsThrough version new h

-- the same agents over the same timetable
pub record IsOf (old new : EndingState) : Type 0 where
  pub timetable : new.timetable ≡ old.timetable
  pub agents : new.agents ≡ old.agents

-- and nobody has finished a move more
pub record HasStayed (old new : EndingState) : Type 0 where
  pub same : IsOf old new
  pub count : length new.standings ≡ length old.standings
  pub finished : (k : ℕ) → finished_in new.standings k ≡ finished_in old.standings k

-- after all events the one agent knows that the other has finished so many moves
abbrev pub Knows : EndingState → ℕ → ℕ → ℕ → Type 0
Knows s i j n =
    (version : Version) (h : History) → Begins version s.timetable s.agents h
    → LeadsThrough version s h
    → n ≤ known version s.timetable (history_after version s.timetable h s.events) i j

-- after more events it does, wherever those before them led
abbrev pub Teaches : EndingState → EndingState → ℕ → ℕ → ℕ → Type 0
Teaches old new i j n =
    (version : Version) (h : History) → Begins version old.timetable old.agents h
    → LeadsThrough version old h
    → n ≤ known version new.timetable (history_after version new.timetable h new.events) i j

-- and the agent knows that the need of its next move is met
abbrev pub TeachesNeed : EndingState → EndingState → ℕ → Type 0
TeachesNeed old new i =
    (version : Version) (h : History) → Begins version old.timetable old.agents h
    → LeadsThrough version old h → (track : Track) → track_of old.timetable i ≡ Some track
    → IsMet (known version new.timetable (history_after version new.timetable h new.events) i)
    (need old.timetable i track (finished_in old.standings i))

-- wherever the events led where the agent knows that, they still lead there
abbrev pub LeadsOnceKnown : EndingState → EndingState → ℕ → Type 0
LeadsOnceKnown old new i =
    (version : Version) (h : History) → Begins version old.timetable old.agents h
    → LeadsThrough version old h → (track : Track) → track_of old.timetable i ≡ Some track
    → IsMet (known version old.timetable (history_after version old.timetable h old.events) i)
    (need old.timetable i track (finished_in old.standings i))
    → LeadsThrough version new h

-- how many moves the last message tells that an agent said
abbrev pub told_in : List Standing → ℕ → ℕ
told_in standings i = unwrap_or (option_map (λ s. s.told) (slice_get standings i)) 0

-- what was heard is nothing yet
abbrev pub AreUnheard : List Heard → Type 0
AreUnheard heard = (n : ℕ) (x : Heard) → slice_get heard n ≡ Some x → x.number ≡ 0

-- all but what was heard is the same
pub record HasSameStandings (old new : EndingState) : Type 0 where
  pub same : IsOf old new
  pub events : new.events ≡ old.events
  pub messages : new.messages ≡ old.messages
  pub standings : new.standings ≡ old.standings

-- ---- moves

-- the agent has a move left
abbrev pub HasLeft : EndingState → ℕ → Type 0
HasLeft s i =
    (track : Track) × (track_of s.timetable i ≡ Some track)
    × (finished_in s.standings i < moves track)

-- the need of its next move, as a pair
abbrev pub NeedsNext : EndingState → ℕ → Option (ℕ × ℕ) → Type 0
NeedsNext s i o =
    (track : Track) × (track_of s.timetable i ≡ Some track)
    × (finished_in s.standings i < moves track)
    × (o ≡ option_map asked (need s.timetable i track (finished_in s.standings i)))

-- whom its next move waits for, if its need isn't met
abbrev pub Awaits : EndingState → ℕ → Option ℕ → Type 0
Awaits s i o =
    MatchOption o ((track : Track) → track_of s.timetable i ≡ Some track
    → IsMet (finished_in s.standings) (need s.timetable i track (finished_in s.standings i)))
    (λ j. WaitsFor s.timetable (finished_in s.standings) i j)

-- the agent has made one move more, and nobody else has
pub record HasMoved (i : ℕ) (old new : List Standing) : Type 0 where
  pub count : length new ≡ length old
  pub own : finished_in new i ≡ finished_in old i + 1
  pub others : (k : ℕ) → (k ≡ i → ⊥) → finished_in new k ≡ finished_in old k
