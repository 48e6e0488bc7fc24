-- What an agent has heard: counters, each of an agent and how many moves it is known to have
-- finished.
use Rattle.std.specs.Prelude.{◌≡◌, ◌≢◌, ℕ, ◌<◌, ◌==◌, if◌then◌else◌, Bool}
use Rattle.std.specs.Prelude.{true, false, List, [], ◌∷◌, length, max}
use Rattle.std.specs.Prelude.{Any, slice_index_or, Option, None, Some, is_some, unwrap_or}
use Rattle.std.specs.List.{list_any}
use Rattle.model.specs.declared.entry.Entry.{Entry}
use Rattle.model.specs.Messages.{told_by}
use Rattle.agent.specs.declared.counters.Counter.{Counter}

-- the number of the counter of an agent, if there is one
abbrev pub heard_of : List Counter → ℕ → Option ℕ
heard_of [] j = None
heard_of (c ∷ counters) j = if c.agent == j then Some c.done else heard_of counters j

-- how many moves of an agent are known to be finished: none where it was not heard of
abbrev pub known_in : List Counter → ℕ → ℕ
known_in counters j = unwrap_or (heard_of counters j) 0

abbrev pub is_heard_of : List Counter → ℕ → Bool
is_heard_of counters j = is_some (heard_of counters j)

-- the counter of one agent has the number, and those of the others have what they had
pub record SetsOnly (old new : List Counter) (agent done : ℕ) : Type 0 where
  pub this_agent : heard_of new agent ≡ Some done
  pub other_agents : (j : ℕ) → j ≢ agent → heard_of new j ≡ heard_of old j

-- some entry tells of the agent
abbrev pub tells_of : List Entry → ℕ → Bool
tells_of entries j = list_any (λ entry. entry.agent == j) entries

-- what an agent's counter comes to by entries: the greater of the old and the new number where they
-- tell of it, and else it stays
abbrev pub raised : List Counter → List Entry → ℕ → Option ℕ
raised old entries j =
    if tells_of entries j then Some (max (known_in old j) (told_by entries j)) else heard_of old j

-- the counter of each agent is raised by the entries
abbrev pub Raises : List Counter → List Counter → List Entry → Type 0
Raises old new entries = (j : ℕ) → heard_of new j ≡ raised old entries j

-- some entry tells of an agent that was not heard of
abbrev pub TellsOfNew : List Counter → List Entry → Type 0
TellsOfNew old entries = Any (λ entry. is_heard_of old entry.agent ≡ false) entries

-- only so many first agents were heard of
abbrev pub AreWithin : ℕ → List Counter → Type 0
AreWithin agents counters = (j : ℕ) → is_heard_of counters j ≡ true → j < agents

-- the agent of the counter at a place
abbrev pub agent_at : List Counter → ℕ → ℕ
agent_at counters i = (slice_index_or counters i (record { agent = 0; done = 0 })).agent

-- the agents rise, so that none has two counters
abbrev pub IsRising : List Counter → Type 0
IsRising counters =
    (i j : ℕ) → i < j → j < length counters → agent_at counters i < agent_at counters j
