-- Where the counter of an agent is, or would go.
use Rattle.std.specs.Prelude.{◌≡◌, ℕ, ◌<◌, ◌≤◌, List, ◌++◌, length}
use Rattle.std.specs.List.{AllByRecursion}
use Rattle.agent.specs.declared.counters.Counter.{Counter}
use Rattle.agent.specs.Counters.{agent_at, IsRising}

-- the counter at a place is that of the agent
pub record IsCounterAt (counters : List Counter) (agent i : ℕ) : Type 0 where
  pub in_range : i < length counters
  pub is_own : agent_at counters i ≡ agent

-- the counter would go to a place: lesser agents before it, and greater ones from it on
pub record IsGapFor (counters : List Counter) (agent i : ℕ) : Type 0 where
  pub in_range : i ≤ length counters
  pub lesser_before : (j : ℕ) → j < i → agent_at counters j < agent
  pub greater_after : (j : ℕ) → i ≤ j → j < length counters → agent < agent_at counters j

-- the counters rise: those of lesser agents, then perhaps the agent's own, then those of greater
-- ones
pub record AreAround (agent : ℕ) (counters below above : List Counter) : Type 0 where
  pub own : List Counter
  pub parts : counters ≡ below ++ own ++ above
  pub rising : IsRising counters
  pub are_lesser : AllByRecursion (λ c. c.agent < agent) below
  pub are_own : AllByRecursion (λ c. c.agent ≡ agent) own
  pub are_greater : AllByRecursion (λ c. agent < c.agent) above
