-- Counters raised by entries, both going forward.
use Rattle.std.specs.Prelude.{◌≡◌, ℕ, ◌<◌, nat_lt, ◌==◌, if◌then◌else◌, List}
use Rattle.std.specs.Prelude.{[], ◌∷◌, ◌++◌, max, Option, None, Some}
use Rattle.std.specs.List.{AllByRecursion}
use Rattle.model.specs.declared.entry.Entry.{Entry}
use Rattle.agent.specs.declared.counters.Counter.{Counter}

abbrev pub own_counter : ℕ → Option ℕ → List Counter
own_counter agent None = []
own_counter agent (Some done) = record { agent = agent; done = done } ∷ []

-- the first counter, if there is one, is of a greater agent
abbrev pub StartsAbove : ℕ → List Counter → Type 0
StartsAbove agent [] = Unit {0}
StartsAbove agent (c ∷ counters) = agent < c.agent

-- counters begin with those of lesser agents, then there is the agent's own or a gap for it, then
-- the others
pub record AreParted (agent : ℕ) (counters lesser : List Counter) (own : Option ℕ)
    (others : List Counter) : Type 0 where
  pub parts : counters ≡ lesser ++ (own_counter agent own ++ others)
  pub are_lesser : AllByRecursion (λ c. c.agent < agent) lesser
  pub has_gap : own ≡ None → StartsAbove agent others

-- The counters, raised by an entry. What stands behind its own is as `rest` gives it.
abbrev pub merged_with : Entry → (List Counter → List Counter) → List Counter → List Counter
merged_with entry rest [] = record { agent = entry.agent; done = entry.done } ∷ rest []
merged_with entry rest (c ∷ counters) =
    if nat_lt c.agent entry.agent then c ∷ merged_with entry rest counters
    else (if c.agent == entry.agent then record {
      agent = entry.agent;
      done = max c.done entry.done;
    } ∷ rest counters
    else record { agent = entry.agent; done = entry.done } ∷ rest (c ∷ counters))

-- the counters, raised by the entries
abbrev pub merged : List Entry → List Counter → List Counter
merged [] counters = counters
merged (entry ∷ entries) counters = merged_with entry (merged entries) counters
