-- The first bad move of an agent, and of all agents.
use Rattle.std.specs.Prelude.{◌≡◌, ℕ, ◌<◌, ◌≤◌, ◌⊎◌, if◌then◌else◌, nat_lt}
use Rattle.std.specs.Prelude.{List, length, Option, None, Some, slice_get}
use Rattle.grid.specs.Map.{Grid}
use Rattle.model.specs.Plan.{Course, Plan, IsBadMove}
use Rattle.plan_text.specs.Limits.{most_acts}
use Rattle.checker.specs.Code.Walking.{HasBadMove}
use Rattle.plan_commands.specs.Walkable.{IsWalkable}
use Rattle.plan_commands.specs.Code.Rows.{AllWalked, IsWalked}
use Rattle.plan_commands.specs.declared.straying.BadMove.{BadMove}

-- the agent has no bad move, and its cells are where its acts lead
pub record GoesItsWay (m : Grid) (course : Course) : Type 0 where
  pub good : (step : ℕ) → IsBadMove m course step → ⊥
  pub walked : IsWalked course

-- the same of each agent of a plan
pub record GoTheirWays (m : Grid) (p : Plan) : Type 0 where
  pub walkable : IsWalkable m p
  pub walked : AllWalked p.courses

-- The move is one of the first so many agents, and the first of all that these have, by its step
-- and then by its agent.
pub record IsFirstMove (m : Grid) (courses : List Course) (agents : ℕ)
    (bad : BadMove) : Type 0 where
  pub is_one : HasBadMove m courses bad.step bad.agent
  pub before : bad.agent < agents
  pub first : (agent step : ℕ) → agent < agents → HasBadMove m courses step agent
      → (bad.step < step) ⊎ ((bad.step ≡ step) × (bad.agent ≤ agent))

-- there is none, or this is it
abbrev pub IsLeastMove : Grid → List Course → ℕ → Option BadMove → Type 0
IsLeastMove m courses agents None =
    (agent : ℕ) (course : Course) → agent < agents → slice_get courses agent ≡ Some course
    → GoesItsWay m course
IsLeastMove m courses agents (Some bad) = IsFirstMove m courses agents bad

-- the sooner one of a move and of a later agent's, which is made in this step, if there are such
abbrev pub sooner_of : Option BadMove → ℕ → Option ℕ → Option BadMove
sooner_of first agent None = first
sooner_of None agent (Some step) = Some (record { agent = agent; step = step })
sooner_of (Some bad) agent (Some step) =
    if nat_lt step bad.step then Some (record { agent = agent; step = step }) else Some bad

-- no agent has more acts than a plan may have
abbrev pub AllHaveFewActs : List Course → Type 0
AllHaveFewActs courses =
    (agent : ℕ) (course : Course) → slice_get courses agent ≡ Some course
    → length course.acts ≤ most_acts
