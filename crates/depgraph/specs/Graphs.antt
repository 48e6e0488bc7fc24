-- What every graph keeps.
use Rattle.std.specs.Prelude.{◌≤◌, length}
use Rattle.std.specs.List.{AllByRecursion}
use Rattle.model.specs.Costs.{AllEndAtRest}
use Rattle.model.specs.Timetable.{Timetable, IsConflictFree, IsSwapFree}
use Rattle.plan_text.specs.Limits.{most_agents, most_acts, most_acts_in_all}
use Rattle.checker.specs.Checking.{steps_in}

-- Nobody is ever in a cell with another, no two exchange cells, each track ends where its agent
-- comes to rest, and the limits of a plan.
pub record IsGraphed (tt : Timetable) : Type 0 where
  pub conflict_free : IsConflictFree tt
  pub swap_free : IsSwapFree tt
  pub at_rest : AllEndAtRest tt
  pub agent_limit : length tt.tracks ≤ most_agents
  pub step_limit : AllByRecursion (λ track. length track.later ≤ most_acts) tt.tracks
  pub all_steps_limit : steps_in tt.tracks ≤ most_acts_in_all
