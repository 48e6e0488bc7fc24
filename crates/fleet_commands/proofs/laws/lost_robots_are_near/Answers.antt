-- Each move that a drive may have begun has its need met.
use Rattle.fleet.specs.Ahead.{reach}
use Rattle.fleet.specs.OwnPlans.{log_of}
use Rattle.fleet_commands.proofs.LostLemmas.{near}
use Rattle.fleet_commands.proofs.laws.lost_robots_are_near.Goals as goal

pub returns-clause-fleet : goal.returns-clause-fleet
returns-clause-fleet c = λ table log states found i last track cell tellable fleet tapes there furthest may.
    near table found states i last track cell (reach log states) tapes there furthest (λ k less. c.lost_drives.ensures.fleet table log states i k track tellable fleet there less) may

pub returns-clause-of_plans : goal.returns-clause-of_plans
returns-clause-of_plans c = λ table doings states found i last track cell tellable fleet looks tapes there furthest may.
    near table found states i last track cell (reach (log_of doings) states) tapes there furthest
    (λ k less. c.lost_drives.ensures.of_plans table doings states i k track tellable fleet looks there less) may
