use Rattle.fleet.specs.Ahead.{reach}
use Rattle.fleet.specs.OwnPlans.{log_of}
use Rattle.agent.specs.States.{finished_moves}
use Rattle.fleet.proofs.AheadLemmas.{fleet-met, doings-met}
use Rattle.fleet.proofs.FleetLemmas.{of-fleet}
use Rattle.fleet.proofs.TellableLemmas.{tellable}
use Rattle.fleet.proofs.laws.ahead_of_tapes.Goals as goal

pub returns-clause-fleet : goal.returns-clause-fleet
returns-clause-fleet c map plan table log states limits valid is fleet i j cell first second =
    let can_tell = tellable (c.timetables.ensures.no_longer) plan table limits is in
    let met = fleet-met table can_tell c.tellings.ensures.one log states (of-fleet table log states fleet) in
    c.met_needs_keep_apart.ensures table (reach log states) (λ k. finished_moves (states k)) i j cell (c.timetables.ensures.conflict_free map plan table valid is) met first second

pub returns-clause-of_plans : goal.returns-clause-of_plans
returns-clause-of_plans c map plan last doings states limits valid is led looks i j cell first second =
    let can_tell = tellable (c.timetables.ensures.no_longer) plan last limits is in
    let met = doings-met last can_tell c.tellings.ensures.one doings states led looks in
    c.met_needs_keep_apart.ensures last (reach (log_of doings) states) (λ k. finished_moves (states k)) i j cell (c.timetables.ensures.conflict_free map plan last valid is) met first second
