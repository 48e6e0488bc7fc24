-- Each begun move has its need met.
use Rattle.fleet_commands.proofs.RunLemmas.{needs-met}
use Rattle.fleet_commands.specs.FoundTapes.{begun_by, finished_by}
use Rattle.fleet_commands.proofs.laws.tapes_of_one_run_keep_apart.Goals as goal

pub returns : goal.returns
returns c = λ table turns found i j cell free all within known none one other.
    c.met_needs_keep_apart.ensures table (begun_by found) (finished_by found) i j cell free
    (needs-met table turns found all known within none (λ a k track asked. c.needs.ensures.planned table a k track asked free)) one other
