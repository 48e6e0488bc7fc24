-- They are the cells at time 0 and at that at which the agent comes to rest.
use Rattle.std.proofs.Common.{◌∙◌, sym}
use Rattle.model.specs.Timetable.{track_of}
use Rattle.proof_commands.proofs.EndsLemmas.{ends_found}
use Rattle.proof_commands.proofs.ends.ends_of_agent.Goals as goal

pub returns : goal.returns
returns c =
    ends_found (track_of c.args.plan.now.timetable c.args.agent) c.in_ok-start.start c.in_ok-goal.goal c.in_ok-cost.cost
    (sym c.in_ok-start.was ∙ c.position.ensures) (sym c.in_ok-cost.was ∙ c.cost.ensures) (sym c.in_ok-goal.was ∙ c.position-2.ensures)
