-- What is still to be done is what was found to be.
use Rattle.agent_commands.proofs.PlanLemmas.{due_of}
use Rattle.agent_commands.proofs.opening.take_kept_tape.Goals as goal

pub returns-clause-due : goal.returns-clause-due
returns-clause-due g c = due_of g.R.ReadFiles.was_done c.args.plan.now c.args.tape _ _ c.has_record.ensures c.in_ok-task.ensures
