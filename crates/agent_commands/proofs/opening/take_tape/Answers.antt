-- The plan is that of the terms.
use Rattle.std.proofs.lemmas.Result.{IfOk-weaker}
use Rattle.agent_commands.proofs.PlanLemmas.{due_on}
use Rattle.agent_commands.proofs.opening.take_tape.Goals as goal

pub returns-in-Kept-clause-due : goal.returns-in-Kept-clause-due
returns-in-Kept-clause-due g c p on =
    IfOk-weaker c.take_kept_tape.result _ _ (λ taken due. due_on g.R.ReadFiles.was_done c.args.terms.now c.in-Kept.plan p taken.tape taken.task c.in-Kept.is on due) c.take_kept_tape.ensures.due
