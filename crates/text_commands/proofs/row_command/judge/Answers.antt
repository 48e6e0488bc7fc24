use Rattle.text_commands.proofs.RowAnswers.{row_judged}
use Rattle.text_commands.proofs.row_command.judge.Goals as goal

pub returns : goal.returns
returns c = row_judged _ _ _ _ c.verdict_on.result c.in_ok-row.ensures c.verdict_on.ensures
