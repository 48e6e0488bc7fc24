use Rattle.check_commands.proofs.PlainText.{rejected_written}
use Rattle.check_commands.proofs.verdict.rejected_json.Goals as goal

pub returns : goal.returns
returns c = rejected_written c.to_string.result _ c.args.fault.now c.requires c.in_ok-rejected_value.ensures c.to_string.ensures.text
