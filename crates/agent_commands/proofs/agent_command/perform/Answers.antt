use Rattle.std.proofs.Common.{◌∙◌, sym, ap}
use Rattle.agent_commands.specs.AgentCommand.{end_of_agent}
use Rattle.agent_commands.proofs.agent_command.perform.Goals as goal

pub returns-in-Ok : goal.returns-in-Ok
returns-in-Ok g c = record {
  answer = c.serve.result;
  serves = c.serve.ensures;
  ends = c.answered_with.ensures ∙ sym (ap end_of_agent c.in-Ok.is);
}
