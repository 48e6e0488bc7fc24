use Rattle.std.proofs.Common.{◌+◌, ap, ◌∙◌}
use Rattle.model.specs.Rules.{path_cell}
use Rattle.agent.proofs.records.Records.next_cell.Goals as goal

pub returns : goal.returns
returns c tt is = c.path_cell.ensures tt is ∙ ap (λ n. path_cell is.track (n + 1)) c.done.ensures
