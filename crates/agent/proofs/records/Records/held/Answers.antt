use Rattle.std.proofs.Common.{rules}
use Rattle.agent.proofs.records.Records.held.Goals as goal

pub returns-then-is_moving : goal.returns-then-is_moving
returns-then-is_moving c tt is =
    let at = c.path_cell-at.ensures tt is in
    let next = c.next_cell.ensures tt is in
    search rules

pub returns-else-is_moving : goal.returns-else-is_moving
returns-else-is_moving c tt is =
    let at = c.path_cell-at.ensures tt is in
    search rules
