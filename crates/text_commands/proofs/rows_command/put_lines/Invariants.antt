-- The rows so far were put.
use Rattle.std.proofs.Common.{◌≡◌, ◌+◌, take, unwrap_or}
use Rattle.text_commands.specs.Code.Judging.{HavePut}
use Rattle.text_commands.specs.RowsCommand.{ShowsProgress}
use Rattle.text_commands.proofs.rows_command.put_lines.Given as goal

abbrev pub invariant-loop-row : goal.invariant-loop-row
invariant-loop-row g l = record {
  same : l.judge ≡ l.fn.judge;
  number : l.number ≡ unwrap_or l.asked.from 0 + l.row-index;
  put : HavePut g.W.Write.contents l.fn.judge (take l.row-index l.rows) (unwrap_or l.asked.from 0) l.fn.sink l.sink l.tally;
  shows : ShowsProgress g.E.Write.contents l.asked.progress l.fn.err l.err;
}
