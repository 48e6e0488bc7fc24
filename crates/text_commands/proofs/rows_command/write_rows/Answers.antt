use Rattle.std.proofs.Common.{rules}
use Rattle.text_commands.proofs.RowsEndings.{rows_same_writer, rows_written}
use Rattle.text_commands.proofs.rows_command.write_rows.Goals as goal

pub returns-clause-writes : goal.returns-clause-writes
returns-clause-writes g c =
    let same = rows_same_writer g.W.Write.contents c.args.judge.now c.args.rows.now _ c.new-sink.result c.put_all.new.sink c.put_all.result c.put_all.ensures.puts in
    let wrote = rows_written g.W.Write.contents c.args.judge.now c.args.rows.now _ c.new-sink.result c.put_all.new.sink c.args.out.now _
    c.new-sink.ensures.writer c.new-sink.ensures.held_back c.drop-sink.ensures c.put_all.result c.put_all.ensures.puts in
    search rules
