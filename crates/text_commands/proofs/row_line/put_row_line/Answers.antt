use Rattle.std.proofs.Common.{OnErr, subst, sym}
use Rattle.text_io.specs.Sink.{Breaks}
use Rattle.text_commands.specs.RowsCommand.{row_line_text}
use Rattle.text_commands.specs.declared.row_line.RowLine.{RowLine}
use Rattle.text_commands.proofs.row_line.put_row_line.Goals as goal

pub returns-in-OtherSize-clause-err : goal.returns-in-OtherSize-clause-err
returns-in-OtherSize-clause-err g c =
    subst (λ (line : RowLine). OnErr c.put-in-OtherSize.result (Breaks g.W.Write.contents c.args.sink.now c.put-in-OtherSize.new.self (row_line_text line)))
    (sym c.in-OtherSize.is) c.put-in-OtherSize.ensures.err
