-- The search gives up on the values of these.
use Rattle.clap.specs.Words.{found_of, rows_of}
use Rattle.command_line.proofs.Named.{named_want}
use Rattle.command_line.proofs.text_words.read_text_command.Goals as goal

pub returns-in-row-clause-err : goal.returns-in-row-clause-err
returns-in-row-clause-err c = named_want (rows_of (found_of c.args.given.now)) c.read_row.result c.in-row.is c.read_row.ensures.err

pub returns-in-rows-clause-err : goal.returns-in-rows-clause-err
returns-in-rows-clause-err c = named_want (rows_of (found_of c.args.given.now)) c.read_rows.result c.in-rows.is c.read_rows.ensures.err
