-- The search gives up on the values of these.
use Rattle.clap.specs.Words.{found_of, rows_of}
use Rattle.command_line.proofs.Named.{named_want}
use Rattle.command_line.proofs.plan_words.read_plan_command.Goals as goal

pub returns-in-check-clause-err : goal.returns-in-check-clause-err
returns-in-check-clause-err c = named_want (rows_of (found_of c.args.given.now)) c.read_check.result c.in-check.is c.read_check.ensures.err

pub returns-in-deps-clause-err : goal.returns-in-deps-clause-err
returns-in-deps-clause-err c = named_want (rows_of (found_of c.args.given.now)) c.read_deps.result c.in-deps.is c.read_deps.ensures.err

pub returns-in-path-clause-err : goal.returns-in-path-clause-err
returns-in-path-clause-err c = named_want (rows_of (found_of c.args.given.now)) c.read_path.result c.in-path.is c.read_path.ensures.err

pub returns-in-cut-clause-err : goal.returns-in-cut-clause-err
returns-in-cut-clause-err c = named_want (rows_of (found_of c.args.given.now)) c.read_cut.result c.in-cut.is c.read_cut.ensures.err
