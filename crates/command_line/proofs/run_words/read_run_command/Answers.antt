-- The search gives up on the values of these.
use Rattle.clap.specs.Words.{found_of, rows_of}
use Rattle.command_line.proofs.Named.{named_want}
use Rattle.command_line.proofs.run_words.read_run_command.Goals as goal

pub returns-in-agent-clause-err : goal.returns-in-agent-clause-err
returns-in-agent-clause-err c = named_want (rows_of (found_of c.args.given.now)) c.read_agent.result c.in-agent.is c.read_agent.ensures.err

pub returns-in-tape-clause-err : goal.returns-in-tape-clause-err
returns-in-tape-clause-err c = named_want (rows_of (found_of c.args.given.now)) c.read_tape.result c.in-tape.is c.read_tape.ensures.err

pub returns-in-status-clause-err : goal.returns-in-status-clause-err
returns-in-status-clause-err c = named_want (rows_of (found_of c.args.given.now)) c.read_status.result c.in-status.is c.read_status.ensures.err

pub returns-in-lost-clause-err : goal.returns-in-lost-clause-err
returns-in-lost-clause-err c = named_want (rows_of (found_of c.args.given.now)) c.read_lost.result c.in-lost.is c.read_lost.ensures.err

pub returns-in-handover-clause-err : goal.returns-in-handover-clause-err
returns-in-handover-clause-err c = named_want (rows_of (found_of c.args.given.now)) c.read_handover.result c.in-handover.is c.read_handover.ensures.err

pub returns-in-anew-clause-err : goal.returns-in-anew-clause-err
returns-in-anew-clause-err c = named_want (rows_of (found_of c.args.given.now)) c.read_anew.result c.in-anew.is c.read_anew.ensures.err
