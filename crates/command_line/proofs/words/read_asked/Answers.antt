-- The fault is that of the command.
use Rattle.std.proofs.lemmas.Result.{err_from_is_err_and}
use Rattle.command_line.proofs.words.read_asked.Goals as goal

pub returns-in_err-read_command-clause-err : goal.returns-in_err-read_command-clause-err
returns-in_err-read_command-clause-err c =
    let p = err_from_is_err_and c.from_residual.result c.from_residual.ensures.1 in
    rw (p.1, p.2) c.in_err-read_command.ensures.err
