-- What the report says of the records.
use Rattle.std.proofs.lemmas.Result.{err_from_is_err_and}
use Rattle.agent_commands.proofs.tape_report.read_records.Goals as goal

pub returns-in_err-read_report-clause-has : goal.returns-in_err-read_report-clause-has
returns-in_err-read_report-clause-has g c tt is =
    let p = err_from_is_err_and c.from_residual.result c.from_residual.ensures.1 in
    rw (p.1, p.2) (c.in_err-read_report.ensures.reports tt is)

pub returns-clause-has : goal.returns-clause-has
returns-clause-has g c tt is = (c.in_ok-read_report.ensures.reports tt is).1
