use Rattle.std.proofs.lemmas.Result.{err_from_is_err_and}
use Rattle.text_commands.proofs.RowsEndings.{all_put, last_broken}
use Rattle.text_commands.proofs.rows_command.put_all.Goals as goal

pub returns-in_err-send_last_line-clause-puts : goal.returns-in_err-send_last_line-clause-puts
returns-in_err-send_last_line-clause-puts g c =
    let p = err_from_is_err_and c.from_residual-in_err-send_last_line.result c.from_residual-in_err-send_last_line.ensures.1 in
    rw (p.1, p.2) (last_broken g.W.Write.contents c.args.judge.now c.args.rows.now _ c.args.asked.now.straight _ _ _ c.in_ok-tally.tally c.requires.straight c.in_ok-tally.ensures.puts
    c.in_err-send_last_line.ensures.err)

pub returns-clause-puts : goal.returns-clause-puts
returns-clause-puts g c =
    all_put g.W.Write.contents c.args.judge.now c.args.rows.now _ c.args.asked.now.straight _ _ _ c.in_ok-tally.tally c.requires.straight c.in_ok-tally.ensures.puts c.in_ok-send_last_line.ensures.ok
    c.in_ok-send_last_line.ensures.none_held
