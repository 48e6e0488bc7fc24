-- One part behind the other.
use Rattle.std.proofs.Common.{refl}
use Rattle.std.proofs.lemmas.Result.{err_from_is_err_and}
use Rattle.text_io.specs.Laws.Putting.{Puts-then, Breaks-then, Breaks-text}
use Rattle.fleet_commands.specs.StatusText.{progress_text, keeping_text}
use Rattle.fleet_commands.proofs.status_line.put_agent_line.Goals as goal

pub returns-in_err-put_progress-clause-err : goal.returns-in_err-put_progress-clause-err
returns-in_err-put_progress-clause-err g c =
    let p = err_from_is_err_and c.from_residual.result c.from_residual.ensures.1 in
    rw p.1 (Breaks-text g.W.Write.contents _ _ (progress_text c.args.json c.args.line.now) (keeping_text c.args.json c.args.line.now.keeping) _ refl c.in_err-put_progress.ensures.err)

pub returns-clause-ok : goal.returns-clause-ok
returns-clause-ok g c = Puts-then g.W.Write.contents _ _ _ (progress_text c.args.json c.args.line.now) (keeping_text c.args.json c.args.line.now.keeping) _ c.put_keeping.result refl
    c.in_ok-put_progress.ensures.ok c.put_keeping.ensures.ok

pub returns-clause-err : goal.returns-clause-err
returns-clause-err g c = Breaks-then g.W.Write.contents _ _ _ (progress_text c.args.json c.args.line.now) (keeping_text c.args.json c.args.line.now.keeping) _ c.put_keeping.result refl
    c.in_ok-put_progress.ensures.ok c.put_keeping.ensures.err
