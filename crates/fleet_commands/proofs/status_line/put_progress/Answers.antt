-- One part behind the other.
use Rattle.std.proofs.Common.{refl}
use Rattle.std.proofs.lemmas.Result.{err_from_is_err_and}
use Rattle.text_io.specs.Laws.Putting.{Puts-then, Breaks-then, Breaks-text}
use Rattle.std.specs.Prelude.{◌++◌}
use Rattle.ending.specs.Pieces.{pieces_text}
use Rattle.fleet_commands.specs.StatusText.{agent_text, counts_text, held_pieces}
use Rattle.fleet_commands.proofs.status_line.put_progress.Goals as goal

pub returns-in_err-put_place-clause-err : goal.returns-in_err-put_place-clause-err
returns-in_err-put_place-clause-err g c =
    let p = err_from_is_err_and c.from_residual.result c.from_residual.ensures.1 in
    rw p.1 (Breaks-text g.W.Write.contents _ _ (agent_text c.args.json c.args.line.now.agent ++ pieces_text (held_pieces c.args.json c.args.line.now.held)) (counts_text c.args.json c.args.line.now) _
    refl c.in_err-put_place.ensures.err)

pub returns-clause-ok : goal.returns-clause-ok
returns-clause-ok g c = Puts-then g.W.Write.contents _ _ _ (agent_text c.args.json c.args.line.now.agent ++ pieces_text (held_pieces c.args.json c.args.line.now.held))
    (counts_text c.args.json c.args.line.now) _ c.put_counts.result refl c.in_ok-put_place.ensures.ok c.put_counts.ensures.ok

pub returns-clause-err : goal.returns-clause-err
returns-clause-err g c = Breaks-then g.W.Write.contents _ _ _ (agent_text c.args.json c.args.line.now.agent ++ pieces_text (held_pieces c.args.json c.args.line.now.held))
    (counts_text c.args.json c.args.line.now) _ c.put_counts.result refl c.in_ok-put_place.ensures.ok c.put_counts.ensures.err
