-- The counts, the LF, and then all is handed on.
use Rattle.std.proofs.Common.{[], ◌∷◌, ◌++◌, ap, refl}
use Rattle.std.proofs.lemmas.Result.{err_from_is_err_and}
use Rattle.text_io.specs.Laws.Putting.{Leaves-all, Leaves-less, Leaves-broken, Puts-last, Breaks-last}
use Rattle.text_io.specs.Text.{line_feed}
use Rattle.text_commands.specs.Code.Tallies.{tally_pieces}
use Rattle.ending.specs.Pieces.{pieces_text}
use Rattle.text_commands.proofs.last_line.send_last_line.Goals as goal

pub returns-in_err-put_pieces-clause-err : goal.returns-in_err-put_pieces-clause-err
returns-in_err-put_pieces-clause-err g c =
    let p = err_from_is_err_and c.from_residual.result c.from_residual.ensures.1 in
    let pieces = pieces_text (tally_pieces c.args.straight c.args.tally.now) in
    let all = Leaves-all g.W.Write.contents _ _ (pieces ++ line_feed ∷ []) refl in
    rw p.1 (Leaves-broken g.W.Write.contents _ _ _ _ pieces (line_feed ∷ []) _ all (ap pieces_text c.pieces.ensures) c.in_err-put_pieces.ensures.err)

pub returns-in_err-put-clause-err : goal.returns-in_err-put-clause-err
returns-in_err-put-clause-err g c =
    let p = err_from_is_err_and c.from_residual-in_err-put.result c.from_residual-in_err-put.ensures.1 in
    let pieces = pieces_text (tally_pieces c.args.straight c.args.tally.now) in
    let all = Leaves-all g.W.Write.contents _ _ (pieces ++ line_feed ∷ []) refl in
    let less = Leaves-less g.W.Write.contents _ _ _ _ pieces (line_feed ∷ []) _ all (ap pieces_text c.pieces.ensures) c.in_ok-put_pieces.ensures.ok in
    rw p.1 (Leaves-broken g.W.Write.contents _ _ _ _ (line_feed ∷ []) [] _ less refl c.in_err-put.ensures.err)

pub returns-clause-ok : goal.returns-clause-ok
returns-clause-ok g c =
    let pieces = pieces_text (tally_pieces c.args.straight c.args.tally.now) in
    let all = Leaves-all g.W.Write.contents _ _ (pieces ++ line_feed ∷ []) refl in
    let less = Leaves-less g.W.Write.contents _ _ _ _ pieces (line_feed ∷ []) _ all (ap pieces_text c.pieces.ensures) c.in_ok-put_pieces.ensures.ok in
    let last = Leaves-less g.W.Write.contents _ _ _ _ (line_feed ∷ []) [] _ less refl c.in_ok-put.ensures.ok in
    Puts-last g.W.Write.contents _ _ _ _ [] _ c.flush.result last refl c.flush.ensures.ok

pub returns-clause-err : goal.returns-clause-err
returns-clause-err g c =
    let pieces = pieces_text (tally_pieces c.args.straight c.args.tally.now) in
    let all = Leaves-all g.W.Write.contents _ _ (pieces ++ line_feed ∷ []) refl in
    let less = Leaves-less g.W.Write.contents _ _ _ _ pieces (line_feed ∷ []) _ all (ap pieces_text c.pieces.ensures) c.in_ok-put_pieces.ensures.ok in
    let last = Leaves-less g.W.Write.contents _ _ _ _ (line_feed ∷ []) [] _ less refl c.in_ok-put.ensures.ok in
    Breaks-last g.W.Write.contents _ _ _ _ [] _ c.flush.result last refl c.flush.ensures.err
