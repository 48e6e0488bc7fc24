-- One part behind the other.
use Rattle.std.proofs.Common.{◌≡◌, [], ◌∷◌, refl}
use Rattle.std.proofs.lemmas.Result.{err_from_is_err_and}
use Rattle.text_io.specs.Laws.Putting.{Puts-then, Breaks-then, Breaks-text}
use Rattle.text_io.specs.FaultWords.{words_of}
use Rattle.ending.specs.Laws.Pieces.{breaks_as, puts_as}
use Rattle.ending.specs.Pieces.{pieces_text}
use Rattle.ending.specs.Telling.{enclosed_words}
use Rattle.fleet_commands.specs.StatusText.{said}
use Rattle.std.specs.Prelude.{codes}
use Rattle.fleet_commands.proofs.status_line.put_fault.Goals as goal

pub returns-in_err-put_pieces-clause-err : goal.returns-in_err-put_pieces-clause-err
returns-in_err-put_pieces-clause-err g c =
    let p = err_from_is_err_and c.from_residual.result c.from_residual.ensures.1 in
    let front = pieces_text ((c.args.head.word.now, c.args.head.number) ∷ []) in
    let rest = enclosed_words (said c.args.json (codes " ") (codes ",\"fault\":\"")) (words_of c.args.words) (said c.args.json (codes "\n") (codes "\"}\n")) in
    rw p.1 (Breaks-text g.W.Write.contents _ _ front rest _ refl c.in_err-put_pieces.ensures.err)

pub returns-clause-ok : goal.returns-clause-ok
returns-clause-ok g c =
    let front = pieces_text ((c.args.head.word.now, c.args.head.number) ∷ []) in
    let text = enclosed_words (said c.args.json (codes " ") (codes ",\"fault\":\"")) (words_of c.args.words) (said c.args.json (codes "\n") (codes "\"}\n")) in
    let is : enclosed_words c.said-behind.result.now (words_of c.args.words) c.said.result.now ≡ text = rw (c.said-behind.ensures, c.said.ensures) refl in
    Puts-then g.W.Write.contents _ _ _ front text _ c.put_fault_words.result refl c.in_ok-put_pieces.ensures.ok
    (puts_as g.W.Write.contents _ _ c.put_fault_words.result _ _ is c.put_fault_words.ensures.ok)

pub returns-clause-err : goal.returns-clause-err
returns-clause-err g c =
    let front = pieces_text ((c.args.head.word.now, c.args.head.number) ∷ []) in
    let text = enclosed_words (said c.args.json (codes " ") (codes ",\"fault\":\"")) (words_of c.args.words) (said c.args.json (codes "\n") (codes "\"}\n")) in
    let is : enclosed_words c.said-behind.result.now (words_of c.args.words) c.said.result.now ≡ text = rw (c.said-behind.ensures, c.said.ensures) refl in
    Breaks-then g.W.Write.contents _ _ _ front text _ c.put_fault_words.result refl c.in_ok-put_pieces.ensures.ok
    (breaks_as g.W.Write.contents _ _ c.put_fault_words.result _ _ is c.put_fault_words.ensures.err)
