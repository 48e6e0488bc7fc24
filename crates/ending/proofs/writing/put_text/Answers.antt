-- The text, and then what is held back.
use Rattle.std.proofs.Common.{[], ◌++◌, refl, append-nil}
use Rattle.text_io.specs.Laws.Putting.{Leaves-all, Leaves-less, Breaks-last}
use Rattle.ending.proofs.writing.put_text.Goals as goal

pub returns-clause-err : goal.returns-clause-err
returns-clause-err g c =
    let text = c.args.text.now in
    let all = Leaves-all g.W.Write.contents _ text (text ++ []) (append-nil text) in
    let last = Leaves-less g.W.Write.contents _ _ _ _ text [] _ all refl c.in_ok-put.ensures.ok in
    Breaks-last g.W.Write.contents _ _ _ _ [] _ c.hand_on.result last refl c.hand_on.ensures.err
