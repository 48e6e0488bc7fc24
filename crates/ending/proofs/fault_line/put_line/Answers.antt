-- The line, and then what is held back.
use Rattle.std.proofs.Common.{[], ◌++◌, refl, append-nil}
use Rattle.text_io.specs.FaultWords.{words_of}
use Rattle.text_io.specs.Laws.Putting.{Leaves-all, Leaves-less, Puts-last, Breaks-last}
use Rattle.ending.specs.Telling.{fault_line}
use Rattle.ending.proofs.fault_line.put_line.Goals as goal

pub returns-clause-ok : goal.returns-clause-ok
returns-clause-ok g c =
    let text = fault_line (words_of c.args.words) in
    let all = Leaves-all g.E.Write.contents _ text (text ++ []) (append-nil text) in
    let last = Leaves-less g.E.Write.contents _ _ _ _ text [] _ all refl c.in_ok-put_fault_line.ensures.ok in
    Puts-last g.E.Write.contents _ _ _ _ [] _ c.hand_on.result last refl c.hand_on.ensures.ok

pub returns-clause-err : goal.returns-clause-err
returns-clause-err g c =
    let text = fault_line (words_of c.args.words) in
    let all = Leaves-all g.E.Write.contents _ text (text ++ []) (append-nil text) in
    let last = Leaves-less g.E.Write.contents _ _ _ _ text [] _ all refl c.in_ok-put_fault_line.ensures.ok in
    Breaks-last g.E.Write.contents _ _ _ _ [] _ c.hand_on.result last refl c.hand_on.ensures.err
