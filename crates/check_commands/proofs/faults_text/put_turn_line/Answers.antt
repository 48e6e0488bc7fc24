-- The line, and then what is held back.
use Rattle.std.proofs.Common.{[], ◌∷◌, ◌++◌, refl}
use Rattle.text_io.specs.Text.{spaced_numbers}
use Rattle.text_io.specs.Laws.Putting.{Leaves-all, Leaves-less, Puts-last, Breaks-last}
use Rattle.depgraph.specs.Rotations.{turn_of}
use Rattle.check_commands.proofs.FaultsLemmas.{turn-line-parts}
use Rattle.check_commands.proofs.faults_text.put_turn_line.Goals as goal

pub returns-clause-ok : goal.returns-clause-ok
returns-clause-ok g c =
    let turn = turn_of c.args.rotation.now in
    let head = c.turn_head.result.now in
    let end = c.turn_end.result.now in
    let line = head ++ spaced_numbers (turn.step ∷ turn.agents) ++ end in
    let all = Leaves-all g.W.Write.contents _ _ (line ++ []) (turn-line-parts c.args.json turn head end c.turn_head.ensures c.turn_end.ensures) in
    let last = Leaves-less g.W.Write.contents _ _ _ _ line [] _ all refl c.in_ok-put_turn.ensures.ok in
    Puts-last g.W.Write.contents _ _ _ _ [] _ c.hand_on.result last refl c.hand_on.ensures.ok

pub returns-clause-err : goal.returns-clause-err
returns-clause-err g c =
    let turn = turn_of c.args.rotation.now in
    let head = c.turn_head.result.now in
    let end = c.turn_end.result.now in
    let line = head ++ spaced_numbers (turn.step ∷ turn.agents) ++ end in
    let all = Leaves-all g.W.Write.contents _ _ (line ++ []) (turn-line-parts c.args.json turn head end c.turn_head.ensures c.turn_end.ensures) in
    let last = Leaves-less g.W.Write.contents _ _ _ _ line [] _ all refl c.in_ok-put_turn.ensures.ok in
    Breaks-last g.W.Write.contents _ _ _ _ [] _ c.hand_on.result last refl c.hand_on.ensures.err
