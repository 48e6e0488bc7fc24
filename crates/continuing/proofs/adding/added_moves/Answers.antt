-- All moves of the old plan are moves of the new one.
use Rattle.std.proofs.Common.{◌∙◌, arith, ap}
use Rattle.continuing.specs.Adding.{moves_made}
use Rattle.continuing.proofs.AddingLemmas.{moves-kept}
use Rattle.continuing.proofs.adding.added_moves.Goals as goal

pub overflow_sub-result : goal.overflow_sub-result
overflow_sub-result c =
    let now = c.moves.ensures ∙ ap moves_made c.courses.ensures.courses in
    let before = c.moves-2.ensures ∙ ap moves_made c.courses-2.ensures.courses in
    let kept = moves-kept c.args.old.now c.args.new.now c.requires in
    omega (arith, now, before, kept)

pub returns : goal.returns
returns c =
    let now = c.moves.ensures ∙ ap moves_made c.courses.ensures.courses in
    let before = c.moves-2.ensures ∙ ap moves_made c.courses-2.ensures.courses in
    let kept = moves-kept c.args.old.now c.args.new.now c.requires in
    omega (arith, now, before, kept)
