use Rattle.std.proofs.Common.{◌+◌, ◌*◌, get_or, sym, ap, subst, ◌∙◌}
use Rattle.checker.specs.Code.Squares.{ground_by, HasGround}
use Rattle.checker.proofs.SquareLemmas.{ground_here}
use Rattle.checker.proofs.board.ground_at.Goals as goal

pub returns : goal.returns
returns c =
    let m = c.args.map.now in
    let cell = c.args.cell in
    let x = c.from-2.ensures in
    let y = c.from.ensures in
    let width = c.width-width.ensures.width in
    subst (HasGround m cell) (sym (simp (x, y, width) at (c.ground_by.ensures ∙ ap (λ l. ground_by (get_or l (c.from.result * c.width-width.result + c.from-2.result) 0)) c.characters.ensures)))
    (ground_here m cell c.width-width.ensures.map c.requires)
