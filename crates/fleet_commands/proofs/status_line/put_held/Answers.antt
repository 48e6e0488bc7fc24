-- The pieces say the cells.
use Rattle.std.proofs.Common.{◌∙◌, ap, sym}
use Rattle.ending.specs.Laws.Pieces.{breaks_as, puts_as}
use Rattle.ending.specs.Pieces.{pieces_text}
use Rattle.fleet_commands.specs.StatusText.{held_pieces}
use Rattle.fleet_commands.proofs.PieceLemmas.{made, four-pieces}
use Rattle.fleet_commands.proofs.status_line.put_held.Goals as goal

pub returns-in-Between-clause-ok : goal.returns-in-Between-clause-ok
returns-in-Between-clause-ok g c =
    let x = made c.new-x-in-Between.result _ _ _ c.in-Between.from.x c.new-x-in-Between.ensures c.said-head.ensures c.from-in-Between.ensures in
    let y = made c.new-y.result _ _ _ c.in-Between.from.y c.new-y.ensures c.said-comma.ensures c.from-in-Between-2.ensures in
    let u = made c.new-u.result _ _ _ c.in-Between.to.x c.new-u.ensures c.said-comma.ensures c.from-in-Between-3.ensures in
    let v = made c.new-v.result _ _ _ c.in-Between.to.y c.new-v.ensures c.said-comma.ensures c.from-in-Between-4.ensures in
    let is = four-pieces c.new-x-in-Between.result c.new-y.result c.new-u.result c.new-v.result _ _ _ _ _ _ _ _ x y u v ∙ ap (λ h. pieces_text (held_pieces c.args.json h)) (sym c.in-Between.is) in
    puts_as g.W.Write.contents _ _ c.put_pieces-in-Between.result _ _ is c.put_pieces-in-Between.ensures.ok

pub returns-in-Between-clause-err : goal.returns-in-Between-clause-err
returns-in-Between-clause-err g c =
    let x = made c.new-x-in-Between.result _ _ _ c.in-Between.from.x c.new-x-in-Between.ensures c.said-head.ensures c.from-in-Between.ensures in
    let y = made c.new-y.result _ _ _ c.in-Between.from.y c.new-y.ensures c.said-comma.ensures c.from-in-Between-2.ensures in
    let u = made c.new-u.result _ _ _ c.in-Between.to.x c.new-u.ensures c.said-comma.ensures c.from-in-Between-3.ensures in
    let v = made c.new-v.result _ _ _ c.in-Between.to.y c.new-v.ensures c.said-comma.ensures c.from-in-Between-4.ensures in
    let is = four-pieces c.new-x-in-Between.result c.new-y.result c.new-u.result c.new-v.result _ _ _ _ _ _ _ _ x y u v ∙ ap (λ h. pieces_text (held_pieces c.args.json h)) (sym c.in-Between.is) in
    breaks_as g.W.Write.contents _ _ c.put_pieces-in-Between.result _ _ is c.put_pieces-in-Between.ensures.err
