-- What is put says what was chosen.
use Rattle.std.proofs.Common.{◌++◌, ℕ, List, ap₂}
use Rattle.ending.specs.Laws.Pieces.{breaks_as, puts_as}
use Rattle.fleet_commands.proofs.PieceLemmas.{made, one-piece}
use Rattle.fleet_commands.proofs.status_line.put_begun.Goals as goal

pub returns-clause-ok : goal.returns-clause-ok
returns-clause-ok g c =
    let number = made c.new.result _ _ _ c.args.number c.new.ensures c.said-head.ensures c.from.ensures in
    let is = ap₂ (λ (pieces end : List ℕ). pieces ++ end) (one-piece c.new.result _ _ number) c.said.ensures in
    puts_as g.W.Write.contents _ _ c.put_ended.result _ _ is c.put_ended.ensures.ok

pub returns-clause-err : goal.returns-clause-err
returns-clause-err g c =
    let number = made c.new.result _ _ _ c.args.number c.new.ensures c.said-head.ensures c.from.ensures in
    let is = ap₂ (λ (pieces end : List ℕ). pieces ++ end) (one-piece c.new.result _ _ number) c.said.ensures in
    breaks_as g.W.Write.contents _ _ c.put_ended.result _ _ is c.put_ended.ensures.err
