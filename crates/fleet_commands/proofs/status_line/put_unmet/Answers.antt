-- What is put says what was chosen.
use Rattle.std.proofs.Common.{◌++◌, ℕ, List, ap₂}
use Rattle.ending.specs.Laws.Pieces.{breaks_as, puts_as}
use Rattle.fleet_commands.proofs.PieceLemmas.{made, three-pieces}
use Rattle.fleet_commands.proofs.status_line.put_unmet.Goals as goal

pub returns-clause-ok : goal.returns-clause-ok
returns-clause-ok g c =
    let agent = made c.new-agent.result _ _ _ c.args.agent c.new-agent.ensures c.said-head.ensures c.from.ensures in
    let other = made c.new-other.result _ _ _ c.args.unmet.agent c.new-other.ensures c.said.ensures c.from-2.ensures in
    let count = made c.new-count.result _ _ _ c.args.unmet.count c.new-count.ensures c.said-2.ensures c.from-3.ensures in
    let is = ap₂ (λ (pieces end : List ℕ). pieces ++ end) (three-pieces c.new-agent.result c.new-other.result c.new-count.result _ _ _ _ _ _ agent other count) c.said-3.ensures in
    puts_as g.W.Write.contents _ _ c.put_ended.result _ _ is c.put_ended.ensures.ok

pub returns-clause-err : goal.returns-clause-err
returns-clause-err g c =
    let agent = made c.new-agent.result _ _ _ c.args.agent c.new-agent.ensures c.said-head.ensures c.from.ensures in
    let other = made c.new-other.result _ _ _ c.args.unmet.agent c.new-other.ensures c.said.ensures c.from-2.ensures in
    let count = made c.new-count.result _ _ _ c.args.unmet.count c.new-count.ensures c.said-2.ensures c.from-3.ensures in
    let is = ap₂ (λ (pieces end : List ℕ). pieces ++ end) (three-pieces c.new-agent.result c.new-other.result c.new-count.result _ _ _ _ _ _ agent other count) c.said-3.ensures in
    breaks_as g.W.Write.contents _ _ c.put_ended.result _ _ is c.put_ended.ensures.err
