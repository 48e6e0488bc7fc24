-- By its pieces.
use Rattle.std.proofs.Common.{◌∙◌}
use Rattle.check_commands.proofs.BoundLemmas.{sums-parts}
use Rattle.ending.specs.Laws.Pieces.{breaks_as, puts_as, says}
use Rattle.check_commands.proofs.bound_text.put_sums_json.Goals as goal

pub returns-clause-ok : goal.returns-clause-ok
returns-clause-ok g c =
    let cost = says c.new.result _ _ _ c.new.ensures (c.from.ensures ∙ c.sum_of_costs.ensures) in
    let cost_bound = says c.new-2.result _ _ _ c.new-2.ensures c.sum_of.ensures in
    let most = says c.new-3.result _ _ _ c.new-3.ensures (c.from-2.ensures ∙ c.makespan.ensures) in
    let most_bound = says c.new-4.result _ _ _ c.new-4.ensures (c.from-3.ensures ∙ c.greatest_of.ensures) in
    let is = sums-parts _ _ _ _ c.args.end.now c.new.result c.new-2.result c.new-3.result c.new-4.result cost cost_bound most most_bound in
    puts_as g.W.Write.contents _ _ c.put_ended.result _ _ is c.put_ended.ensures.ok

pub returns-clause-err : goal.returns-clause-err
returns-clause-err g c =
    let cost = says c.new.result _ _ _ c.new.ensures (c.from.ensures ∙ c.sum_of_costs.ensures) in
    let cost_bound = says c.new-2.result _ _ _ c.new-2.ensures c.sum_of.ensures in
    let most = says c.new-3.result _ _ _ c.new-3.ensures (c.from-2.ensures ∙ c.makespan.ensures) in
    let most_bound = says c.new-4.result _ _ _ c.new-4.ensures (c.from-3.ensures ∙ c.greatest_of.ensures) in
    let is = sums-parts _ _ _ _ c.args.end.now c.new.result c.new-2.result c.new-3.result c.new-4.result cost cost_bound most most_bound in
    breaks_as g.W.Write.contents _ _ c.put_ended.result _ _ is c.put_ended.ensures.err
