-- As JSON, and else in words.
use Rattle.ending.specs.Laws.Pieces.{breaks_as, puts_as, says}
use Rattle.check_commands.proofs.FaultsLemmas.{json-end-parts}
use Rattle.check_commands.proofs.faults_text.put_end.Goals as goal

pub returns-then-json-clause-ok : goal.returns-then-json-clause-ok
returns-then-json-clause-ok g c =
    let ends = c.args.ends.now in
    let said = says c.new-agents.result _ _ _ c.new-agents.ensures c.from.ensures in
    let is = json-end-parts ends.agents ends.more c.new-agents.result c.json_end.result.now said c.json_end.ensures ends.listed in
    rw c.if-json.true (puts_as g.W.Write.contents _ _ c.put_ended.result _ _ is c.put_ended.ensures.ok)

pub returns-then-json-clause-err : goal.returns-then-json-clause-err
returns-then-json-clause-err g c =
    let ends = c.args.ends.now in
    let said = says c.new-agents.result _ _ _ c.new-agents.ensures c.from.ensures in
    let is = json-end-parts ends.agents ends.more c.new-agents.result c.json_end.result.now said c.json_end.ensures ends.listed in
    rw c.if-json.true (breaks_as g.W.Write.contents _ _ c.put_ended.result _ _ is c.put_ended.ensures.err)
