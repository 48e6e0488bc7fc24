use Rattle.std.proofs.Common.{◌∙◌, ap, sym, ◌++◌}
use Rattle.std.proofs.lemmas.Result.{on_ok_weaker}
use Rattle.agent.proofs.TellLemmas.{entries_told}
use Rattle.agent.proofs.telling.put_told.Goals as goal

pub returns-else-is_err-clause-put : goal.returns-else-is_err-clause-put
returns-else-is_err-clause-put c =
    on_ok_weaker c.put_parts-put.result (λ put agents less within. put ∙ ap (λ l. c.args.entries.now.items ++ l)
    (sym (entries_told agents c.args.from c.args.done c.args.counters.now _ _ c.around.ensures less within)))
    c.put_parts-put.ensures.put
