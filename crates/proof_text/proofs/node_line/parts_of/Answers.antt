-- Why the line has no form of a node that splits.
use Rattle.proof_text.proofs.PartLemmas.{split, first_cut, no_word}
use Rattle.proof_text.proofs.node_line.parts_of.Goals as goal

pub returns-in_err-form : goal.returns-in_err-form
returns-in_err-form c =
    let first = first_cut c.first_part.result.1 (λ r. split r.now) c.first_part.result.0.now (split c.args.line.now) c.first_part.ensures in
    rw c.from_residual.ensures
    (λ other parts has. no_word c.args.line.now c.first_part.result.0.now first.0 first.1 c.in_err-form.ensures other parts has)
