use Rattle.std.proofs.Common.{◌+◌, ◌∷◌, take, sym, ap, ◌∙◌}
use Rattle.std.proofs.lemmas.List.{take_rest}
use Rattle.plan_text.proofs.PartLemmas.{split, split-none, split-some}
use Rattle.plan_text.proofs.agent_line.cut.Goals as goal

pub returns-in_err-place : goal.returns-in_err-place
returns-in_err-place c = rw c.from_residual.ensures (split-none c.args.bytes.now c.in_err-place.ensures)

pub returns : goal.returns
returns c =
    let bytes = c.args.bytes.now in
    let place = c.in_ok-place.place in
    split-some bytes place c.in_ok-place.ensures.0 c.in_ok-place.ensures.1
    ∙ ap (λ xs. take place bytes ∷ split xs) (sym (take_rest bytes (place + 1)))
