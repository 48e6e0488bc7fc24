use Rattle.std.proofs.Common.{◌+◌, ◌∷◌, take, sym, ap, ◌∙◌}
use Rattle.std.proofs.lemmas.List.{take_rest}
use Rattle.proof_text.proofs.PartLemmas.{split, split-none, split-some}
use Rattle.proof_text.proofs.numbers.first_part.Goals as goal

pub returns-in-None : goal.returns-in-None
returns-in-None c = split-none c.args.bytes.now c.in-None.ensures

pub returns-in-Some : goal.returns-in-Some
returns-in-Some c =
    let bytes = c.args.bytes.now in
    let place = c.in-Some.place in
    split-some bytes place c.in-Some.ensures.0 c.in-Some.ensures.1
    ∙ ap (λ xs. take place bytes ∷ split xs) (sym (take_rest bytes (place + 1)))
