-- One digit behind the other.
use Rattle.std.proofs.Common.{◌+◌, ◌/◌, ◌%◌, ◌∷◌, [], ◌++◌, take, ap, ◌∙◌, append_assoc}
use Rattle.text_io.proofs.PairLemmas.{PAIRS_at}
use Rattle.text_io.proofs.digits.write_pair.Goals as goal

pub returns-clause-written : goal.returns-clause-written
returns-clause-written c =
    let digits = PAIRS_at c.args.number c.requires.pair in
    let tens = 48 + c.args.number / 10 in
    let ones = 48 + c.args.number % 10 in
    c.write_byte.ensures.written
    ∙ (ap (λ l. take c.write_byte-next.result c.write_byte-next.new.bytes ++ l ∷ []) digits.1
    ∙ (ap (λ l. l ++ ones ∷ []) (c.write_byte-next.ensures.written ∙ ap (λ l. take c.args.at c.args.bytes.now ++ l ∷ []) digits.0)
    ∙ append_assoc (take c.args.at c.args.bytes.now) (tens ∷ []) (ones ∷ [])))
