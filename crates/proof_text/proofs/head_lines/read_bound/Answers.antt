use Rattle.std.proofs.Common.{◌≡◌, ◌^◌, ◌++◌, sym, codes}
use Rattle.text_io.specs.Laws.Numerals.{below-says}
use Rattle.text_io.specs.Laws.Parts.{prefixed}
use Rattle.proof_text.proofs.head_lines.read_bound.Goals as goal

pub returns-in-Some-small_numeral : goal.returns-in-Some-small_numeral
returns-in-Some-small_numeral c =
    let digits = c.in-Some.digits.now in
    let is : c.args.line.now ≡ codes "bound " ++ digits =
    prefixed (codes "bound ") c.args.line.now digits c.in-Some.ensures.cases.0 c.in-Some.ensures.cases.1 in
    let says = below-says (2 ^ 32) c.in-Some-small_numeral.bound digits (sym c.in-Some-small_numeral.ensures) in
    ((digits, is, says.0), says.1)
