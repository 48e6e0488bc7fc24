use Rattle.std.proofs.Common.{◌≡◌, ◌<◌, ◌++◌, inr, refl, arith, codes}
use Rattle.plan_text.specs.Limits.{most_agents}
use Rattle.text_io.specs.Numerals.{numeral_value}
use Rattle.text_io.specs.Laws.Numerals.{IsNumeral-from_test}
use Rattle.text_io.specs.Laws.Parts.{prefixed}
use Rattle.plan_text.proofs.header_lines.read_agents.Goals as goal

pub returns-then-agents : goal.returns-then-agents
returns-then-agents c =
    let digits = c.in-Some.digits.now in
    let is : c.args.line.now ≡ codes "agents " ++ digits =
    prefixed (codes "agents ") c.args.line.now digits c.in-Some.ensures.cases.0 c.in-Some.ensures.cases.1 in
    let numeral = c.in-Some-saturated_numeral.ensures in
    let many : most_agents < numeral_value digits = omega (arith, numeral.1) in
    (refl, inr (record { ended = refl; short = c.requires }, (numeral_value digits, (digits, is, IsNumeral-from_test digits numeral.0), many)))
