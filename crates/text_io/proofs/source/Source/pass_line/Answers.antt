-- Each part and each byte is one more of the line; then comes what ends it.
use Rattle.std.proofs.Common.{ap, ◌∙◌, arith}
use Rattle.std.specs.List.{prefix_len}
use Rattle.std.proofs.lemmas.List.Sums.{prefix_len-le-length}
use Rattle.text_io.specs.Text.{line_feed, is_line_byte}
use Rattle.text_io.specs.Laws.Taking.{Takes-byte}
use Rattle.text_io.proofs.LineTaking.{HasPassed-none, HasPassed-part, HasPassed-byte, line_passed, line_not_passed}
use Rattle.text_io.proofs.source.Source.pass_line.Goals as goal

pub parts-init : goal.parts-init
parts-init g c = HasPassed-none g.R.Read.remaining _

pub take-requires : goal.take-requires
take-requires g c =
    let within = prefix_len-le-length is_line_byte c.at_hand.result.now in
    (omega (arith, c.parts.self.few), rw (← c.at_hand.ensures) (rw c.line_len-count.ensures within))

pub returns-in-Ok-eq10-clause-passed : goal.returns-in-Ok-eq10-clause-passed
returns-in-Ok-eq10-clause-passed g c = λ first before front h.
    let part = HasPassed-part g.R.Read.remaining _ c.parts.self c.take.new.self c.line_len-count.result c.parts.invariant
    (c.line_len-count.ensures ∙ ap (prefix_len is_line_byte) c.at_hand.ensures) c.take.ensures.takes in
    let feed = Takes-byte g.R.Read.remaining _ _ _ line_feed c.in-Ok-eq10.field-0-test c.in-Ok-eq10.ensures.0 in
    line_passed g.R.Read.remaining first _ _ _ before front part feed c.in-Ok-eq10.ensures.1 h

pub parts-preserved : goal.parts-preserved
parts-preserved g c =
    let part = HasPassed-part g.R.Read.remaining _ c.parts.self c.take.new.self c.line_len-count.result c.parts.invariant
    (c.line_len-count.ensures ∙ ap (prefix_len is_line_byte) c.at_hand.ensures) c.take.ensures.takes in
    HasPassed-byte g.R.Read.remaining _ _ _ c.in-Ok.field-0 part c.in-Ok.field-0-test.1 c.in-Ok.ensures.0

pub returns-in-Err-clause-passed : goal.returns-in-Err-clause-passed
returns-in-Err-clause-passed g c = λ first before front h.
    let part = HasPassed-part g.R.Read.remaining _ c.parts.self c.take.new.self c.line_len-count.result c.parts.invariant
    (c.line_len-count.ensures ∙ ap (prefix_len is_line_byte) c.at_hand.ensures) c.take.ensures.takes in
    line_not_passed g.R.Read.remaining first _ _ _ before front c.in-Err.stop part c.in-Err.ensures h
