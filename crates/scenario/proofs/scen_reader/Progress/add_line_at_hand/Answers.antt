-- What stands before the first LF at hand is the line.
use Rattle.std.proofs.Common.{Some, take, refl, sym, subst, ◌∙◌}
use Rattle.std.proofs.lemmas.Result.{err_from_is_err_and}
use Rattle.memchr.specs.Find.{IsFirstByte, is_byte}
use Rattle.text_io.specs.Source.{at_hand, Takes}
use Rattle.text_io.specs.Text.{line_feed, IsLine}
use Rattle.scenario.specs.Code.Parsing.{due_after, Adds, RefusesLine}
use Rattle.scenario.proofs.AtHandLemmas.{first_feed, line_and_feed}
use Rattle.scenario.proofs.scen_reader.Progress.add_line_at_hand.Goals as goal

pub add_line-requires-clause-line : goal.add_line-requires-clause-line
add_line-requires-clause-line g c =
    let found = c.in-Some.ensures in
    let begins = first_feed c.at_hand.result.now c.in-Some.count found.0 found.1 in
    subst (λ bytes. IsLine (take c.in-Some.count bytes)) (c.at_hand.ensures ∙ sym c.at_hand-in-Some.ensures) begins.2

pub returns-in_err-add_line-in-Some : goal.returns-in_err-add_line-in-Some
returns-in_err-add_line-in-Some g c =
    let p = err_from_is_err_and c.from_residual.result c.from_residual.ensures.1 in
    let count = c.in-Some.count in
    let bytes = at_hand c.args.source.now in
    let found = subst (λ xs. IsFirstByte (is_byte line_feed) xs (Some count)) c.at_hand.ensures c.in-Some.ensures in
    let refuses = subst (λ xs. RefusesLine (due_after c.args.self.now.has_version) c.args.number (take count xs) c.in_err-add_line-in-Some.field-0.0)
    c.at_hand-in-Some.ensures c.in_err-add_line-in-Some.ensures in
    rw (p.1, p.2) (refl, (take count bytes, first_feed bytes count found.0 found.1, refuses))

pub returns-in_ok-add_line-in-Some : goal.returns-in_ok-add_line-in-Some
returns-in_ok-add_line-in-Some g c =
    let count = c.in-Some.count in
    let bytes = at_hand c.args.source.now in
    let found = subst (λ xs. IsFirstByte (is_byte line_feed) xs (Some count)) c.at_hand.ensures c.in-Some.ensures in
    let takes = subst (Takes g.R.Read.remaining c.args.source.now c.take.new.self) (line_and_feed bytes count found.0.high found.1) c.take.ensures.takes in
    let adds = subst (λ xs. Adds c.args.self.now.has_version c.add_line.new.self.has_version c.args.self.now.rows.items c.add_line.new.self.rows.items (take count xs))
    c.at_hand-in-Some.ensures c.in_ok-add_line-in-Some.ensures in
    (take count bytes, takes, c.take.ensures.stop, (first_feed bytes count found.0 found.1).2, adds)
