-- Each byte is one more of the line, and one more step.
use Rattle.std.proofs.Common.{[], ◌∷◌, ◌++◌, refl, sym, ap, ◌∙◌, inl, inr}
use Rattle.std.proofs.lemmas.Grind.{fold-append}
use Rattle.grid.specs.declared.header_line.Progress.TheVariants.{Word}
use Rattle.text_io.specs.Text.{line_feed}
use Rattle.grid.specs.Code.HeaderLine.{header_step, saying_at}
use Rattle.text_io.specs.Laws.Taking.{Takes-same, Takes-trans, Takes-then_none, IsLine-push, IsAtEnd-from, has_failed-from, Takes-byte}
use Rattle.grid.proofs.map_reader.read_header_line.Goals as goal

pub loop-b-init : goal.loop-b-init
loop-b-init g c = ([], refl, Takes-same g.R.Read.remaining _, refl)

pub returns-in-Ok-eq10 : goal.returns-in-Ok-eq10
returns-in-Ok-eq10 g c =
    let inv = c.loop-b.invariant in
    let feed = Takes-byte g.R.Read.remaining _ _ _ line_feed c.in-Ok-eq10.field-0-test c.in-Ok-eq10.ensures.0 in
    (inv.0, (inv.1, inl (Takes-trans g.R.Read.remaining _ _ _ inv.0 _ inv.2 feed, c.in-Ok-eq10.ensures.1)), c.saying.ensures ∙ ap (saying_at c.args.line) inv.3)

pub loop-b-preserved : goal.loop-b-preserved
loop-b-preserved g c =
    let inv = c.loop-b.invariant in (
      inv.0 ++ c.in-Ok.b ∷ [],
      IsLine-push inv.0 c.in-Ok.b inv.1 c.in-Ok.b-test.1,
      Takes-trans g.R.Read.remaining _ _ _ inv.0 _ inv.2 c.in-Ok.ensures.0,
      c.step-progress.ensures ∙ ap (λ p. header_step c.args.line p c.in-Ok.b) inv.3 ∙ sym (fold-append (header_step c.args.line) (Word 0) inv.0 (c.in-Ok.b ∷ [])),
    )

pub returns-in-Err-End : goal.returns-in-Err-End
returns-in-Err-End g c =
    let inv = c.loop-b.invariant in (
      inv.0,
      (inv.1, inr (Takes-then_none g.R.Read.remaining _ _ _ inv.0 inv.2 c.in-Err-End.ensures.0, IsAtEnd-from g.R.Read.remaining _ _ _ c.in-Err-End.field-0-is c.in-Err-End.ensures)),
      c.saying-in-Err-End.ensures ∙ ap (saying_at c.args.line) inv.3,
    )

pub returns-in-Err-Failure : goal.returns-in-Err-Failure
returns-in-Err-Failure g c =
    let inv = c.loop-b.invariant in (
      refl,
      (
        inv.0,
        inv.1,
        Takes-then_none g.R.Read.remaining _ _ _ inv.0 inv.2 c.in-Err-Failure.ensures.0,
        has_failed-from g.R.Read.remaining _ _ _ c.in-Err-Failure.field-0-is c.in-Err-Failure.ensures,
      ),
    )
