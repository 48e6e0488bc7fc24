-- A byte ends a blank line, goes on with it, or is a fault.
use Rattle.std.proofs.Common.{[], ◌∷◌, ◌++◌, refl, sym, ◌∙◌}
use Rattle.text_io.specs.Text.{line_feed}
use Rattle.text_io.specs.Laws.Taking.{Takes-same, IsAtEnd-from, has_failed-from, Takes-byte}
use Rattle.grid.proofs.RowTaken.{number_is}
use Rattle.grid.proofs.RestTaken.{blank_push, blanks_push, number_after-next, rest_line, rest_byte, rest_fault, rest_failed, rest_right}
use Rattle.grid.proofs.map_reader.read_rest.Goals as goal

pub loop-number-init : goal.loop-number-init
loop-number-init g c = ([], [], tt, refl, Takes-same g.R.Read.remaining _, number_is c.args.first)

pub loop-number-preserved-in-Ok-eq10 : goal.loop-number-preserved-in-Ok-eq10
loop-number-preserved-in-Ok-eq10 g c =
    let inv = c.loop-number.invariant in
    let feed = Takes-byte g.R.Read.remaining _ _ _ line_feed c.in-Ok-eq10.field-0-test c.in-Ok-eq10.ensures.0 in (
      inv.0 ++ inv.1 ∷ [],
      [],
      blanks_push inv.0 inv.1 inv.2 inv.3,
      refl,
      rest_line g.R.Read.remaining _ _ _ inv.0 inv.1 inv.2 inv.3 inv.4 feed,
      λ skipped e. number_after-next skipped c.loop-number.number _ inv.0 inv.1 (inv.5 skipped e) c.saturating_add-number.ensures,
    )

pub returns-then-not-is_rest_byte : goal.returns-then-not-is_rest_byte
returns-then-not-is_rest_byte g c = λ skipped e.
    let inv = c.loop-number.invariant in
    rest_fault g.R.Read.remaining _ _ _ inv.0 inv.1 inv.2 inv.3 inv.4 c.args.width skipped c.loop-number.number c.in-Ok.b (inv.5 skipped e)
    (sym c.is_rest_byte.ensures ∙ c.if-not-is_rest_byte.true) c.in-Ok.b-test.1 c.in-Ok.ensures.1 c.in-Ok.ensures.0

pub loop-number-preserved : goal.loop-number-preserved
loop-number-preserved g c =
    let inv = c.loop-number.invariant in (
      inv.0,
      inv.1 ++ c.in-Ok.b ∷ [],
      inv.2,
      blank_push inv.1 c.in-Ok.b inv.3 (sym c.is_rest_byte.ensures ∙ c.if-not-is_rest_byte.false),
      rest_byte g.R.Read.remaining _ _ _ inv.0 inv.1 inv.2 inv.3 inv.4 c.in-Ok.b c.in-Ok.ensures.0,
      inv.5,
    )

pub returns-in-Err-End : goal.returns-in-Err-End
returns-in-Err-End g c =
    let inv = c.loop-number.invariant in
    let end = IsAtEnd-from g.R.Read.remaining _ _ _ c.in-Err-End.field-0-is c.in-Err-End.ensures in
    let right = rest_right g.R.Read.remaining _ _ _ inv.0 inv.1 inv.2 inv.3 inv.4 c.args.width c.in-Err-End.ensures.0 end in
    (end, right.0, right.1)

pub returns-in-Err-Failure : goal.returns-in-Err-Failure
returns-in-Err-Failure g c = λ skipped e.
    let inv = c.loop-number.invariant in
    rest_failed g.R.Read.remaining _ _ _ inv.0 inv.1 inv.2 inv.3 inv.4 c.args.width c.in-Err-Failure.ensures.0
    (has_failed-from g.R.Read.remaining _ _ _ c.in-Err-Failure.field-0-is c.in-Err-Failure.ensures)
