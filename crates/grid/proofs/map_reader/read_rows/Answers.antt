-- Each turn takes one row more.
use Rattle.std.proofs.Common.{◌≡◌, ◌+◌, [], ◌∷◌, ◌++◌, min, refl, sym, ap, subst, ◌∙◌, inl, arith, length-append}
use Rattle.std.proofs.lemmas.Result.{err_from_is_err_and}
use Rattle.text_io.specs.Counted.{greatest}
use Rattle.grid.specs.Code.Following.{HaveRows}
use Rattle.text_io.specs.Laws.Taking.{Takes-same}
use Rattle.grid.proofs.RowsTaken.{rows_stop, TakesRows-push}
use Rattle.grid.proofs.map_reader.read_rows.Goals as goal

pub loop-row-init : goal.loop-row-init
loop-row-init g c = ([], tt, c.in_ok-characters.ensures.items, refl, inl (Takes-same g.R.Read.remaining _), c.requires.well)

pub returns-in_err-characters : goal.returns-in_err-characters
returns-in_err-characters g c =
    let p = err_from_is_err_and c.from_residual.result c.from_residual.ensures.1 in
    rw (p.1, p.2) (record { text = []; taken = Takes-same g.R.Read.remaining _; well = c.requires.well })

pub returns-in_err-read_row : goal.returns-in_err-read_row
returns-in_err-read_row g c =
    let p = err_from_is_err_and c.from_residual-in_err-read_row.result c.from_residual-in_err-read_row.ensures.1 in
    let inv = c.loop-row.invariant in
    let row = c.from.ensures in
    let below = c.loop-row-test.true in
    let limit = c.requires.size.height_limit in
    let number : c.from.result + 5 ≡ min (4 + c.loop-row.row + 1) greatest = omega arith in
    rw (p.1, p.2) (rows_stop g.R.Read.remaining _ _ _ c.args.width c.args.height c.loop-row.row 4 (4 + c.loop-row.row) c.loop-row.characters.items inv.0
    c.in_err-read_row.field-0.0 inv.1 inv.2 inv.4 inv.5 inv.3 below refl (λ rows. c.in_err-read_row.ensures rows (4 + c.loop-row.row) number))

pub loop-row-preserved : goal.loop-row-preserved
loop-row-preserved g c =
    let inv = c.loop-row.invariant in
    let next = c.in_ok-read_row.ensures.2 in
    let more = TakesRows-push g.R.Read.remaining _ _ _ c.args.width c.loop-row.characters.items c.in_ok-read_row.ensures.0 inv.0 inv.1 inv.2 inv.4 next in (
      inv.0 ++ next.line ∷ [],
      more.0,
      subst (λ l. HaveRows c.args.width l (inv.0 ++ next.line ∷ [])) (sym c.in_ok-read_row.ensures.1) more.1,
      length-append inv.0 (next.line ∷ []) ∙ ap (λ n. n + 1) inv.3,
      more.2,
      next.well,
    )
