-- Each turn puts the next piece of the cells that are left.
use Rattle.std.proofs.Common.{ap, arith, refl, rules, subst, ◌∙◌}
use Rattle.std.specs.Slice.Iter.{chunks_rest}
use Rattle.std.proofs.lemmas.List.{nil_from_length}
use Rattle.std.proofs.lemmas.Result.{err_from_is_err_and}
use Rattle.text_io.specs.Sink.{Leaves}
use Rattle.text_io.specs.Laws.Putting.{Leaves-all, Leaves-less, Leaves-none, Leaves-broken}
use Rattle.plan_commands.proofs.CellLemmas.{text_of, text-append}
use Rattle.plan_commands.proofs.cell_text.put_cells.Goals as goal

pub loop-piece-init : goal.loop-piece-init
loop-piece-init g c = (search rules, tt, search rules, Leaves-all g.W.Write.contents _ _ _ (search rules))

pub put_piece-requires-clause-cells : goal.put_piece-requires-clause-cells
put_piece-requires-clause-cells g c =
    let steps = c.in-Some.ensures.steps in
    let size = c.loop-piece.invariant.2 in
    let count = rw size at steps.1.1 in
    omega (arith, count)

pub returns-in_err-put_piece-clause-err : goal.returns-in_err-put_piece-clause-err
returns-in_err-put_piece-clause-err g c =
    let p = err_from_is_err_and c.from_residual.result c.from_residual.ensures.1 in
    let piece = c.in-Some.piece.now in
    let rest = chunks_rest c.next.new.self in
    let left = subst (Leaves g.W.Write.contents _ _ _) (ap text_of c.in-Some.ensures.steps.1.0 ∙ text-append piece rest) c.loop-piece.invariant.3 in
    rw p.1 (Leaves-broken g.W.Write.contents _ _ _ _ (text_of piece) (text_of rest) _ left refl c.in_err-put_piece.ensures.err)

pub loop-piece-preserved : goal.loop-piece-preserved
loop-piece-preserved g c =
    let steps = c.in-Some.ensures.steps in
    let piece = c.in-Some.piece.now in
    let rest = chunks_rest c.next.new.self in
    let left = subst (Leaves g.W.Write.contents _ _ _) (ap text_of steps.1.0 ∙ text-append piece rest) c.loop-piece.invariant.3 in (
      search rules,
      tt,
      steps.0 ∙ c.loop-piece.invariant.2,
      Leaves-less g.W.Write.contents _ _ _ _ (text_of piece) (text_of rest) _ left refl c.in_ok-put_piece.ensures.ok,
    )

pub returns-clause-ok : goal.returns-clause-ok
returns-clause-ok g c =
    let first = c.args.sink.now in
    let now = c.loop-piece.sink in
    let text = text_of c.args.cells.now in
    let none = nil_from_length _ c.in-None.ensures.steps.1.0 in
    Leaves-none g.W.Write.contents first now text (subst (λ l. Leaves g.W.Write.contents first now text (text_of l)) none c.loop-piece.invariant.3)
