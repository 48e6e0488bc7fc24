-- One cell more, with the next number.
use Rattle.std.proofs.Common.{◌≡◌, ◌∷◌, ◌++◌, [], length, map, take, arith, sym, ap, ◌∙◌}
use Rattle.std.specs.List.{range_with_len}
use Rattle.std.proofs.lemmas.List.{take_more}
use Rattle.std.proofs.lemmas.List.FromFn.{map-range_with_len_more}
use Rattle.depgraph.specs.Code.Numbers.{no_cell, cells_by}
use Rattle.depgraph.proofs.NumberLemmas.{length-cells_by}
use Rattle.depgraph.proofs.ShareLemmas.{same-cells}
use Rattle.depgraph.proofs.part.numbered_anew.Goals as goal

pub loop-index-preserved : goal.loop-index-preserved
loop-index-preserved c =
    let cells = cells_by c.args.names.now c.args.numbers.now in
    let at = c.loop-index.index in
    let less = c.loop-index-test.true in
    let long = length-cells_by c.args.names.now c.args.numbers.now in record {
      cells = c.in_ok-push.ensures.items ∙ ap (λ l. l ++ c.cell_at.result ∷ []) c.loop-index.invariant.cells ∙ ap (λ x. take at cells ++ x ∷ []) c.cell_at.ensures
          ∙ sym (take_more cells at no_cell (omega (arith, less, long)));
      numbers = c.in_ok-push-2.ensures.items ∙ ap (λ l. l ++ at ∷ []) c.loop-index.invariant.numbers ∙ sym (map-range_with_len_more (λ n. n) 0 at at (omega arith));
    }

pub returns-clause-same : goal.returns-clause-same
returns-clause-same c =
    let past = c.loop-index-test.false in
    let most = c.loop-index.auto.index-end in
    let all : c.loop-index.index ≡ length c.args.numbers.now = omega (arith, past, most) in
    (same-cells c.args.names.now c.loop-index.cells.items c.args.numbers.now c.loop-index.own_numbers.items
    (c.loop-index.invariant.cells ∙ ap (λ n. take n (cells_by c.args.names.now c.args.numbers.now)) all) (c.loop-index.invariant.numbers ∙ ap (λ n. map (λ k. k) (range_with_len 0 n)) all)).0

pub returns-clause-known : goal.returns-clause-known
returns-clause-known c =
    let past = c.loop-index-test.false in
    let most = c.loop-index.auto.index-end in
    let all : c.loop-index.index ≡ length c.args.numbers.now = omega (arith, past, most) in
    (same-cells c.args.names.now c.loop-index.cells.items c.args.numbers.now c.loop-index.own_numbers.items
    (c.loop-index.invariant.cells ∙ ap (λ n. take n (cells_by c.args.names.now c.args.numbers.now)) all) (c.loop-index.invariant.numbers ∙ ap (λ n. map (λ k. k) (range_with_len 0 n)) all)).1
