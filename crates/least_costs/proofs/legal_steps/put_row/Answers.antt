-- One cell more.
use Rattle.std.proofs.Common.{◌≡◌, ◌∙◌, ◌+◌, ◌*◌, ◌<◌, ◌++◌, ◌∷◌, [], length, arith, sym, ap, subst}
use Rattle.std.proofs.lemmas.List.{length-append}
use Rattle.grid.specs.declared.cell.Cell.{Cell}
use Rattle.least_costs.specs.Code.Ways.{AreAllWays}
use Rattle.least_costs.proofs.LegalLemmas.{legal_more}
use Rattle.least_costs.proofs.legal_steps.put_row.Goals as goal

pub loop-column-preserved : goal.loop-column-preserved
loop-column-preserved c =
    let m = c.args.map.now in
    let all = c.loop-column.ways.items in
    let ways = c.ways_of.result in
    let cell : Cell = record { x = c.loop-column.column; y = c.args.row } in
    let grown : c.push.new.self.items ≡ all ++ ways ∷ [] = c.in_ok-push.ensures.items in
    let within : c.loop-column.column < m.width = omega (arith, c.loop-column-test.true, c.width-column-end.ensures.width) in
    let count : length (all ++ ways ∷ []) ≡ c.args.row * m.width + (c.loop-column.column + 1) = omega (arith, c.loop-column.invariant.0, length-append all (ways ∷ [])) in
    (ap length grown ∙ count, subst (AreAllWays m) (sym grown) (legal_more m all cell ways c.loop-column.invariant.1 c.loop-column.invariant.0 within c.ways_of.ensures))
