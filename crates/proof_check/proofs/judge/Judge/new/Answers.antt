use Rattle.std.proofs.Common.{◌∷◌, ◌++◌, ◌+◌, [], subst, sym, take}
use Rattle.proof_check.specs.Code.Trails.{AreTables}
use Rattle.proof_check.proofs.TrailLemmas.{tables_next}
use Rattle.proof_check.proofs.judge.Judge.new.Goals as goal

pub loop-own-preserved : goal.loop-own-preserved
loop-own-preserved c =
    let m = c.args.legal.now in
    let ends = c.deref-own-items.result.now in
    let i = c.loop-own.own-index in
    subst (AreTables m (take (i + 1) ends)) (sym c.in_ok-add_table.ensures)
    (subst (λ t. AreTables m (take (i + 1) ends) (c.loop-own.tables.items ++ t ∷ [])) (sym c.in_ok-table.ensures)
    (tables_next m ends c.loop-own.tables.items i _ c.loop-own-test.true c.loop-own.invariant))
