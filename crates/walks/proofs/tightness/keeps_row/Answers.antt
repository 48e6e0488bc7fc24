-- It goes on telling of one block more.
use Rattle.walks.proofs.TightTables.{rows_next}
use Rattle.walks.proofs.tightness.keeps_row.Goals as goal

pub loop-i-preserved : goal.loop-i-preserved
loop-i-preserved c =
    rows_next c.loop-i.i c.args.upper.now c.args.lower.now c.at.result c.at-in-loop-i.result c.at-in-loop-i-2.result c.at-in-loop-i-3.result
    c.at.ensures c.at-in-loop-i.ensures c.at-in-loop-i-2.ensures c.at-in-loop-i-3.ensures
    c.loop-i.keeps c.keeps_block-keeps.result c.loop-i.invariant c.keeps_block-keeps.ensures
