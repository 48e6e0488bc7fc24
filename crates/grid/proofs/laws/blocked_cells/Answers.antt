-- Cells of a map have one place each.
use Rattle.grid.proofs.BlockLemmas.{others-stay}
use Rattle.grid.proofs.laws.blocked_cells.Goals as goal

pub returns-clause-others : goal.returns-clause-others
returns-clause-others c m blocked cell other is_map is apart = others-stay m blocked cell other is apart
