use Rattle.std.proofs.Common.{[], ◌++◌}
use Rattle.fleet.proofs.AheadLemmas.{within-behind}
use Rattle.fleet.proofs.laws.turning.Goals as goal

pub returns : goal.returns
returns c map cut old new left before last earlier later mid states limits valid goes_old goes_new is_left is_before is_last first stopped within more looks =
    c.ahead_of_tapes.ensures.of_plans map new last (later ++ earlier) states limits valid is_last
    (c.taking_back.ensures cut old new left before last earlier later mid states goes_old goes_new is_left is_before is_last first within more)
    (within-behind last [] later earlier stopped looks)
