use Rattle.walks.proofs.TightTables.{no_grounds}
use Rattle.walks.proofs.tightness.Corners.blocked.Goals as goal

pub returns : goal.returns
returns c = no_grounds 65
