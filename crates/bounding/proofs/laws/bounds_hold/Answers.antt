use Rattle.bounding.proofs.BoundLemmas.{bounds_all}
use Rattle.bounding.proofs.laws.bounds_hold.Goals as goal

pub returns : goal.returns
returns c = bounds_all
