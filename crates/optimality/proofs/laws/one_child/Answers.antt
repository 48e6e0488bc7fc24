use Rattle.optimality.proofs.SplittingLemmas.{one_child}
use Rattle.optimality.proofs.laws.one_child.Goals as goal

pub returns : goal.returns
returns c = one_child
