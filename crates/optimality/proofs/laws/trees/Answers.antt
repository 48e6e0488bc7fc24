use Rattle.optimality.proofs.CoverLemmas.{at_root, leaf, split, whole}
use Rattle.optimality.proofs.laws.trees.Goals as goal

pub returns : goal.returns
returns c = record { root = at_root; split = split c.timetables.ensures.conflict_free c.timetables.ensures.swap_free; leaf = leaf; whole = whole }
