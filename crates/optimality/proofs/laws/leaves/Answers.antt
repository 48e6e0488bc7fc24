use Rattle.optimality.proofs.CoverLemmas.{not_both, one_low}
use Rattle.optimality.proofs.laws.leaves.Goals as goal

pub returns : goal.returns
returns c = record { not_both = not_both; one = one_low }
