use Rattle.proof_text.proofs.ClaimLemmas.{bound_holds}
use Rattle.proof_text.proofs.laws.proofs_hold.Goals as goal

pub returns : goal.returns
returns c = λ m ends claim text h.
    bound_holds c.trees.ensures.root c.trees.ensures.split c.trees.ensures.leaf m ends c.trees.ensures.whole claim text h
