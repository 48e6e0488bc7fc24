use Rattle.text_io.specs.Reading.{by_line_feed}
use Rattle.proof_text.proofs.ClaimLemmas.{says_no_fault, says_once}
use Rattle.proof_text.proofs.laws.one_claim.Goals as goal

pub returns-clause-one : goal.returns-clause-one
returns-clause-one c m ends claim other text h k = says_once m ends c.places.ensures.one_cut claim other text h k

pub returns-clause-never_both : goal.returns-clause-never_both
returns-clause-never_both c m ends claim fault text h k =
    says_no_fault m ends (c.places.ensures.stands by_line_feed) (c.places.ensures.last by_line_feed) c.places.ensures.one_cut
    c.leaves.ensures.not_both claim fault text h k
