use Rattle.std.proofs.Common.{refl}
use Rattle.scenario.proofs.laws.comparison_of_lengths.Goals as goal
use Rattle.scenario.specs.Code.Comparison.{parts_cmp}
use Rattle.scenario.specs.Code.ComparisonLaws.{answers_Less, answers_Equal, answers_Greater}

pub returns-clause-less : goal.returns-clause-less
returns-clause-less c = λ a b c d. answers_Less a b c d (parts_cmp a b c d) refl

pub returns-clause-equal : goal.returns-clause-equal
returns-clause-equal c = λ a b c d. answers_Equal a b c d (parts_cmp a b c d) refl

pub returns-clause-greater : goal.returns-clause-greater
returns-clause-greater c = λ a b c d. answers_Greater a b c d (parts_cmp a b c d) refl
