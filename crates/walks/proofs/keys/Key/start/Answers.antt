use Rattle.std.proofs.Common.{arith}
use Rattle.walks.proofs.KeyNumbers.{key_of_parts}
use Rattle.walks.proofs.keys.Key.start.Goals as goal

pub invariant_of-result : goal.invariant_of-result
invariant_of-result c = record { limit = omega arith; of_length = λ some less. key_of_parts 0 0 (omega arith) (omega arith) }
