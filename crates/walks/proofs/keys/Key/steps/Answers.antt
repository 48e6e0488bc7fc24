-- The number is that of a length, and a step more makes another one.
use Rattle.std.proofs.Common.{◌*◌, ◌<◌, arith}
use Rattle.walks.proofs.KeyNumbers.{straight_step, diagonal_step}
use Rattle.walks.proofs.keys.Key.steps.Goals as goal

pub invariant_of-straight : goal.invariant_of-straight
invariant_of-straight c =
    let v = c.args.self.value in
    let small : v < 4194304 * 6625109 = omega arith in
    record { limit = omega (arith, small); of_length = λ some less. straight_step v (c.args.self.of_length (omega arith) (omega (arith, small))) small }

pub invariant_of-diagonal : goal.invariant_of-diagonal
invariant_of-diagonal c =
    let v = c.args.self.value in
    let small : v < 4194304 * 6625109 = omega arith in
    record { limit = omega (arith, small); of_length = λ some less. diagonal_step v (c.args.self.of_length (omega arith) (omega (arith, small))) small }
