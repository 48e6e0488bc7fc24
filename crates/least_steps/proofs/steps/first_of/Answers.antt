-- The place of the lowest bit that is 1.
use Rattle.std.proofs.Common.{w8}
use Rattle.std.proofs.lemmas.Nat.Bits.{bit_at-trailing_zeros}
use Rattle.least_steps.proofs.steps.first_of.Goals as goal

pub returns-clause-there : goal.returns-clause-there
returns-clause-there c = let some = c.requires in (bit_at-trailing_zeros w8 c.args.steps some c.ranges.steps.fits).1
