-- The parts so far were read.
use Rattle.std.proofs.Common.{◌≡◌, ℕ, List, ◌++◌, length}
use Rattle.proof_text.specs.Code.NodeParts.{AreRead}
use Rattle.proof_text.proofs.PartLemmas.{split}
use Rattle.proof_text.proofs.numbers.Numbers.from_bytes.Given as goal

abbrev pub invariant-parts : goal.invariant-parts
invariant-parts l = (before : List (List ℕ)) × AreRead l.numbers before × (split l.fn.bytes ≡ before ++ split l.rest)

abbrev pub decreases-parts : goal.decreases-parts
decreases-parts l = length (split l.rest)
