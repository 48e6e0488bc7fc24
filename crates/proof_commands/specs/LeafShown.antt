-- What is shown of a leaf for which a proof is refused.
use Rattle.std.specs.Prelude.{ℕ, List, Option}
use Rattle.text_io.specs.declared.counted.Counted.{Counted}
use Rattle.text_io.specs.Counted.{counted_inner}
use Rattle.grid.specs.Map.{Grid}
use Rattle.checker.specs.Checking.{Checked}
use Rattle.proof_check.specs.Leaf.{ShowsLeaf}
use Rattle.proof_check.specs.declared.leaf.LowLeaf.{LowLeaf}
use Rattle.proof_commands.specs.OptimalCommand.{ReadsPlanOnMap, ends_in}

-- a map was read, and a plan that is valid on it, and then a proof for such plans up to the line
-- with this number, where the leaf is due
abbrev pub ReadsLeaf
    : {M P F : Type 0} → (M → Option (List ℕ)) → (P → Option (List ℕ)) → (F → Option (List ℕ))
    → (number : ℕ) → Counted M → Counted M → Counted P → Counted P
    → Counted F → Counted F → LowLeaf → Type 0
ReadsLeaf map_left plan_left proof_left number old_map new_map old_plan new_plan old_proof
    new_proof leaf =
    (m : Grid) × (c : Checked)
    × ReadsPlanOnMap map_left plan_left old_map new_map old_plan new_plan m c
    × ShowsLeaf m (ends_in c) number (proof_left (counted_inner old_proof))
    (proof_left (counted_inner new_proof)) leaf
