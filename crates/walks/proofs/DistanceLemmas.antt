-- What stands for the keys that were not found is tight by itself.
use Rattle.std.proofs.Common.{◌≡◌, ℕ, ◌+◌, ◌-◌, ◌≤◌, Some, None, arith}
use Rattle.std.specs.Prelude.{Option, max}
use Rattle.grid.specs.declared.cell.Cell.{Cell}
use Rattle.walks.specs.declared.beyond.Beyond.{Beyond}
use Rattle.walks.specs.Code.Distances.{distance, number_toward, beyond_number}
use Rattle.walks.specs.Code.Tightness.{AreWithinStep}
use Rattle.walks.specs.Laws.OctileSteps.{AreBeside, distance_back, distance_step}

toward_near : (goal : Option Cell) (n step x y i j : ℕ) → AreBeside step x y i j → AreWithinStep step (number_toward goal n x y) (number_toward goal n i j)
toward_near None n step x y i j beside = (omega arith, omega arith)
toward_near (Some goal) n step x y i j beside =
    let there = distance_step goal step x y i j beside in
    let back = distance_back goal step x y i j beside in
    near_from n step (distance goal x y) (distance goal i j) there back where
      near_from : (n step d e : ℕ) → d ≤ e + step → e ≤ d + step → AreWithinStep step (max (n - d) 6625109) (max (n - e) 6625109)
      near_from n step d e h k = (omega (arith, h, k), omega (arith, h, k))

-- what stands for the keys that were not found is tight by itself
pub beyond_near : (b : Option Beyond) (step x y i j : ℕ) → AreBeside step x y i j → AreWithinStep step (beyond_number b x y) (beyond_number b i j)
beyond_near None step x y i j beside = (omega arith, omega arith)
beyond_near (Some b) step x y i j beside = toward_near b.goal b.number step x y i j beside
