-- All steps from a state.
use Rattle.std.proofs.Common.{◌≡◌, ◌∙◌, ℕ, ◌+◌, ◌<◌, Bool, true, inl, inr, sym, subst}
use Rattle.grid.specs.declared.cell.Cell.{Cell}
use Rattle.grid.specs.Map.{IsStraightStep}
use Rattle.model.specs.Costs.{cost}
use Rattle.model.specs.Timetable.{cell_at}
use Rattle.optimality.specs.Walkers.{MayFollow}
use Rattle.least_costs.specs.declared.expand.Beside.{Beside}
use Rattle.least_costs.specs.declared.frontier.Frontier.{Frontier}
use Rattle.least_costs.specs.declared.legal_steps.Ways.{Ways}
use Rattle.least_costs.specs.declared.sides.Sides.{Sides}
use Rattle.least_costs.specs.Code.Searching.{AllGoOn, IsOffered, HasReached, Wanted}
use Rattle.least_costs.specs.Code.Tables.{IsEstimate}
use Rattle.least_costs.specs.Code.Ways.{AreWays}
use Rattle.least_costs.proofs.LegalLemmas.{way_of}
use Rattle.least_costs.proofs.SideLemmas.{AreSides}

-- a step to a cell that was looked at
pub at_side : (w : Wanted) (f : Frontier) (t : ℕ) (u v : Cell) (b : Beside) (open_way : Bool) → b.cell ≡ v → (open_way ≡ true → IsEstimate w.goal v b.steps)
    → (IsEstimate w.goal b.cell b.steps → IsOffered w f t u b.cell) → open_way ≡ true → IsOffered w f t u v
at_side w f t u v b open_way same least goes is =
    subst (λ c. IsOffered w f t u c) same (goes (subst (λ c. IsEstimate w.goal c b.steps) (sym same) (least is)))

-- each step is offered
pub expanded : (w : Wanted) (t : ℕ) (u : Cell) (f : Frontier) (sides : Sides) (ways : Ways) → AreSides u sides → AreWays w.goal.map u ways
    → IsOffered w f t u u → (ways.north ≡ true → IsOffered w f t u sides.north) → (ways.west ≡ true → IsOffered w f t u sides.west)
    → (ways.east ≡ true → IsOffered w f t u sides.east) → (ways.south ≡ true → IsOffered w f t u sides.south)
    → AllGoOn w f u t
expanded w t u f sides ways are legal own north west east south track is before at = by_step (is.walker.steps t)
  where
    by_step : MayFollow w.goal.map (cell_at track t) (cell_at track (t + 1)) → (t + 1 < cost track) × HasReached f (cell_at track (t + 1)) (t + 1)
    by_step (inl same) = own track is before at (same ∙ at)
    by_step (inr step) =
        let v = cell_at track (t + 1) in
        elim (way_of w.goal.map u sides ways are legal v (subst (λ c. IsStraightStep w.goal.map c v) at step)) [
          | inl n ↦ north n.1 track is before at n.0
          | inr (inl s) ↦ south s.1 track is before at s.0
          | inr (inr (inl x)) ↦ west x.1 track is before at x.0
          | inr (inr (inr e)) ↦ east e.1 track is before at e.0
        ]
