-- What a checker has seen up to a time.
use Rattle.std.specs.Prelude.{◌≡◌, ℕ, ◌+◌, ◌<◌, List, length, Option, MatchOption}
use Rattle.grid.specs.Map.{Grid}
use Rattle.model.specs.declared.plan_fault.PlanFault.{PlanFault}
use Rattle.model.specs.Plan.{Plan, HasPlanFault, IsValid, key_of, IsLeastFault}
use Rattle.checker.specs.declared.board.Square.{Square}
use Rattle.checker.specs.declared.crowd.Walker.{Walker}
use Rattle.checker.specs.Code.Crowd.{walker_at, first_mark, AreMarksOf}
use Rattle.checker.specs.Code.UnderWay.{AreUnderWay}

-- the least fault, if there is one
abbrev pub IsVerdict : Grid → Plan → Option PlanFault → Type 0
IsVerdict m p answer = MatchOption answer (IsValid m p) (IsLeastFault m p)

-- no fault comes before the time
abbrev pub IsClean : Grid → Plan → ℕ → Type 0
IsClean m p t = (fault : PlanFault) → HasPlanFault m p fault → (key_of fault).time < t → ⊥

-- There was no fault up to the time, the agents under way are where they are at the time, and all
-- marks are of the step that led there, which has the marks of the step after the next.
pub record IsSeen (m : Grid) (p : Plan) (t : ℕ) (walkers : List Walker)
    (squares : List Square) : Type 0 where
  pub under_way : AreUnderWay m p.courses t walkers squares
  pub clean : IsClean m p (t + 1)
  pub marks : AreMarksOf (first_mark (t + 1)) walkers squares

-- the same, or the least fault
abbrev pub IsSeenAt : Grid → Plan → ℕ → List Walker → List Square → Option PlanFault → Type 0
IsSeenAt m p t walkers squares answer =
    MatchOption answer (IsSeen m p t walkers squares) (IsLeastFault m p)

-- the walkers are the same agents, in the same order
pub record AreSameAgents (old new : List Walker) : Type 0 where
  pub count : length new ≡ length old
  pub each : (k : ℕ) → k < length old → (walker_at new k).agent ≡ (walker_at old k).agent
