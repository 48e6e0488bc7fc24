-- From plan to plan.
use Rattle.std.proofs.Common.{◌≡◌, ℕ, zero, suc, ◌≤◌, List, [], ◌∷◌, Some, inl, inr, refl, sym, subst, arith}
use Rattle.model.specs.Plan.{Plan, IsValid, IsTimetableOf}
use Rattle.model.specs.Timetable.{Track, Timetable, moves, track_of}
use Rattle.continuing.specs.Continuing.{IsChain, last_plan, AgreesUpTo}
use Rattle.fleet.specs.Fleets.{fresh}
use Rattle.fleet.specs.OwnPlans.{end_of_moves, SharesMoves, IsPlanAmong, IsOfChain}
use Rattle.fleet.proofs.LeadingOn.{led-as}
use Rattle.fleet.proofs.laws.extending.Goals as goal

-- a plan among those of a chain begins one that comes to the same last plan
from-there : (own plan : Plan) (plans : List Plan) → IsPlanAmong own plan plans → IsChain plan plans → (rest : List Plan) × IsChain own rest × (last_plan own rest ≡ last_plan plan plans)
from-there own plan [] same chain = ([], tt, same)
from-there own plan (next ∷ plans) (inl same) chain =
    subst (λ p. (rest : List Plan) × IsChain p rest × (last_plan p rest ≡ last_plan next plans)) (sym same) (next ∷ plans, chain, refl)
from-there own plan (next ∷ plans) (inr further) chain = from-there own next plans further chain.1

pub returns : goal.returns
returns c map plan plans last doings states chain valid is led =
    led-as [] (λ i. fresh) (IsOfChain plan plans) (SharesMoves last) fits doings states led
  where
    fits : (by : Timetable) (i : ℕ) (track : Track) (count : ℕ) → track_of by i ≡ Some track → IsOfChain plan plans by i track count → SharesMoves last by i track count
    fits by i track count there of =
        let rest = from-there of.own plan plans of.among chain in
        let will = subst (λ p. IsTimetableOf p last) (sym rest.2) is in
        let fine = subst (IsValid map) (sym rest.2) valid in
        record { has = of.has; agrees = by_count rest.0 rest.1 fine will count of.has } where
          by_count : (plans : List Plan) → IsChain of.own plans → IsValid map (last_plan of.own plans) → IsTimetableOf (last_plan of.own plans) last
              → (n : ℕ) → n ≤ moves track → AgreesUpTo (end_of_moves track n) by last
          by_count plans chain valid will zero most = c.chains_of_plans.ensures.begins map of.own plans by last chain valid of.is_its will
          by_count plans chain valid will (suc k) most = c.chains_of_plans.ensures.agrees map of.own plans by last i k track chain valid of.is_its will there (omega (arith, most))
