-- What is asked, one by one.
use Rattle.std.proofs.Common.{◌≡◌, ℕ, zero, suc, List, [], ◌∷◌, ◌++◌, Some, inl, inr, refl, subst}
use Rattle.std.specs.Prelude.{slice_get}
use Rattle.std.proofs.lemmas.Option.{none-some, same_Some}
use Rattle.model.specs.Timetable.{Track}
use Rattle.optimality.specs.declared.constraint.Constraint.{Constraint}
use Rattle.optimality.specs.Constraints.{Meets, MeetsAll}
use Rattle.least_costs.specs.declared.rules.Timed.{Timed}
use Rattle.least_costs.specs.Code.Ruling.{AreImplied, AreTimed, IsImplied}
use Rattle.least_costs.proofs.ListLemmas.{get-added}

pub met_at : (asked : List Constraint) (track : Track) → MeetsAll asked track → (k : ℕ) (c : Constraint) → slice_get asked k ≡ Some c → Meets track c
met_at [] track meets k c is = absurd (none-some c is)
met_at (d ∷ asked) track meets zero c is = subst (Meets track) (same_Some d c is) meets.0
met_at (d ∷ asked) track meets (suc k) c is = met_at asked track meets.1 k c is

-- and all together
pub met_all : (asked : List Constraint) (track : Track) → ((k : ℕ) (c : Constraint) → slice_get asked k ≡ Some c → Meets track c) → MeetsAll asked track
met_all [] track each = tt
met_all (d ∷ asked) track each = (each 0 d refl, met_all asked track (λ k c is. each (suc k) c is))

-- what is asked itself
pub implied_at : (asked : List Constraint) (k : ℕ) (c : Constraint) → slice_get asked k ≡ Some c → IsImplied asked c
implied_at asked k c is track meets = met_at asked track meets k c is

pub none_implied : (asked : List Constraint) → AreImplied asked []
none_implied asked k rule is = absurd (none-some rule is)

pub none_timed : (asked : List Constraint) → AreTimed asked []
none_timed asked k rule is = absurd (none-some rule is)

-- one more
pub implied_more : (asked rules : List Constraint) (c : Constraint) → IsImplied asked c → AreImplied asked rules → AreImplied asked (rules ++ c ∷ [])
implied_more asked rules c one implied i rule is = elim (get-added rules c i rule is) [
  | inl same ↦ subst (IsImplied asked) same one
  | inr old ↦ implied i rule old
]

pub timed_more : (asked : List Constraint) (timed : List Timed) (t : Timed) → IsImplied asked t.constraint → AreTimed asked timed → AreTimed asked (timed ++ t ∷ [])
timed_more asked timed t one are i u is = elim (get-added timed t i u is) [
  | inl same ↦ subst (λ (v : Timed). IsImplied asked v.constraint) same one
  | inr old ↦ are i u old
]
