-- What is asked of a walk, by times.
use Rattle.std.specs.Prelude.{◌≡◌, ℕ, List, Some, slice_get}
use Rattle.model.specs.Timetable.{Track}
use Rattle.optimality.specs.declared.constraint.Constraint.{Constraint}
use Rattle.optimality.specs.Constraints.{Meets, MeetsAll}
use Rattle.least_costs.specs.declared.rules.Rules.{Rules}
use Rattle.least_costs.specs.declared.rules.Timed.{Timed}

-- a walk that is as it is asked meets this
abbrev pub IsImplied : List Constraint → Constraint → Type 0
IsImplied asked rule = (track : Track) → MeetsAll asked track → Meets track rule

-- and each of these
abbrev pub AreImplied : List Constraint → List Constraint → Type 0
AreImplied asked rules =
    (k : ℕ) (rule : Constraint) → slice_get rules k ≡ Some rule → IsImplied asked rule

abbrev pub AreTimed : List Constraint → List Timed → Type 0
AreTimed asked timed =
    (k : ℕ) (t : Timed) → slice_get timed k ≡ Some t → IsImplied asked t.constraint

-- no rule asks for more
pub record AreRules (asked : List Constraint) (rules : Rules) : Type 0 where
  pub timed : AreTimed asked rules.timed.items
  pub lasting : AreImplied asked rules.lasting.items
