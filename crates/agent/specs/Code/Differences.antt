-- How a record differs from the one that is due, by the first difference that matters.
use Rattle.std.specs.Prelude.{ℕ, List}
use Rattle.agent.specs.declared.record.Difference.{Difference}
use Rattle.agent.specs.declared.record.Difference.TheVariants.{Damaged, WrongPlan, WrongAgent}
use Rattle.agent.specs.Records.{SaysDue, SaysPlan, SaysAgent}

abbrev pub IsDifference : List ℕ → List ℕ → Difference → Type 0
IsDifference due bytes Damaged = SaysDue due bytes → ⊥
IsDifference due bytes WrongPlan = SaysDue due bytes × (SaysPlan due bytes → ⊥)
IsDifference due bytes WrongAgent =
    SaysDue due bytes × SaysPlan due bytes × (SaysAgent due bytes → ⊥)
