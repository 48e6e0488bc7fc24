-- A fault excludes the rest.
use Rattle.std.proofs.Common.{◌≡◌, ℕ, ◌<◌, ◌≤◌, ◌⊎◌, inl, inr, arith, refl, ap, ◌∙◌}
use Rattle.model.specs.Plan.{Plan}
use Rattle.continuing.specs.Continuing.{Continues}
use Rattle.continuing.specs.Departing.{IsFirstElsewhere, IsContinueFault}
use Rattle.continuing.specs.declared.continue_fault.ContinueFault.{ContinueFault}
use Rattle.continuing.specs.declared.continue_fault.ContinueFault.TheVariants.{OtherNumber, OtherCount, Departs}
use Rattle.continuing.proofs.laws.one_answer.Goals as goal

no_fault : (old new : Plan) (fault : ContinueFault) → IsContinueFault old new fault → Continues old new → ⊥
no_fault old new OtherNumber other goes_on = other goes_on.number
no_fault old new OtherCount other goes_on = other.1 goes_on.agents
no_fault old new (Departs agent time) other goes_on =
    let first = other.2.elsewhere in
    first.is_not (goes_on.same agent time first.place first.in_time first.was)

same_first : (old new : Plan) (i t j s : ℕ) → IsFirstElsewhere old new i t → IsFirstElsewhere old new j s → (t ≡ s) × (i ≡ j)
same_first old new i t j s h k = by_order (h.first j s k.elsewhere) (k.first i t h.elsewhere) where
  by_order : (t < s) ⊎ ((t ≡ s) × (i ≤ j)) → (s < t) ⊎ ((s ≡ t) × (j ≤ i)) → (t ≡ s) × (i ≡ j)
  by_order (inl less) (inl more) = absurd (omega (arith, less, more))
  by_order (inl less) (inr same) = absurd (let e = same.0 in omega (arith, less, e))
  by_order (inr same) (inl more) = absurd (let e = same.0 in omega (arith, more, e))
  by_order (inr one) (inr other) =
      let least = one.1 in
      let most = other.1 in
      (one.0, omega (arith, least, most))

one : (old new : Plan) (f g : ContinueFault) → IsContinueFault old new f → IsContinueFault old new g → f ≡ g
one old new OtherNumber OtherNumber h k = refl
one old new OtherNumber OtherCount h k = absurd (h k.0)
one old new OtherNumber (Departs i t) h k = absurd (h k.0)
one old new OtherCount OtherNumber h k = absurd (k h.0)
one old new OtherCount OtherCount h k = refl
one old new OtherCount (Departs i t) h k = absurd (h.1 k.1)
one old new (Departs i t) OtherNumber h k = absurd (k h.0)
one old new (Departs i t) OtherCount h k = absurd (k.1 h.1)
one old new (Departs i t) (Departs j s) h k =
    let same = same_first old new i t j s h.2 k.2 in
    ap (λ n. Departs n t) same.1 ∙ ap (λ n. Departs j n) same.0

pub returns-clause-fault : goal.returns-clause-fault
returns-clause-fault c = no_fault

pub returns-clause-one : goal.returns-clause-one
returns-clause-one c = one
