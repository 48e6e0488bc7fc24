use Rattle.std.proofs.Common.{◌≡◌, ◌-◌, List, Some, length, subst}
use Rattle.std.specs.Prelude.{slice_get}
use Rattle.proof_check.specs.declared.trail.Kept.{Kept}
use Rattle.proof_check.proofs.TrailLemmas.{past_within}
use Rattle.proof_check.proofs.trail.Trail.is_past.Goals as goal

pub returns-in-Some-clause-within : goal.returns-in-Some-clause-within
returns-in-Some-clause-within c =
    past_within c.args.self.now.kept.items c.in-Some.kept.now c.args.count
    (subst (λ (l : List Kept). Some c.in-Some.kept.now ≡ slice_get l (length l - 1)) c.deref.ensures.value c.in-Some.ensures.value)
