use Rattle.std.proofs.Common.{◌≡◌, ◌+◌, inl, inr, subst, arith}
use Rattle.std.proofs.lemmas.Bool.{cases_lt}
use Rattle.controller.specs.Places.{IsNew}
use Rattle.controller.proofs.places.furthest.Goals as goal

pub places-preserved : goal.places-preserved
places-preserved c = λ k behind within.
    elim (cases_lt c.places.place k) [
      | inr before ↦ c.places.invariant k behind before
      | inl last ↦
          let next : c.places.place + 1 ≡ k = omega (arith, within, last) in
          subst (IsNew c.args.part.now.cells c.args.from) next (c.is_new.ensures.0 c.if-not-is_new.false)
    ]
