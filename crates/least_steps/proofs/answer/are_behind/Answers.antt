-- Each place up to this one is behind.
use Rattle.std.proofs.Common.{◌≡◌, ◌∙◌, inl, inr, arith, sym, ap, subst}
use Rattle.std.specs.Prelude.{slice_get, slice_index_or}
use Rattle.std.proofs.lemmas.Bool.{cases_lt}
use Rattle.std.proofs.lemmas.Option.{same_Some, slice_get-get_or, slice_get_within}
use Rattle.least_steps.specs.declared.open_list.Open.{Open}
use Rattle.least_steps.specs.Code.Waiting.{IsBehind}
use Rattle.least_steps.proofs.answer.are_behind.Goals as goal

pub is_behind-requires-clause-place : goal.is_behind-requires-clause-place
is_behind-requires-clause-place c =
    let i = c.loop-place.place-index in
    let none : Open = record { number = 0; cell = record { x = 0; y = 0 }; by = 0 } in
    c.requires.sound (slice_index_or c.args.places.now i none) (i, slice_get-get_or c.args.places.now i none c.loop-place-test.true)

pub loop-place-preserved : goal.loop-place-preserved
loop-place-preserved c = λ k p less there.
    let i = c.loop-place.place-index in
    let places = c.args.places.now in
    let none : Open = record { number = 0; cell = record { x = 0; y = 0 }; by = 0 } in
    elim (cases_lt k i) [
      | inl before ↦ c.loop-place.invariant k p before there
      | inr past ↦
          let last : k ≡ i = omega (arith, less, past) in
          let here = slice_get-get_or places i none c.loop-place-test.true in
          subst (IsBehind c.args.reached.now c.args.goal) (same_Some (slice_index_or places i none) p (sym here ∙ ap (slice_get places) (sym last) ∙ there))
          (c.is_behind.ensures c.if-not-is_behind.false)
    ]

pub returns : goal.returns
returns c = λ _ p there.
    let within = slice_get_within c.args.places.now there.0 p there.1 in
    let past = c.loop-place-test.false in
    c.loop-place.invariant there.0 p (omega (arith, within, past)) there.1
