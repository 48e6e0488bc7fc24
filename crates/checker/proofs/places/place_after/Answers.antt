-- One act more, and past the last nothing changes.
use Rattle.std.proofs.Common.{◌≡◌, ◌+◌, suc, length, get_or, arith, inl, inr, sym, ap, subst, ◌∙◌}
use Rattle.std.proofs.lemmas.Bool.{cases_lt}
use Rattle.std.proofs.lemmas.Option.{slice_get-get_or}
use Rattle.model.specs.declared.act.Act.TheVariants.{N}
use Rattle.model.specs.Plan.{position_of, position_at, moved}
use Rattle.checker.specs.Code.Places.{as_position, IsNear}
use Rattle.checker.specs.Laws.Walking.{position-moved, position-stays}
use Rattle.checker.proofs.PlaceLemmas.{near, position_start}
use Rattle.checker.proofs.places.place_after.Goals as goal

pub loop-number-init : goal.loop-number-init
loop-number-init c = c.of-place.ensures ∙ ap position_of c.start.ensures ∙ sym (position_start c.args.course.now)

pub after-place-requires : goal.after-place-requires
after-place-requires c = subst IsNear (sym c.loop-number.invariant) (near c.args.course.now c.loop-number.number c.requires)

pub loop-number-preserved : goal.loop-number-preserved
loop-number-preserved c =
    let course = c.args.course.now in
    let n = c.loop-number.number in
    let acts = c.acts-acts.ensures in
    let less = c.loop-number-test.true in
    let least = c.min-number-end.ensures in
    let next : suc n ≡ n + 1 = omega arith in
    let is = slice_get-get_or course.acts n N (omega (arith, less, least, ap length acts)) in
    c.after-place.ensures ∙ ap (λ l. moved (get_or l n N) (as_position c.loop-number.place)) acts
    ∙ ap (moved (get_or course.acts n N)) c.loop-number.invariant
    ∙ sym (position-moved (position_of course.start) course.acts n (get_or course.acts n N) is)
    ∙ ap (position_at course) next

pub returns : goal.returns
returns c =
    let past = c.loop-number-test.false in
    let end = c.loop-number.auto.number-end in
    let least = c.min-number-end.ensures in
    let course = c.args.course.now in
    let n = c.loop-number.number in
    let few = ap length c.acts-acts.ensures in
    c.loop-number.invariant ∙ elim (cases_lt (length course.acts) c.args.count) [
      | inl long ↦ (
          let all : n ≡ length course.acts = omega (arith, past, end, least, few, long) in
          ap (position_at course) all
          ∙ sym (position-stays (position_of course.start) course.acts (length course.acts) c.args.count
          (omega arith) (omega (arith, long)))
          )
      | inr short ↦ (
          let all : n ≡ c.args.count = omega (arith, past, end, least, few, short) in
          ap (position_at course) all
          )
    ]
