-- Each walker is led from where it was, since those before it changed only themselves.
use Rattle.std.proofs.Common.{◌≡◌, length, inl, inr, arith, refl, sym, subst}
use Rattle.std.proofs.lemmas.Bool.{or_parts, or_cases, false≢true}
use Rattle.checker.specs.Code.Crowd.{walker_at, act_at, IsAllowed, IsActRefused, IsMarked, IsInside}
use Rattle.checker.proofs.CrowdLemmas.{AreMarkedTo, passed-none, passed-more, keeps-then, led-more, marked-none, marked-more, marks-after, suspect-here}
use Rattle.checker.proofs.crowd.take_step.Goals as goal

pub lead-may_be_wrong-requires-clause-inside : goal.lead-may_be_wrong-requires-clause-inside
lead-may_be_wrong-requires-clause-inside c =
    let count = c.loop-place.invariant.grounds.count in
    let same = c.loop-place.invariant.led.rest c.loop-place.place (omega arith) in
    subst (λ n. IsInside c.args.turns.now n (walker_at c.loop-place.walkers c.loop-place.place).place) (sym count)
    (subst (λ w. IsInside c.args.turns.now (length c.args.squares.now) w.place) (sym same) (c.requires.inside c.loop-place.place c.loop-place-test.true))

pub loop-place-init : goal.loop-place-init
loop-place-init c = record {
  led = record { count = refl; led = λ k less. absurd (omega (arith, less)); rest = λ k past. refl };
  grounds = record { count = refl; each = λ place. refl };
  passed = λ right. passed-none c.args.turns.now c.args.acts.now c.args.walkers.now c.args.squares.now;
  marked = marked-none c.args.turns.now c.args.acts.now c.args.walkers.now c.args.squares.now c.requires.old;
  suspect = λ wrong. absurd (false≢true wrong);
}

pub loop-place-preserved : goal.loop-place-preserved
loop-place-preserved c =
    let was = c.loop-place.invariant in
    let did = c.lead-may_be_wrong.ensures in
    let turns = c.args.turns.now in
    let acts = c.args.acts.now in
    let walkers = c.args.walkers.now in
    let k = c.loop-place.place in
    let same = was.led.rest k (omega arith) in
    record {
      led = led-more turns acts walkers c.loop-place.walkers k c.lead-may_be_wrong.new.walker was.led c.loop-place-test.true did.led;
      grounds = keeps-then c.args.squares.now c.loop-place.squares c.lead-may_be_wrong.new.squares was.grounds did.grounds;
      passed = λ right. (
          let both = or_parts c.loop-place.may_be_wrong c.lead-may_be_wrong.result right in
          passed-more turns acts walkers c.args.squares.now c.loop-place.squares c.lead-may_be_wrong.new.squares k c.requires.marks was.grounds (was.passed both.0)
          (subst (λ w. IsAllowed turns (act_at acts k) w c.loop-place.squares) same (did.allowed both.1))
          (subst (λ w. IsMarked turns (act_at acts k) w.place c.loop-place.squares c.lead-may_be_wrong.new.squares) same did.marks)
          );
      marked = marked-more turns acts walkers c.loop-place.squares c.lead-may_be_wrong.new.squares k c.requires.marks c.requires.some was.marked
          (subst (λ w. IsMarked turns (act_at acts k) w.place c.loop-place.squares c.lead-may_be_wrong.new.squares) same did.marks);
      suspect = λ wrong. elim (or_cases c.loop-place.may_be_wrong c.lead-may_be_wrong.result wrong) [
        | inl earlier ↦ was.suspect earlier
        | inr now ↦ suspect-here turns acts walkers c.args.squares.now c.loop-place.squares k c.requires.marks c.requires.some was.grounds was.marked c.loop-place-test.true
            (subst (λ w. IsActRefused turns (act_at acts k) w c.loop-place.squares) same (did.refused now))
      ];
    }

pub returns-clause-marks : goal.returns-clause-marks
returns-clause-marks c =
    let turns = c.args.turns.now in
    let acts = c.args.acts.now in
    let walkers = c.args.walkers.now in
    let past = c.loop-place-test.false in
    let within = c.loop-place.auto.place-end in
    let all : c.loop-place.place ≡ length walkers = omega (arith, past, within) in
    let led = c.loop-place.invariant.led in
    marks-after turns acts walkers c.loop-place.walkers c.loop-place.squares c.requires.marks
    (record { count = led.count; each = λ k less. led.led k (omega (arith, less, all)) })
    (subst (AreMarkedTo turns acts walkers c.loop-place.squares) all c.loop-place.invariant.marked)
