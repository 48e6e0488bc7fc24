-- The start alone is reached, and waits.
use Rattle.std.proofs.Common.{◌≡◌, ◌∙◌, ◌+◌, inl, inr, arith, refl, subst, sym}
use Rattle.std.proofs.lemmas.Option.{same_Some}
use Rattle.walks.specs.Walk.{IsOn}
use Rattle.least_steps.specs.declared.open_list.Open.{Open}
use Rattle.least_steps.specs.Code.Exploring.{Has}
use Rattle.least_steps.specs.Code.Reaching.{WalksTo}
use Rattle.least_steps.specs.Code.Waiting.{IsPlace, IsOpenPlace}
use Rattle.least_steps.specs.Laws.Ways.{comes_at_once}
use Rattle.least_steps.proofs.step_search.begin.Goals as goal

pub lower-requires-clause-comes : goal.lower-requires-clause-comes
lower-requires-clause-comes c =
    let e = c.begin.new.self in
    let on = subst (λ m. IsOn m c.args.ends.start) (sym c.begin.ensures.map) c.requires in
    subst (λ s. WalksTo e.map e.aslant s c.args.ends.start 6625109) (sym c.begin.ensures.start) (comes_at_once e.map e.aslant c.args.ends.start on)

pub lower-requires-clause-above : goal.lower-requires-clause-above
lower-requires-clause-above c =
    c.begin.ensures.above c.args.ends.start 6625109 (subst (λ m. IsOn m c.args.ends.start) (sym c.begin.ensures.map) c.requires) (omega arith)

pub returns-clause-search : goal.returns-clause-search
returns-clause-search c =
    let e = c.begin.new.self in
    let f = c.lower.new.self in
    let start = c.args.ends.start in
    let place : Open = record { number = 6625109; cell = start; by = 8 } in
    let map : f.map ≡ c.args.reached.now.map = c.lower.ensures.advances.map ∙ c.begin.ensures.map in
    let begins : f.start ≡ start = c.lower.ensures.advances.start ∙ c.begin.ensures.start in
    let on = subst (λ m. IsOn m start) (sym map) c.requires in
    let own : IsPlace f place = record {
      comes = subst (λ s. WalksTo f.map f.aslant s start 6625109) (sym begins) (comes_at_once f.map f.aslant start on);
      arrival = inl refl;
      limit = omega arith;
    } in
    record {
      begins = subst (λ s. Has f s 6625109) (sym begins) c.lower.ensures.has;
      sound = λ p waits. elim (c.in_ok-push.ensures.only p waits) [
        | inl before ↦ absurd (c.begin-2.ensures p before)
        | inr is ↦ subst (IsPlace f) (sym is) own
      ];
      kept = λ v n v_on number. elim (c.lower.ensures.only v n v_on number) [
        | inl before ↦
            let above = c.begin.ensures.above v n (subst (λ m. IsOn m v) c.lower.ensures.advances.map v_on) before.1 in
            let same = same_Some (e.base + n) above.0 (sym before.0 ∙ above.1) in
            let more = above.2 in
            absurd (omega (arith, same, more))
        | inr is ↦
            inr (inr (
              8,
              inl (subst (λ d. IsOpenPlace c.push.new.self (record { number = n; cell = d; by = 8 })) (sym is.0)
                  (subst (λ k. IsOpenPlace c.push.new.self (record { number = k; cell = start; by = 8 })) (sym is.1) c.in_ok-push.ensures.has)),
            ))
      ];
    }
