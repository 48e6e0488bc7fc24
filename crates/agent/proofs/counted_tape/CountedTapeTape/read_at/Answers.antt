-- Each turn puts the next byte.
use Rattle.std.proofs.Common.{◌≡◌, ◌<◌, ◌++◌, ◌∷◌, [], length, take, drop, refl, sym, ap, ◌∙◌, arith}
use Rattle.std.proofs.lemmas.List.{length-drop, length-set, get_or-drop, take_all, take_more, take_more_set}
use Rattle.agent.specs.CountedTape.{counted_state, counted_within}
use Rattle.agent.proofs.counted_tape.CountedTapeTape.read_at.Goals as goal

pub overflow_add-at : goal.overflow_add-at
overflow_add-at c =
    let t = c.args.self.now in
    let there = c.requires in
    let within = counted_within t in
    let limit = t.limit in
    omega (arith, there, within, limit)

pub loop-i-init : goal.loop-i-init
loop-i-init c = record { count = omega arith; same = refl }

pub loop-i-preserved : goal.loop-i-preserved
loop-i-preserved c =
    let i = c.loop-i.i in
    let contents = (counted_state c.args.self.now).contents in
    let behind = drop c.args.at contents in
    let count = length-drop c.args.at contents in
    let inside : i < length c.loop-i.out = omega arith in
    let there : i < length behind = omega (arith, count, c.requires) in
    record {
      count = length-set c.loop-i.out i c.byte.result ∙ c.loop-i.invariant.count;
      same = take_more_set c.loop-i.out i c.byte.result inside
          ∙ (ap (λ l. l ++ c.byte.result ∷ []) c.loop-i.invariant.same
          ∙ (ap (λ b. take i behind ++ b ∷ []) (c.byte.ensures ∙ sym (get_or-drop c.args.at contents i 0))
          ∙ sym (take_more behind i 0 there)));
    }

pub returns : goal.returns
returns c =
    let all : c.loop-i.i ≡ 10 = omega arith in
    let behind = drop c.args.at (counted_state c.args.self.now).contents in
    record {
      no_failure = refl;
      gives = sym (take_all 10 c.loop-i.out (omega arith)) ∙ (ap (λ k. take k c.loop-i.out) (sym all) ∙ (c.loop-i.invariant.same ∙ ap (λ k. take k behind) all));
      same = refl;
    }
