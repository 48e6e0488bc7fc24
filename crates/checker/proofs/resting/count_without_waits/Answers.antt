-- What is kept ends in another act, or there is none; what is left out are waits.
use Rattle.std.proofs.Common.{◌≡◌, ◌-◌, get_or, arith, sym, ◌∙◌}
use Rattle.std.proofs.lemmas.Bool.{false≢true}
use Rattle.std.proofs.lemmas.List.{get_or_default}
use Rattle.model.specs.declared.act.Act.TheVariants.{N}
use Rattle.checker.proofs.RestingLemmas.{rested-take_wait, rested-take_act}
use Rattle.checker.proofs.resting.count_without_waits.Goals as goal

pub loop-kept-preserved : goal.loop-kept-preserved
loop-kept-preserved c =
    let now = c.loop-kept.invariant in
    let within = now.within in
    let some = c.loop-kept-test.true in
    let acts = c.args.acts.now in
    let kept = c.loop-kept.kept in
    let last = get_or acts (kept - 1) N in
    let is : last ≡ get_or acts (kept - 1) last = get_or_default acts (kept - 1) N last (omega (arith, some, within)) in
    record {
      within = omega (arith, within);
      same = rested-take_wait acts kept last some within is (c.is_wait.ensures.0 c.if-is_wait.true) ∙ now.same;
    }

pub returns-else-is_wait : goal.returns-else-is_wait
returns-else-is_wait c =
    let now = c.loop-kept.invariant in
    let within = now.within in
    let some = c.loop-kept-test.true in
    let acts = c.args.acts.now in
    let kept = c.loop-kept.kept in
    let last = get_or acts (kept - 1) N in
    let is : last ≡ get_or acts (kept - 1) last = get_or_default acts (kept - 1) N last (omega (arith, some, within)) in
    sym (rested-take_act acts kept last some within is (λ waits. false≢true (sym c.if-is_wait.false ∙ c.is_wait.ensures.1 waits))) ∙ now.same
