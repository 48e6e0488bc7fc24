-- First a stretch is fetched for each walker of the group, and then each row takes what they have for its step.
use Rattle.std.proofs.Common.{◌≡◌, [], length, get_or, rules, arith, refl, sym, ap, subst, ◌∙◌}
use Rattle.std.specs.Prelude.{slice_get}
use Rattle.std.proofs.lemmas.List.{get_or-take, get_or_default, length-take-le}
use Rattle.std.proofs.lemmas.Option.{slice_get_read}
use Rattle.checker.specs.Code.Blocks.{row_of_step, IsStretch}
use Rattle.checker.specs.Code.Crowd.{walker_at, act_at}
use Rattle.checker.proofs.RowLemmas.{stretches-none, stretches-more, fetched-more, put-more, group-turned}
use Rattle.checker.proofs.block.turn_group.Goals as goal

pub loop-member-init : goal.loop-member-init
loop-member-init c = record { are = stretches-none; fetched = λ k course less. absurd (omega (arith, less)) }

pub loop-member-preserved : goal.loop-member-preserved
loop-member-preserved c =
    let was = c.loop-member.invariant in
    let stretches = c.loop-member.stretches in
    let n = c.loop-member.member in
    let less = c.loop-member-test.true in
    let few = c.requires.size in
    let count = was.are.count in
    let agent : c.from.result ≡ (walker_at c.args.group.now n).agent = search rules in
    let among = c.requires.agents n less in
    let there = slice_get_read c.args.courses.now (length c.args.courses.now) c.from.result c.index-courses-from.result refl (omega (arith, agent, among))
    c.index-courses-from.is in
    let is : IsStretch c.index-courses-from.result.acts c.args.step c.into_acts.result =
    subst (λ s. IsStretch c.index-courses-from.result.acts c.args.step s) (sym c.into_acts.ensures)
    (subst (λ acts. IsStretch acts c.args.step c.of.result) c.acts.ensures c.of.ensures) in
    record {
      are = stretches-more stretches n c.into_acts.result was.are is.count;
      fetched = fetched-more c.args.courses.now c.args.step c.args.group.now stretches n c.index-courses-from.result c.into_acts.result was.fetched
          (omega (arith, less, few, count)) is (ap (slice_get c.args.courses.now) (sym agent) ∙ there);
    }

pub loop-taken-preserved : goal.loop-taken-preserved
loop-taken-preserved c =
    let less = c.loop-taken-test.true in
    let steps = c.requires.rows.steps in
    let same = c.loop-taken.auto.rows in
    let now = c.loop-taken.rows in
    let s = c.loop-taken.taken in
    let row : get_or now s c.index-rows-taken.result ≡ row_of_step now s = get_or_default now s c.index-rows-taken.result [] (omega (arith, less, steps, same)) in
    let few = c.requires.size in
    let count = c.loop-member.invariant.are.count in
    let size = length-take-le (length c.args.group.now) c.loop-member.stretches (omega (arith, few, count)) in
    put-more c.loop-member.stretches (length c.args.group.now) c.args.first c.args.rows.now now s c.put.new.self c.loop-taken.invariant
    (omega (arith, less, steps)) (c.put.ensures.count ∙ ap length row) (λ k before. c.put.ensures.before k before ∙ ap (λ r. act_at r k) row)
    (λ k among. c.put.ensures.own k (omega (arith, among, size)) ∙ ap (λ r. act_at r s) (get_or-take (length c.args.group.now) c.loop-member.stretches k [] among))

pub returns-clause-own : goal.returns-clause-own
returns-clause-own c =
    let fetched = c.loop-member.invariant.fetched in
    group-turned c.args.courses.now c.args.step c.args.group.now c.loop-member.stretches c.args.first c.args.rows.now c.loop-taken.rows
    c.loop-member.invariant.are c.requires.size
    (let past = c.loop-member-test.false in λ k course less. fetched k course (omega (arith, less, past)))
    (let all = c.loop-taken-test.false in let was = c.loop-taken.invariant in
    record {
      steps = was.steps;
      sizes = was.sizes;
      before = was.before;
      own = λ s k less among. was.own s k (omega (arith, less, all)) among;
    })
