use Rattle.std.proofs.Common.{◌≡◌, ◌-◌, length, take, drop, arith}
use Rattle.std.proofs.lemmas.List.{length-drop, length-take-le}
use Rattle.checker.proofs.RowLemmas.{in_group, turned-more}
use Rattle.checker.proofs.block.turn.Goals as goal

pub loop-first-preserved : goal.loop-first-preserved
loop-first-preserved c =
    let was = c.loop-first.invariant in
    let walkers = c.args.walkers.now in
    let first = c.loop-first.first in
    let end = c.min-end.result in
    let is = c.min-end.ensures in
    let long = length-drop first walkers in
    let size : length (take (end - first) (drop first walkers)) ≡ end - first = length-take-le (end - first) (drop first walkers) (omega (arith, is, long)) in
    record {
      within = omega (arith, is);
      rows = c.turn_group.ensures.rows;
      turned = turned-more c.args.courses.now c.args.step walkers (take (end - first) (drop first walkers)) c.loop-first.rows c.turn_group.new.rows first end
          was.turned c.turn_group.ensures.before c.turn_group.ensures.own size (λ k less. in_group walkers first end k less);
    }
