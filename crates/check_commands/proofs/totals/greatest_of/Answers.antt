use Rattle.std.proofs.Common.{get_or, take}
use Rattle.std.proofs.lemmas.List.{take_more}
use Rattle.check_commands.proofs.BoundLemmas.{greatest_more}
use Rattle.check_commands.proofs.totals.greatest_of.Goals as goal

pub loop-bound-preserved : goal.loop-bound-preserved
loop-bound-preserved c =
    let i = c.loop-bound.bound-index in
    let bounds = c.args.bounds.now in
    let taken = take_more bounds i 0 c.loop-bound-test.true in
    let more = greatest_more (take i bounds) (get_or bounds i 0) in
    cc
