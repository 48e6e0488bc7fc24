use Rattle.std.proofs.Common.{◌≢◌, ◌<◌, length, get_or, arith}
use Rattle.agent.proofs.CounterLemmas.{no_counter}
use Rattle.agent.proofs.MergeLemmas.{parted_own, parted_gap}
use Rattle.agent.proofs.counters.part.Goals as goal
use Rattle.agent.proofs.counters.part.Goals.{else-at-counters-via-then-at-counters+else-counters-at, else-at-counters-via-else-at-counters}

pub returns-then-counters-at : goal.returns-then-counters-at
returns-then-counters-at c =
    parted_own _ _ _ c.lesser_count-at.ensures.count c.if-at-counters.true c.if-counters-at.true

pub returns-else-at-counters : goal.returns-else-at-counters
returns-else-at-counters c =
    let not_own : c.lesser_count-at.result < length c.args.counters.now → (get_or c.args.counters.now c.lesser_count-at.result no_counter).agent ≢ c.args.agent =
    elim c.else-at-counters.branch [
      | else-at-counters-via-then-at-counters+else-counters-at w ↦ λ lt same. w.if-counters-at.false same
      | else-at-counters-via-else-at-counters w ↦ λ lt same. omega arith
    ] in
    parted_gap _ _ _ c.lesser_count-at.ensures.count not_own
