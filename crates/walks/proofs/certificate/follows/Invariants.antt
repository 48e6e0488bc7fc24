use Rattle.std.proofs.Common.{◌+◌, ◌≤◌, drop, ◌∷◌}
use Rattle.walks.specs.Walk.{IsOn}
use Rattle.walks.proofs.WalkLemmas.{GoesOn}
use Rattle.walks.proofs.certificate.follows.Given as goal

abbrev pub invariant-loop-next : goal.invariant-loop-next
invariant-loop-next l = record {
  on : IsOn l.map l.last;
  count : l.straight + l.diagonal ≤ l.next-index;
  goes_on : GoesOn l.map l.fn.start l.goal (l.fn.start ∷ l.rest) l.straight l.diagonal l.last (drop l.next-index l.rest);
}
