use Rattle.checker.specs.Laws.Keeping.{HasKept}
use Rattle.checker.proofs.StrayLemmas.{IsAlone}
use Rattle.checker.proofs.straying.strays.Given as goal

-- so far the agent kept to its ground, and is in the place
abbrev pub invariant-loop-act : goal.invariant-loop-act
invariant-loop-act l = record {
  here : IsAlone l.map l.course l.act-index l.place l.ground;
  kept : HasKept l.map l.course l.act-index;
}
