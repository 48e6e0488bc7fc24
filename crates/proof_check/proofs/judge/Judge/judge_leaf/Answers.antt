-- By what is known, or by what was found anew.
use Rattle.std.proofs.Common.{◌≤◌, List, ℕ, subst}
use Rattle.optimality.specs.Judging.{objective_of}
use Rattle.proof_check.proofs.TotalLemmas.{judged_by}
use Rattle.proof_check.proofs.judge.Judge.judge_leaf.Goals as goal

pub returns-in-None-clause-judged : goal.returns-in-None-clause-judged
returns-in-None-clause-judged c = λ m tables trail. (
  c.in_ok-known.known.items,
  c.in_ok-known.ensures m trail,
  subst (λ (l : List ℕ). c.args.aim.bound ≤ objective_of c.args.aim.objective l) c.deref.ensures.value c.in-None.ensures,
)

pub returns-clause-judged : goal.returns-clause-judged
returns-clause-judged c = λ m tables trail.
    judged_by m c.args.self.now.ends.items c.args.aim.objective c.args.aim.bound c.args.self.now.trail.demands.items c.in_ok-least.least.items c.deref-2.result.now
    c.total_below-2.result c.deref-2.ensures.value (c.in_ok-least.ensures.found m tables trail) c.total_below-2.ensures
