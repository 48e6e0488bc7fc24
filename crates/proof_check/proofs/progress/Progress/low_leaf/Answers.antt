-- What is asked at the node that is due, and what was found there.
use Rattle.std.proofs.Common.{◌∙◌, ℕ, List, ap, subst, sym}
use Rattle.optimality.specs.declared.constraint.Demand.{Demand}
use Rattle.optimality.specs.declared.constraint.Ends.{Ends}
use Rattle.proof_check.specs.declared.trail.Trail.{Trail}
use Rattle.proof_check.specs.Leaf.{AreAgentsAt}
use Rattle.proof_check.specs.Code.AgentsAsked.{AreAgentsAsked}
use Rattle.proof_check.specs.Code.Stack.{subtree_of, subtrees}
use Rattle.proof_check.specs.Code.Trails.{AreFoundLeast, AreTables, IsTrail}
use Rattle.proof_check.proofs.LeafLemmas.{agents_found}
use Rattle.proof_check.proofs.StackLemmas.{next_of}
use Rattle.proof_check.proofs.progress.Progress.low_leaf.Goals as goal

pub returns : goal.returns
returns c = λ m ends progress.
    let old = c.args.self.now in
    let aim = c.in-Nodes.aim in
    let it = next_of m ends aim old progress c.in-Nodes.is c.requires in
    let gone = c.in_ok-_above.ensures m ends it.others it.next progress it.items in
    let judge = c.go_on.new.self.judge in
    let demands = judge.trail.demands.items in
    let numbers = c.in-Ok.least.items in
    let agents = c.in_ok-agents.agents.items in
    let found = subst (λ (e : List Ends). AreFoundLeast m e demands aim.bound numbers) gone.1.same_ends
    (c.in-Ok.ensures.found m (subst (λ (e : List Ends). AreTables m e judge.tables.items) (sym gone.1.same_ends) gone.1.tables)
    (subst (λ (e : List Ends). IsTrail m e demands judge.trail.kept.items) (sym gone.1.same_ends) gone.1.trail)) in
    let asked = subst (λ (n : List ℕ). AreAgentsAsked demands n aim.bound agents) c.deref-2.ensures.value
    (subst (λ (d : List Demand). AreAgentsAsked d c.deref-2.result.now aim.bound agents)
    (c.deref.ensures.value ∙ ap (λ (t : Trail). t.demands.items) c.in-Ok.ensures.trail) c.in_ok-agents.ensures) in
    record {
      count = old.nodes;
      here = subtree_of ends old.judge.trail.demands.items it.next;
      others = subtrees ends old.judge.trail.demands.items it.others;
      is = it.is_due;
      agents = subst (λ (d : List Demand). AreAgentsAt m ends d agents) gone.2.demands
          (agents_found m ends demands aim.bound numbers agents found asked);
    }
