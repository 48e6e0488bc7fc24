use Rattle.std.proofs.Common.{◌≡◌, ◌∙◌, ◌<◌, ◌+◌, ◌∷◌, ℕ, [], Some, arith, length, length-append, subst, sym}
use Rattle.std.specs.Prelude.{slice_get}
use Rattle.grid.specs.Map.{Grid}
use Rattle.optimality.specs.declared.constraint.Ends.{Ends}
use Rattle.optimality.specs.Constraints.{constraints_of}
use Rattle.optimality.specs.Walkers.{CostsAtLeast, IsLeastCost}
use Rattle.proof_check.specs.Code.Trails.{AreTables, IsTrail}
use Rattle.proof_check.proofs.PushLemmas.{pushed}
use Rattle.proof_check.proofs.judge.Judge.least_costs.Goals as goal

-- what was found of the agent that is next
of_next : (c : goal.After-drop-found-in-loop-agent) (m : Grid) (own : Ends) → AreTables m c.args.self.now.ends.items c.args.self.now.tables.items
    → IsTrail m c.args.self.now.ends.items c.args.self.now.trail.demands.items c.args.self.now.trail.kept.items
    → slice_get c.args.self.now.ends.items (length c.loop-agent.numbers.items) ≡ Some own
    → CostsAtLeast m own (constraints_of c.args.self.now.trail.demands.items (length c.loop-agent.numbers.items)) c.in_ok-found.found.cost
    × (c.in_ok-found.found.cost < c.args.bound
    → IsLeastCost m own (constraints_of c.args.self.now.trail.demands.items (length c.loop-agent.numbers.items)) c.in_ok-found.found.cost)
of_next c m own tables trail there =
    let before = c.loop-agent.invariant in
    let at = c.in_ok-found.ensures in
    let agent = c.loop-agent.agent in
    let cost = c.in_ok-found.found.cost in
    let own_tables = subst (AreTables m c.loop-agent.self.ends.items) (sym before.tables)
    (subst (λ e. AreTables m e.items c.args.self.now.tables.items) (sym before.ends) tables) in
    let own_there = subst (λ e. slice_get e.items agent ≡ Some own) (sym before.ends)
    (subst (λ a. slice_get c.args.self.now.ends.items a ≡ Some own) before.count there) in
    let own_trail = subst (λ t. IsTrail m c.loop-agent.self.ends.items t.demands.items t.kept.items) (sym before.trail)
    (subst (λ e. IsTrail m e.items c.args.self.now.trail.demands.items c.args.self.now.trail.kept.items) (sym before.ends) trail) in
    let known = c.cost_of-from.ensures m own own_trail own_there in
    subst (λ a. CostsAtLeast m own (constraints_of c.args.self.now.trail.demands.items a) cost
    × (cost < c.args.bound → IsLeastCost m own (constraints_of c.args.self.now.trail.demands.items a) cost)) (sym before.count)
    (subst (λ t. CostsAtLeast m own (constraints_of t.demands.items agent) cost
    × (cost < c.args.bound → IsLeastCost m own (constraints_of t.demands.items agent) cost)) before.trail
    (at.least m own own_tables own_there known, at.costs m own own_tables own_there known))

pub loop-agent-preserved : goal.loop-agent-preserved
loop-agent-preserved c =
    let before = c.loop-agent.invariant in
    let at = c.in_ok-found.ensures in
    let all = length-append c.loop-agent.numbers.items (c.in_ok-found.found.cost ∷ []) in
    let count = before.count in
    record {
      ends = at.ends ∙ before.ends;
      tables = at.tables ∙ before.tables;
      trail = at.trail ∙ before.trail;
      count = subst (λ l. length l ≡ c.loop-agent.agent + 1) (sym c.in_ok-add_number.ensures) (omega (arith, all, count));
      found = λ m tables trail. subst
          (λ l. (k n : ℕ) → slice_get l k ≡ Some n → (own : Ends) → slice_get c.args.self.now.ends.items k ≡ Some own
          → CostsAtLeast m own (constraints_of c.args.self.now.trail.demands.items k) n
          × (n < c.args.bound → IsLeastCost m own (constraints_of c.args.self.now.trail.demands.items k) n))
          (sym c.in_ok-add_number.ensures)
          (pushed
          (λ k n. (own : Ends) → slice_get c.args.self.now.ends.items k ≡ Some own → CostsAtLeast m own (constraints_of c.args.self.now.trail.demands.items k) n
          × (n < c.args.bound → IsLeastCost m own (constraints_of c.args.self.now.trail.demands.items k) n))
          c.loop-agent.numbers.items c.in_ok-found.found.cost (before.found m tables trail)
          (λ own there. of_next c m own tables trail there));
    }

pub returns-clause-found : goal.returns-clause-found
returns-clause-found c = λ m tables trail.
    let past = c.loop-agent-test.false in
    let within = c.loop-agent.auto.agent-end in
    let count = c.loop-agent.invariant.count in
    let agents = c.len-agent-end.ensures in
    let ok = c.args.self.now.ends.ok in
    record {
      count = omega (arith, count, past, within, agents, ok);
      least = λ k n own number there. (c.loop-agent.invariant.found m tables trail k n number own there).0;
      costs = λ k n own number there. (c.loop-agent.invariant.found m tables trail k n number own there).1;
    }
