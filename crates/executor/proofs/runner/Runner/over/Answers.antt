use Rattle.std.proofs.Common.{[], ◌∷◌, length, sym, ap, subst, ◌∙◌, arith}
use Rattle.std.specs.Prelude.{slice_get}
use Rattle.std.proofs.lemmas.List.{length-append}
use Rattle.model.specs.declared.version.Version.{Version}
use Rattle.executor.specs.Standing.{IsMember}
use Rattle.executor.proofs.CrewLemmas.{each-pushed}
use Rattle.executor.specs.Laws.Safe.{safe-by}
use Rattle.executor.proofs.runner.Runner.over.Goals as goal

pub agents-preserved : goal.agents-preserved
agents-preserved c =
    let here = subst (λ n. (v : Version) → IsMember v c.args.graph.now [] n c.new_agent-agent.result) (sym c.agents.invariant.count) c.new_agent-agent.ensures in record {
      count = (let more = ap length c.in-Ok.ensures.items in let one = length-append c.agents.agents.items (c.new_agent-agent.result ∷ []) in let count = c.agents.invariant.count in omega
          (arith, more, one, count));
      members = λ i a there. each-pushed (λ n x. (v : Version) → IsMember v c.args.graph.now [] n x) c.agents.agents.items c.new_agent-agent.result c.agents.invariant.members here i a
          (sym (ap (λ l. slice_get l i) c.in-Ok.ensures.items) ∙ there);
    }

pub invariant_of-result : goal.invariant_of-result
invariant_of-result c =
    let few = c.agents-count.ensures.within.agent_limit in let count = c.agents.invariant.count in let most = c.agents.auto.id-end in let all = c.agents-count.ensures.agents in omega
    (arith, few, count, most, all)

pub returns-clause-stands : goal.returns-clause-stands
returns-clause-stands c = record {
  conflict_free = c.agents-count.ensures.within.conflict_free;
  run = tt;
  count = (let count = c.agents.invariant.count in let most = c.agents.auto.id-end in let past = c.agents-test.false in let all = c.agents-count.ensures.agents in omega
      (arith, count, most, past, all));
  members = λ i a there. c.agents.invariant.members i a there c.new.result.version;
  messages = ap (λ s. s.messages) c.new.ensures;
}

pub returns-in_err-agents-clause-safe : goal.returns-in_err-agents-clause-safe
returns-in_err-agents-clause-safe c = safe-by c.every_run_is_safe.ensures c.rotations_never_begin.ensures c.args.version c.args.graph.now [] c.agents-count.ensures.within.conflict_free tt

pub returns-in_default-clause-safe : goal.returns-in_default-clause-safe
returns-in_default-clause-safe c = safe-by c.every_run_is_safe.ensures c.rotations_never_begin.ensures c.args.version c.args.graph.now [] c.agents-count.ensures.within.conflict_free tt

pub returns-clause-safe : goal.returns-clause-safe
returns-clause-safe c = safe-by c.every_run_is_safe.ensures c.rotations_never_begin.ensures c.args.version c.args.graph.now [] c.agents-count.ensures.within.conflict_free tt
