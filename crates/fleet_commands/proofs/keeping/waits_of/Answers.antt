-- One agent more.
use Rattle.std.proofs.Common.{ℕ, length, ◌∷◌, [], ◌++◌, map, ap, sym, ◌∙◌, arith}
use Rattle.std.specs.Prelude.{Option}
use Rattle.std.specs.List.{range_with_len}
use Rattle.std.proofs.lemmas.List.FromFn.{length-map-range_with_len, map-range_with_len_more}
use Rattle.fleet_commands.specs.Standing.{kept_now, waited_for}
use Rattle.fleet_commands.proofs.keeping.waits_of.Goals as goal

pub loop-agent-preserved : goal.loop-agent-preserved
loop-agent-preserved c =
    let n = c.loop-agent.agent in
    let own : ℕ → Option ℕ = λ i. waited_for (kept_now c.args.dependencies.now c.args.found.now i) in
    let one = c.waited_for.ensures ∙ ap waited_for c.kept_now.ensures in
    record {
      waits = c.in_ok-push.ensures.items ∙ ap (λ l. l ++ c.waited_for.result ∷ []) c.loop-agent.invariant.waits ∙ ap (λ x. map own (range_with_len 0 n) ++ x ∷ []) one ∙ sym
          (map-range_with_len_more own 0 n n (omega arith));
    }

pub returns-clause-few : goal.returns-clause-few
returns-clause-few c =
    let own : ℕ → Option ℕ = λ i. waited_for (kept_now c.args.dependencies.now c.args.found.now i) in
    let count = ap length c.loop-agent.invariant.waits ∙ length-map-range_with_len own 0 c.loop-agent.agent in
    let end = c.loop-agent.auto.agent-end in
    let all = c.agents-agent-end.ensures.agents in
    let few = c.agents-agent-end.ensures.within.agent_limit in
    omega (arith, count, end, all, few)
