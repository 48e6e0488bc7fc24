-- One agent more.
use Rattle.std.proofs.Common.{ℕ, ◌∷◌, [], ◌++◌, length, map, ap, sym, ◌∙◌, arith}
use Rattle.std.specs.List.{range_with_len}
use Rattle.std.proofs.lemmas.List.FromFn.{length-map-range_with_len, map-range_with_len_more}
use Rattle.fleet_commands.specs.Standing.{keeper_after}
use Rattle.fleet_commands.proofs.keeping.keepers_of.Goals as goal

pub loop-agent-preserved : goal.loop-agent-preserved
loop-agent-preserved c =
    let n = c.loop-agent.agent in
    let own : ℕ → ℕ = λ i. keeper_after c.args.waits.now i (length c.args.waits.now) in
    record {
      ends = c.in_ok-push.ensures.items ∙ ap (λ l. l ++ c.keeper_of.result ∷ []) c.loop-agent.invariant.ends ∙ ap (λ x. map own (range_with_len 0 n) ++ x ∷ []) c.keeper_of.ensures ∙ sym
          (map-range_with_len_more own 0 n n (omega arith));
    }

pub returns-clause-few : goal.returns-clause-few
returns-clause-few c =
    let own : ℕ → ℕ = λ i. keeper_after c.args.waits.now i (length c.args.waits.now) in
    let count = ap length c.loop-agent.invariant.ends ∙ length-map-range_with_len own 0 c.loop-agent.agent in
    let end = c.loop-agent.auto.agent-end in
    let few = c.requires in
    omega (arith, count, end, few)
