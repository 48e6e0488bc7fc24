-- The lines of agents, of roots and of rotations.
use Rattle.std.proofs.Common.{length, ◌∷◌, [], ◌++◌, map, ap, sym, ◌∙◌, arith}
use Rattle.std.specs.List.{range_with_len}
use Rattle.std.proofs.lemmas.List.FromFn.{map-range_with_len_more}
use Rattle.std.proofs.lemmas.List.{length-map}
use Rattle.depgraph.specs.Rotations.{turns_of}
use Rattle.fleet_commands.specs.StatusText.{agent_line}
use Rattle.fleet_commands.proofs.LineLemmas.{all-lines}
use Rattle.fleet_commands.proofs.status_lines.status_lines.Goals as goal

pub loop-agent-preserved : goal.loop-agent-preserved
loop-agent-preserved c =
    let n = c.loop-agent.agent in
    let own = agent_line c.args.dependencies.now c.args.found.now in
    record {
      lines = c.in_ok-push.ensures.items ∙ ap (λ l. l ++ c.agent_line.result ∷ []) c.loop-agent.invariant.lines ∙ ap (λ x. map own (range_with_len 0 n) ++ x ∷ []) c.agent_line.ensures ∙ sym
          (map-range_with_len_more own 0 n n (omega arith));
    }

pub returns : goal.returns
returns c =
    let tt = c.args.dependencies.now in
    let turns = turns_of c.args.rotations.now in
    let over = c.loop-agent-test.false in
    let end = c.loop-agent.auto.agent-end in
    let all = c.agents-agent-end.ensures.agents in
    let roots = rw (c.deref-2.ensures.value, c.deref-3.ensures.value) at c.in_ok-push_roots.ensures in
    let circles = rw c.deref-4.ensures.value at c.in_ok-push_circles.ensures in
    let ends = rw c.deref.ensures.value at c.in_ok-ends.ensures.ends in
    all-lines tt turns c.args.found.now c.in_ok-waits.waits.items c.in_ok-ends.ends.items c.loop-agent.agent (length c.args.rotations.now) c.loop-agent.lines.items c.push_roots.new.lines.items
    c.push_circles.new.lines.items
    c.in_ok-waits.ensures.waits ends (omega (arith, over, end, all)) (sym (length-map c.args.rotations.now _)) c.loop-agent.invariant.lines roots circles
