-- Each agent's path comes behind those of the agents before it.
use Rattle.std.proofs.Common.{◌≡◌, ◌<◌, ◌++◌, ◌∷◌, take, [], None, get_or, length, arith, sym, ap, subst, ◌∙◌}
use Rattle.std.specs.Prelude.{All}
use Rattle.std.proofs.lemmas.List.{take_more}
use Rattle.depgraph.specs.Code.Arrivals.{entered, entry_times}
use Rattle.depgraph.specs.Code.Numbering.{cells_in}
use Rattle.depgraph.specs.Code.Paths.{ArePaths}
use Rattle.depgraph.specs.Code.Tiles.{IsCovered}
use Rattle.depgraph.proofs.FewLemmas.{few_so_far, few_cells}
use Rattle.depgraph.proofs.NumberLemmas.{length-cells_by}
use Rattle.depgraph.proofs.PathLemmas.{no_track, track_cells, cells_along, paths-more}
use Rattle.depgraph.proofs.TileLemmas.{still_covered}
use Rattle.depgraph.proofs.paths.paths_of.Goals as goal

pub follow-requires-clause-covered : goal.follow-requires-clause-covered
follow-requires-clause-covered c =
    let tt = c.args.plan.now.timetable in
    let n = c.loop-agent.agent in
    let less = c.loop-agent-test.true in
    let count = c.agents-agent-end.ensures.agents in
    let within : n < length tt.tracks = omega (arith, less, count) in
    let own = track_cells tt.tracks n c.unwrap.result within (sym c.unwrap.ensures ∙ c.cells.ensures) in
    subst (All (IsCovered c.loop-agent.cells.tiles)) (sym own) (λ t d inside.
    let there = c.agents-agent-end.ensures.within.on_map n t _ (cells_along tt n t d within inside) in
    c.loop-agent.invariant.covered _ there.0 there.1)

pub follow-requires-clause-few : goal.follow-requires-clause-few
follow-requires-clause-few c =
    let tracks = c.args.plan.now.timetable.tracks in
    let n = c.loop-agent.agent in
    let less = c.loop-agent-test.true in
    let count = c.agents-agent-end.ensures.agents in
    let within : n < length tracks = omega (arith, less, count) in
    let is = c.agents-agent-end.ensures.within in
    let own = ap length (track_cells tracks n c.unwrap.result within (sym c.unwrap.ensures ∙ c.cells.ensures)) in
    let few = few_so_far tracks n no_track within is.agent_limit is.all_steps_limit in
    let before = sym (length-cells_by c.loop-agent.cells.names.items c.loop-agent.cells.numbers.items) ∙ ap length c.loop-agent.invariant.paths.are_cells in
    omega (arith, own, few, before)

pub follow-requires-clause-steps : goal.follow-requires-clause-steps
follow-requires-clause-steps c =
    let tracks = c.args.plan.now.timetable.tracks in
    let n = c.loop-agent.agent in
    let less = c.loop-agent-test.true in
    let count = c.agents-agent-end.ensures.agents in
    let within : n < length tracks = omega (arith, less, count) in
    let own = ap length (track_cells tracks n c.unwrap.result within (sym c.unwrap.ensures ∙ c.cells.ensures)) in
    let few = few_cells tracks n no_track within c.agents-agent-end.ensures.within.step_limit in
    omega (arith, own, few)

pub loop-agent-preserved : goal.loop-agent-preserved
loop-agent-preserved c =
    let tracks = c.args.plan.now.timetable.tracks in
    let n = c.loop-agent.agent in
    let track = get_or tracks n no_track in
    let less = c.loop-agent-test.true in
    let count = c.agents-agent-end.ensures.agents in
    let within : n < length tracks = omega (arith, less, count) in
    let own = track_cells tracks n c.unwrap.result within (sym c.unwrap.ensures ∙ c.cells.ensures) in
    let was = c.loop-agent.invariant in
    let did = c.in_ok-follow.ensures in
    let old = cells_in c.loop-agent.cells in
    let new = cells_in c.follow.new.path in
    let numbers = c.len.ensures in
    let items = c.follow.new.path.numbers.ok.0 in
    let cells = length-cells_by c.follow.new.path.names.items c.follow.new.path.numbers.items in
    let long : c.len.result ≡ length new = omega (arith, numbers, items, cells) in
    record {
      numbering = did.numbering;
      covered = λ cell column row. still_covered c.loop-agent.cells.tiles c.follow.new.path.tiles cell did.map (was.covered cell column row);
      paths = subst (λ l. ArePaths l new c.follow.new.times.items c.push.new.self.items) (sym (take_more tracks n no_track within))
          (paths-more (take n tracks) track old new c.loop-agent.times.items c.follow.new.times.items c.loop-agent.ends.items c.push.new.self.items
          was.paths (did.path ∙ ap (λ l. old ++ entered None l) own)
          (did.times ∙ ap (λ l. c.loop-agent.times.items ++ entry_times None l 0) own)
          (c.in_ok-push.ensures.items ∙ ap (λ e. c.loop-agent.ends.items ++ e ∷ []) long));
    }
