-- An agent more: its moves, and those that have a need.
use Rattle.std.proofs.Common.{◌∙◌, ◌<◌, ◌≤◌, length, sym, ap, arith}
use Rattle.std.specs.Prelude.{count_by, is_some, sum_by}
use Rattle.std.proofs.lemmas.List.{at_drop_all}
use Rattle.model.specs.Timetable.{moves}
use Rattle.plan_commands.specs.DepsText.{all_need_lines}
use Rattle.plan_commands.proofs.DepsLemmas.{is-track_at, length-needs_of, lines-next, lines-within_moves, moves-within_steps, sum-next, track_at}
use Rattle.plan_commands.proofs.deps_text.count.Goals as goal

pub count_needs-needs-requires : goal.count_needs-needs-requires
count_needs-needs-requires c =
    let timetable = c.args.graph.now in
    let i = c.loop-agent.agent in
    let within : i < length timetable.tracks = omega (arith, c.agents-agent-end.ensures.agents) in
    let is = is-track_at timetable i within in
    ap length (c.part_of.ensures (track_at timetable i) is) ∙ length-needs_of timetable i (track_at timetable i)
    ∙ sym (c.moves_of-own_moves.ensures (track_at timetable i) is)

pub overflow_add-moves : goal.overflow_add-moves
overflow_add-moves c =
    let timetable = c.args.graph.now in
    let i = c.loop-agent.agent in
    let within : i < length timetable.tracks = omega (arith, c.agents-agent-end.ensures.agents) in
    let own = c.moves_of-own_moves.ensures (track_at timetable i) (is-track_at timetable i within) in
    let next = sum-next timetable i within in
    let limit = c.agents-agent-end.ensures.within.all_steps_limit in
    let most = moves-within_steps timetable.tracks in
    let so_far = c.loop-agent.invariant.moves in
    omega arith

pub overflow_add-needs : goal.overflow_add-needs
overflow_add-needs c =
    let timetable = c.args.graph.now in
    let i = c.loop-agent.agent in
    let within : i < length timetable.tracks = omega (arith, c.agents-agent-end.ensures.agents) in
    let own = c.count_needs-needs.ensures ∙ ap (count_by is_some) (c.part_of.ensures (track_at timetable i) (is-track_at timetable i within)) in
    let next = lines-next timetable i within in
    let limit = c.agents-agent-end.ensures.within.all_steps_limit in
    let most = moves-within_steps timetable.tracks in
    let lines = lines-within_moves timetable 0 timetable.tracks in
    let so_far = c.loop-agent.invariant.needs in
    omega arith

pub loop-agent-preserved : goal.loop-agent-preserved
loop-agent-preserved c =
    let timetable = c.args.graph.now in
    let i = c.loop-agent.agent in
    let within : i < length timetable.tracks = omega (arith, c.agents-agent-end.ensures.agents) in
    let is = is-track_at timetable i within in
    let own_moves = c.moves_of-own_moves.ensures (track_at timetable i) is in
    let own_needs = c.count_needs-needs.ensures ∙ ap (count_by is_some) (c.part_of.ensures (track_at timetable i) is) in
    record {
      moves = omega (arith, own_moves, sum-next timetable i within, c.loop-agent.invariant.moves);
      needs = omega (arith, own_needs, lines-next timetable i within, c.loop-agent.invariant.needs);
    }

pub returns-clause-moves : goal.returns-clause-moves
returns-clause-moves c =
    let timetable = c.args.graph.now in
    let i = c.loop-agent.agent in
    let past : length timetable.tracks ≤ i = omega (arith, c.agents-agent-end.ensures.agents) in
    let none = at_drop_all (sum_by moves) timetable.tracks i past in
    omega (arith, none, c.loop-agent.invariant.moves)

pub returns-clause-needs : goal.returns-clause-needs
returns-clause-needs c =
    let timetable = c.args.graph.now in
    let i = c.loop-agent.agent in
    let past : length timetable.tracks ≤ i = omega (arith, c.agents-agent-end.ensures.agents) in
    let none = at_drop_all (λ tracks. length (all_need_lines timetable i tracks)) timetable.tracks i past in
    omega (arith, none, c.loop-agent.invariant.needs)
