-- Each turn puts the lines of the first of the agents that are left.
use Rattle.std.proofs.Common.{◌∙◌, ◌+◌, ◌<◌, length, drop, refl, sym, ap, subst, arith}
use Rattle.std.proofs.lemmas.Result.{err_from_is_err_and}
use Rattle.text_io.specs.Text.{ended}
use Rattle.text_io.specs.Sink.{Leaves}
use Rattle.text_io.specs.Laws.Putting.{Leaves-all, Leaves-less, Leaves-broken}
use Rattle.plan_commands.specs.DepsText.{all_need_lines, need_lines, needs_of}
use Rattle.plan_commands.proofs.DepsLemmas.{ended-next, is-track_at, length-needs_of, track_at}
use Rattle.plan_commands.proofs.deps_text.put_all_needs.Goals as goal

pub put_needs-requires : goal.put_needs-requires
put_needs-requires g c =
    let timetable = c.args.graph.now in
    let i = c.loop-agent.agent in
    let within : i < length timetable.tracks = omega (arith, c.agents-agent-end.ensures.agents) in
    let is = is-track_at timetable i within in
    ap length (c.part_of.ensures (track_at timetable i) is) ∙ length-needs_of timetable i (track_at timetable i)
    ∙ sym (c.moves_of.ensures (track_at timetable i) is)

pub loop-agent-init : goal.loop-agent-init
loop-agent-init g c = Leaves-all g.W.Write.contents _ _ _ refl

pub returns-in_err-put_needs-clause-err : goal.returns-in_err-put_needs-clause-err
returns-in_err-put_needs-clause-err g c =
    let p = err_from_is_err_and c.from_residual.result c.from_residual.ensures.1 in
    let timetable = c.args.graph.now in
    let i = c.loop-agent.agent in
    let within : i < length timetable.tracks = omega (arith, c.agents-agent-end.ensures.agents) in
    let own = ended (need_lines i 0 (needs_of timetable i (track_at timetable i))) in
    let left = ended (all_need_lines timetable (i + 1) (drop (i + 1) timetable.tracks)) in
    let next = subst (Leaves g.W.Write.contents _ _ _) (ended-next timetable i within) c.loop-agent.invariant in
    rw p.1 (Leaves-broken g.W.Write.contents _ _ _ _ own left _ next
    (ap (λ needs. ended (need_lines i 0 needs)) (c.part_of.ensures (track_at timetable i) (is-track_at timetable i within))) c.in_err-put_needs.ensures.err)

pub loop-agent-preserved : goal.loop-agent-preserved
loop-agent-preserved g c =
    let timetable = c.args.graph.now in
    let i = c.loop-agent.agent in
    let within : i < length timetable.tracks = omega (arith, c.agents-agent-end.ensures.agents) in
    let own = ended (need_lines i 0 (needs_of timetable i (track_at timetable i))) in
    let left = ended (all_need_lines timetable (i + 1) (drop (i + 1) timetable.tracks)) in
    let next = subst (Leaves g.W.Write.contents _ _ _) (ended-next timetable i within) c.loop-agent.invariant in
    Leaves-less g.W.Write.contents _ _ _ _ own left _ next
    (ap (λ needs. ended (need_lines i 0 needs)) (c.part_of.ensures (track_at timetable i) (is-track_at timetable i within))) c.in_ok-put_needs.ensures.ok
