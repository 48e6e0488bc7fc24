-- The line is by what is known of the agent.
use Rattle.std.proofs.Common.{◌≡◌, ◌/◌, [], false, Some, None, Ok, Err, sym, ap, subst, ◌∙◌, arith}
use Rattle.std.specs.Prelude.{MatchOption, slice_get}
use Rattle.std.proofs.lemmas.Option.{slice_get-get_or}
use Rattle.depgraph.specs.AgentParts.{AgentPart, IsPartOf}
use Rattle.agent.specs.States.{held_by_tape}
use Rattle.model.specs.Timetable.{moves, track_of}
use Rattle.model.specs.declared.held.Held.{Held}
use Rattle.fleet_commands.specs.StatusText.{agent_line_by}
use Rattle.fleet_commands.specs.declared.status_line.StatusLine.TheVariants.{Agent}
use Rattle.fleet_commands.proofs.StandingLemmas.{track-there}
use Rattle.fleet_commands.proofs.status_lines.agent_line.Goals as goal

pub returns-in-Ok : goal.returns-in-Ok
returns-in-Ok c =
    let tt = c.args.dependencies.now in
    let i = c.args.agent in
    let there = c.requires.there in
    let all = c.requires.all in
    let found : slice_get c.args.found.now i ≡ Some (Ok c.in-Ok.count) = slice_get-get_or c.args.found.now i (Ok 0) (omega (arith, there, all)) ∙ ap Some c.in-Ok.is in
    let part = subst (λ o. MatchOption o (track_of tt i ≡ None) (λ (p : AgentPart). IsPartOf tt p × (p.agent ≡ i))) c.unwrap-part.ensures c.part.ensures in
    let is = part.0 in
    let track : track_of tt i ≡ Some is.track = ap (track_of tt) (sym part.1) ∙ is.is_track in
    let held = held_by_tape is.track (record { records = c.in-Ok.count; heard = []; broken = false }) in
    let line = agent_line_by tt c.args.found.now i in
    ap (λ (h : Held). Agent (record { agent = i; held = h; done = c.done.result; all = c.own_moves.result; keeping = c.kept_now.result })) (c.held.ensures tt is)
    ∙ ap (λ done. Agent (record { agent = i; held = held; done = done; all = c.own_moves.result; keeping = c.kept_now.result })) c.done.ensures
    ∙ ap (λ all. Agent (record { agent = i; held = held; done = c.in-Ok.count / 2; all = all; keeping = c.kept_now.result })) (c.own_moves.ensures.moves tt is)
    ∙ ap (λ k. Agent (record { agent = i; held = held; done = c.in-Ok.count / 2; all = moves is.track; keeping = k })) c.kept_now.ensures
    ∙ sym (ap (λ o. line o (slice_get c.args.found.now i)) track ∙ ap (line (Some is.track)) found)

pub returns-in-Err : goal.returns-in-Err
returns-in-Err c =
    let tt = c.args.dependencies.now in
    let i = c.args.agent in
    let there = c.requires.there in
    let all = c.requires.all in
    let found : slice_get c.args.found.now i ≡ Some (Err c.in-Err.fault) = slice_get-get_or c.args.found.now i (Ok 0) (omega (arith, there, all)) ∙ ap Some c.in-Err.is in
    let track = track-there tt i there in
    sym (ap (λ o. agent_line_by tt c.args.found.now i o (slice_get c.args.found.now i)) track.1 ∙ ap (agent_line_by tt c.args.found.now i (Some track.0)) found)
