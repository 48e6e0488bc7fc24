-- One agent more, whose moves may end later.
use Rattle.std.proofs.Common.{◌≡◌, ◌≤◌, inl, inr, arith, sym, subst, Some}
use Rattle.std.proofs.Math.Nat.{le-max_left, le-max_right}
use Rattle.std.proofs.lemmas.Bool.{cases_lt}
use Rattle.std.proofs.lemmas.Option.{slice_get_within}
use Rattle.model.specs.Timetable.{moves_before, track_of}
use Rattle.model.specs.Laws.Tracks.{moves-rise}
use Rattle.fleet_commands.specs.FoundTapes.{begun_by}
use Rattle.fleet_commands.proofs.StandingLemmas.{track-there}
use Rattle.fleet_commands.proofs.cut_time.cut_time.Goals as goal

pub loop-agent-preserved : goal.loop-agent-preserved
loop-agent-preserved c =
    let tt = c.args.dependencies.now in
    let agent = c.loop-agent.agent in
    let time = c.loop-agent.time in
    let end = c.end_of_begun-end.result in
    let later = c.later_of-time.ensures in
    let first = le-max_left time end in
    let second = le-max_right time end in
    let begun = c.begun_by.ensures in
    record {
      has = λ i track less there. elim (cases_lt i agent) [
        | inl before ↦
            (let had = c.loop-agent.invariant.has i track before there in
            let rise = moves-rise track.start track.later time c.later_of-time.result (omega (arith, later, first)) in
            omega (arith, had, rise))
        | inr past ↦
            (let same : agent ≡ i = omega (arith, less, past) in
            let has = (c.end_of_begun-end.ensures track (subst (λ n. track_of tt n ≡ Some track) (sym same) there)).has in
            let rise = moves-rise track.start track.later end c.later_of-time.result (omega (arith, later, second)) in
            subst (λ n. begun_by c.args.found.now n ≤ moves_before track c.later_of-time.result) same (omega (arith, begun, has, rise)))
      ];
      least = λ sooner all.
          (let found = track-there tt agent (let less = c.loop-agent-test.true in let count = c.agents-agent-end.ensures.agents in omega (arith, less, count)) in
          let before = c.loop-agent.invariant.least sooner all in
          let own = all agent found.0 found.1 in
          let last = (c.end_of_begun-end.ensures found.0 found.1).first sooner (omega (arith, own, begun)) in
          omega (arith, later, before, last));
    }

pub returns : goal.returns
returns c = record {
  has_all = λ i track there.
      (let within = slice_get_within c.args.dependencies.now.tracks i track there in
      let past = c.loop-agent-test.false in
      let count = c.agents-agent-end.ensures.agents in
      c.loop-agent.invariant.has i track (omega (arith, within, past, count)) there);
  least = c.loop-agent.invariant.least;
}
