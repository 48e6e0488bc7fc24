-- No deed goes past the end of the plan by which it is done.
use Rattle.std.proofs.Common.{◌≡◌, sym, ap, ◌∙◌, arith}
use Rattle.std.proofs.lemmas.Option.{same_Some}
use Rattle.model.specs.Timetable.{moves}
use Rattle.agent.specs.Tape.{whole_records}
use Rattle.fleet.proofs.WithinLemmas.{stays}
use Rattle.fleet.proofs.laws.tapes_stay_within.Goals as goal

pub returns-clause-opened : goal.returns-clause-opened
returns-clause-opened g c table i track tape agent opened there =
    let same = same_Some opened.track track (sym opened.is_track ∙ there) in
    let limit = opened.size.limit in
    let kept : whole_records (g.T.Tape.state agent.tape) ≡ whole_records (g.T.Tape.state tape) = ap (λ l. whole_records (record { contents = l; room = 0; failures = 0 })) opened.contents in
    let size = ap moves same in
    omega (arith, limit, kept, size)

pub returns-clause-led : goal.returns-clause-led
returns-clause-led g c table i track old deed new within does = stays table i track old within deed new does
