use Rattle.std.proofs.Common.{length, refl, sym}
use Rattle.std.proofs.lemmas.Bool.{ltb-false}
use Rattle.std.proofs.lemmas.Option.{slice_get_read}
use Rattle.proof_check.proofs.TrailLemmas.{goal_at, goal_past}
use Rattle.proof_check.proofs.asking.goal_of.Goals as goal

pub returns-in-Some : goal.returns-in-Some
returns-in-Some c =
    let found = c.in-Some.ensures.lookup in
    let ends = c.args.ends.now in
    goal_at ends c.args.agent c.in-Some.own.now (slice_get_read ends (length ends) c.args.agent c.in-Some.own.now refl found.3.0 found.1)

pub returns-in-None : goal.returns-in-None
returns-in-None c = goal_past c.args.ends.now c.args.agent (ltb-false c.args.agent (length c.args.ends.now) (sym c.in-None.ensures.lookup.0))
