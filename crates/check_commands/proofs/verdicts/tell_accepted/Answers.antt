-- The bounds were found, and the line is that of them.
use Rattle.std.proofs.Common.{◌≡◌, ℕ, List, ap, inl, length, sum, true}
use Rattle.ending.specs.Ending.{answered_with}
use Rattle.ending.specs.declared.status.Status.TheVariants.{Done}
use Rattle.bounding.specs.Bounding.{greatest_bound}
use Rattle.model.specs.Costs.{makespan, sum_of_costs}
use Rattle.check_commands.specs.VerdictText.{bounded_line}
use Rattle.check_commands.proofs.EndingLemmas.{ended}
use Rattle.check_commands.proofs.verdicts.tell_accepted.Goals as goal

pub returns-in-Ok : goal.returns-in-Ok
returns-in-Ok g c =
    let timetable = c.args.plan.now.timetable in
    let line : List ℕ → List ℕ = λ bounds. bounded_line c.args.terms.now.json (length timetable.tracks) (sum_of_costs timetable) (makespan timetable) (sum bounds) (greatest_bound bounds) in
    let bounds = c.in-Ok.bounds.items in
    let wrote = ended g.W.Write.contents c.args.out.now c.write_bounded-written.new.writer c.finish.new.out (line c.deref.result.now) (line bounds) _ _ (answered_with Done) _
    c.answered_with.ensures (ap line c.deref.ensures.value) c.write_bounded-written.ensures c.finish.ensures in
    let asked : c.args.terms.now.bound ≡ true = c.if-not-terms.false in
    rw asked (inl (bounds, c.in-Ok.ensures.bounds, c.in-Ok.ensures.all, wrote))
