-- Past the longest course nothing is told.
use Rattle.std.proofs.Common.{arith, ap}
use Rattle.model.specs.Plan.{longest_of}
use Rattle.checker.proofs.SameFaults.{longest-few}
use Rattle.checker.proofs.TimeLemmas.{late-listed}
use Rattle.checker.proofs.finding.Finder.list_time.Goals as goal

pub longest-requires : goal.longest-requires
longest-requires c =
    let few = longest-few c.args.self.now.plan.now.courses c.courses-courses.ensures.within.courses in
    let same = ap longest_of c.courses-courses.ensures.courses in
    omega (arith, few, same)

pub returns-then-time-longest-clause-listed : goal.returns-then-time-longest-clause-listed
returns-then-time-longest-clause-listed c =
    let late = c.if-time-longest.true in
    let longest = c.longest.ensures in
    let same = ap longest_of c.courses-courses.ensures.courses in
    late-listed c.args.self.now.map.now c.args.self.now.plan.now c.args.time c.args.listing.now (omega (arith, late, longest, same)) c.requires
