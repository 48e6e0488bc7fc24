use Rattle.std.proofs.Common.{◌≡◌, length, subst}
use Rattle.model.specs.Timetable.{IsConflictFree}
use Rattle.executor.proofs.NeedLemmas.{asked-there}
use Rattle.executor.proofs.ending.Ending.need.Goals as goal

pub returns-clause-there : goal.returns-clause-there
returns-clause-there c =
    asked-there c.args.self.now c.args.agent c.need_of-need.result (subst (λ s. IsConflictFree s.timetable) c.self.view_is c.agents.ensures.within.conflict_free)
    (subst (λ s. length s.agents ≡ length s.timetable.tracks) c.self.view_is c.self.invariant.0) c.need_of-need.ensures
