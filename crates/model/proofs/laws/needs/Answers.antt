use Rattle.model.specs.Timetable.{moves_before}
use Rattle.model.specs.Laws.Waits.{last-within, last-in_time}
use Rattle.model.specs.Laws.Needs.{up_to, last_stand-is, is_need, awaits}
use Rattle.model.proofs.laws.needs.Goals as goal

pub returns-clause-last : goal.returns-clause-last
returns-clause-last c = λ tab cell t. up_to tab cell t _ (last_stand-is tab cell t)

pub returns-clause-need : goal.returns-clause-need
returns-clause-need c = is_need

pub returns-clause-planned : goal.returns-clause-planned
returns-clause-planned c = λ tab i k track asked free there less asks.
    let a = awaits tab i track k asked free there less asks in
    (a.to, moves_before a.to a.time, a.is_to, a.count, last-within tab i track k asked a, last-in_time tab i track k asked a)
