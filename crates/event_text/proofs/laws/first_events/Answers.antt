-- Line by line.
use Rattle.event_text.proofs.FirstLemmas.{FirstEvents-same, FirstEvents-all, first_events_of}
use Rattle.event_text.proofs.laws.first_events.Goals as goal

pub returns-clause-some : goal.returns-clause-some
returns-clause-some c headers text = first_events_of headers text

pub returns-clause-one_version : goal.returns-clause-one_version
returns-clause-one_version c headers text v w es fs h k = (FirstEvents-same headers v w es fs text h k).0

pub returns-clause-one_list : goal.returns-clause-one_list
returns-clause-one_list c headers text v w es fs h k = (FirstEvents-same headers v w es fs text h k).1

pub returns-clause-all : goal.returns-clause-all
returns-clause-all c headers text v es h = FirstEvents-all headers v es text h
