use Rattle.model.specs.Laws.After.{history-more, accepted-more, run-more}
use Rattle.model.proofs.laws.events_one_after_another.Goals as goal

pub returns-clause-history : goal.returns-clause-history
returns-clause-history c = history-more

pub returns-clause-accepted : goal.returns-clause-accepted
returns-clause-accepted c = accepted-more

pub returns-clause-run : goal.returns-clause-run
returns-clause-run c = run-more
