use Rattle.model.specs.Laws.Entries.{entries-rising, entries-own, entries-told, entries-few}
use Rattle.model.proofs.laws.entries_of_agents.Goals as goal

pub returns-clause-rising : goal.returns-clause-rising
returns-clause-rising c = entries-rising

pub returns-clause-own : goal.returns-clause-own
returns-clause-own c = entries-own

pub returns-clause-all : goal.returns-clause-all
returns-clause-all c = entries-told

pub returns-clause-few : goal.returns-clause-few
returns-clause-few c = entries-few
