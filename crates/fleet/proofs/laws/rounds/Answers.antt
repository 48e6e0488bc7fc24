use Rattle.fleet.proofs.RoundLemmas.{comes-on, ends-in-time, fleet-within}
use Rattle.fleet.proofs.laws.rounds.Goals as goal

pub returns-clause-comes_on : goal.returns-clause-comes_on
returns-clause-comes_on c table log old during new free unswapped none fleet round =
    comes-on table free unswapped (λ turns. none turns.0 turns.1 turns.2) old new during (fleet-within table log old fleet) round

pub returns-clause-ends : goal.returns-clause-ends
returns-clause-ends c table n log states free unswapped none fleet rounds enough =
    ends-in-time table free unswapped (λ turns. none turns.0 turns.1 turns.2) n states (fleet-within table log states fleet) rounds enough
