use Rattle.grid.proofs.laws.one_reading.Goals as goal
use Rattle.grid.proofs.Judging.{one_fault}
use Rattle.grid.proofs.MapLemmas.{one_map, never_both}
use Rattle.grid.proofs.Deciding.{some_reading}

-- src/laws.rt:10:1
pub returns-clause-some : goal.returns-clause-some
returns-clause-some c = some_reading

-- src/laws.rt:10:1
pub returns-clause-one_map : goal.returns-clause-one_map
returns-clause-one_map c = one_map

-- src/laws.rt:10:1
pub returns-clause-one_fault : goal.returns-clause-one_fault
returns-clause-one_fault c = one_fault

-- src/laws.rt:10:1
pub returns-clause-never_both : goal.returns-clause-never_both
returns-clause-never_both c = never_both
