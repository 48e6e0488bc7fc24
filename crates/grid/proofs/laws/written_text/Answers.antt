use Rattle.grid.proofs.laws.written_text.Goals as goal
use Rattle.grid.proofs.MapLemmas.{spells, only}

-- src/laws.rt:19:1
pub returns-clause-spells : goal.returns-clause-spells
returns-clause-spells c = spells

-- src/laws.rt:19:1
pub returns-clause-only : goal.returns-clause-only
returns-clause-only c = only
