use Rattle.model.specs.Laws.Waits.{twice, rotation}
use Rattle.model.proofs.laws.waiting_in_a_circle.Goals as goal

pub returns-clause-twice : goal.returns-clause-twice
returns-clause-twice c = λ tab finished agents first second i free unswapped chain less at_first at_second.
    twice tab finished free unswapped agents chain first second i less at_first at_second

pub returns-clause-many : goal.returns-clause-many
returns-clause-many c = λ tab finished agents free unswapped chain there long. rotation tab finished free unswapped agents chain there long
