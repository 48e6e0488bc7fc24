-- What is written has one reading, and is the one text of its plan.
use Rattle.plan_text.specs.PlanText.{canonical_plan_text}
use Rattle.plan_text.proofs.WrittenLemmas.{PlanText-canonical, PlanText-text, PlanText-same}
use Rattle.plan_text.proofs.laws.written_text.Goals as goal

pub returns-clause-spells : goal.returns-clause-spells
returns-clause-spells c p within = PlanText-canonical p within

pub returns-clause-only : goal.returns-clause-only
returns-clause-only c p q within spells =
    PlanText-same c.places.ensures.written q p (canonical_plan_text p) spells (PlanText-canonical p within)

pub returns-clause-one_text : goal.returns-clause-one_text
returns-clause-one_text c p text spells = PlanText-text p text spells
