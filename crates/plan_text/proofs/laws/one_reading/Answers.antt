-- What is said line by line is the one reading.
use Rattle.std.proofs.Common.{◌⊎◌, inl, inr, sym, ◌∙◌}
use Rattle.text_io.specs.Reading.{by_line_feed, IsFirstFault}
use Rattle.model.specs.Plan.{Plan}
use Rattle.plan_text.specs.declared.plan_text_fault.PlanTextFault.{PlanTextFault}
use Rattle.plan_text.specs.PlanText.{PlanText}
use Rattle.plan_text.specs.PlanTextFault.{PlanTextFaultAt}
use Rattle.plan_text.proofs.WrittenLemmas.{PlanText-same}
use Rattle.plan_text.proofs.TextScanned.{found-from_IsFirstFault, none_found}
use Rattle.plan_text.proofs.TextRead.{spelled, faulty, reading_of}
use Rattle.plan_text.proofs.laws.one_reading.Goals as goal

pub returns-clause-some : goal.returns-clause-some
returns-clause-some c text =
    let cut = c.places.ensures.cut text in
    elim (reading_of (c.places.ensures.found by_line_feed) (c.places.ensures.last by_line_feed) c.places.ensures.written_end text cut.1 cut.0 cut.2)
    as (λ r. ((p : Plan) × PlanText p text) ⊎ ((f : PlanTextFault) × IsFirstFault PlanTextFaultAt f text)) [
      | spelled p spells ↦ inl (p, spells)
      | faulty f first ↦ inr (f, first)
    ]

pub returns-clause-one_plan : goal.returns-clause-one_plan
returns-clause-one_plan c text p q h k = PlanText-same c.places.ensures.written p q text h k

pub returns-clause-one_fault : goal.returns-clause-one_fault
returns-clause-one_fault c text f g p q =
    let stands = c.places.ensures.stands by_line_feed in
    let last = c.places.ensures.last by_line_feed in
    let first = found-from_IsFirstFault stands last c.places.ensures.written_end f text p in
    let second = found-from_IsFirstFault stands last c.places.ensures.written_end g text q in
    cc

pub returns-clause-never_both : goal.returns-clause-never_both
returns-clause-never_both c text p f h k =
    let none = none_found c.places.ensures.written c.places.ensures.written_end p text h in
    let some =
    found-from_IsFirstFault (c.places.ensures.stands by_line_feed) (c.places.ensures.last by_line_feed) c.places.ensures.written_end f text k in
    let bad = sym none ∙ some in
    cc
