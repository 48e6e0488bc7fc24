-- What is found line by line is the one reading.
use Rattle.std.proofs.Common.{◌⊎◌, inl, inr, List, refl, subst}
use Rattle.text_io.specs.Reading.{IsFirstFault}
use Rattle.model.specs.declared.event.Event.{Event}
use Rattle.model.specs.declared.version.Version.TheVariants.{One}
use Rattle.event_text.specs.declared.event_fault.EventFault.{EventFault}
use Rattle.event_text.specs.declared.header.Headers.TheVariants.{VersionOne}
use Rattle.event_text.specs.EventText.{EventText}
use Rattle.event_text.specs.EventFault.{EventFaultAt}
use Rattle.event_text.proofs.OneReading.{run-same, fault-same, never}
use Rattle.event_text.proofs.TextRead.{spelled, faulty, reading_of}
use Rattle.event_text.proofs.laws.one_reading.Goals as goal

pub returns-clause-some : goal.returns-clause-some
returns-clause-some c text =
    elim (reading_of VersionOne text) as (λ r. ((es : List Event) × EventText One es text) ⊎ ((f : EventFault) × IsFirstFault (EventFaultAt VersionOne) f text)) [
      | spelled version events spells ↦ inl (events, subst (λ v. EventText v events text) spells.0 spells.1)
      | faulty f first ↦ inr (f, first)
    ]

pub returns-clause-one_list : goal.returns-clause-one_list
returns-clause-one_list c text es fs h k = (run-same VersionOne One One es fs text (refl, h) (refl, k)).1

pub returns-clause-one_fault : goal.returns-clause-one_fault
returns-clause-one_fault c text f g p q = fault-same VersionOne f g text p q

pub returns-clause-never_both : goal.returns-clause-never_both
returns-clause-never_both c text es f h k = never VersionOne One es f text (refl, h) k
