-- As for version 1 alone.
use Rattle.std.proofs.Common.{◌⊎◌, inl, inr, List, ap, ◌∙◌}
use Rattle.text_io.specs.Reading.{IsFirstFault}
use Rattle.model.specs.declared.event.Event.{Event}
use Rattle.model.specs.declared.version.Version.{Version}
use Rattle.event_text.specs.declared.event_fault.EventFault.{EventFault}
use Rattle.event_text.specs.declared.header.Headers.TheVariants.{Either}
use Rattle.event_text.specs.EventText.{RunText}
use Rattle.event_text.specs.EventFault.{EventFaultAt}
use Rattle.event_text.proofs.OneReading.{run-same, fault-same, never}
use Rattle.event_text.proofs.TextRead.{spelled, faulty, reading_of}
use Rattle.event_text.proofs.laws.one_reading_any.Goals as goal

pub returns-clause-some : goal.returns-clause-some
returns-clause-some c text =
    elim (reading_of Either text) as (λ r. ((run : Version × List Event) × RunText Either run text) ⊎ ((f : EventFault) × IsFirstFault (EventFaultAt Either) f text)) [
      | spelled version events spells ↦ inl ((version, events), spells)
      | faulty f first ↦ inr (f, first)
    ]

pub returns-clause-one_run : goal.returns-clause-one_run
returns-clause-one_run c text r s h k =
    let same = run-same Either r.0 s.0 r.1 s.1 text h k in
    ap (λ v. (v, r.1)) same.0 ∙ ap (λ es. (s.0, es)) same.1

pub returns-clause-one_fault : goal.returns-clause-one_fault
returns-clause-one_fault c text f g p q = fault-same Either f g text p q

pub returns-clause-never_both : goal.returns-clause-never_both
returns-clause-never_both c text r f h k = never Either r.0 r.1 f text h k
