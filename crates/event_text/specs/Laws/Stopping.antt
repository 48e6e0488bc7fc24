-- What the reader of events answers that has no more of them.
use Rattle.std.proofs.Common.{◌≡◌, ℕ, List, sym, subst}
use Rattle.std.specs.Prelude.{Option}
use Rattle.text_io.specs.declared.counted.Counted.{Counted}
use Rattle.text_io.specs.Reading.{Outcome}
use Rattle.model.specs.declared.event.Event.{Event}
use Rattle.model.specs.declared.version.Version.{Version}
use Rattle.event_text.specs.declared.event_fault.EventFault.{EventFault}
use Rattle.event_text.specs.declared.header.Headers.{Headers}
use Rattle.event_text.specs.Taking.{NoMoreEvents}

-- no more events came, whatever the version is called
pub stopped_as : {R : Type 0} (remaining : R → Option (List ℕ)) (first now : Counted R)
    (headers : Headers) (version read : Option Version) (events : List Event)
    (outcome : Outcome (List Event) EventFault) → read ≡ version
    → NoMoreEvents headers remaining first now version events outcome
    → NoMoreEvents headers remaining first now read events outcome
stopped_as remaining first now headers version read events outcome e h =
    subst (λ v. NoMoreEvents headers remaining first now v events outcome) (sym e) h
