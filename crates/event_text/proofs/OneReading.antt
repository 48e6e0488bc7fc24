-- A text has one reading, whichever headers are taken.
use Rattle.std.proofs.Common.{◌≡◌, ℕ, List, Some, sym, ◌∙◌}
use Rattle.text_io.specs.Reading.{IsFirstFault}
use Rattle.model.specs.declared.event.Event.{Event}
use Rattle.model.specs.declared.version.Version.{Version}
use Rattle.event_text.specs.declared.event_fault.EventFault.{EventFault}
use Rattle.event_text.specs.declared.header.Headers.{Headers}
use Rattle.event_text.specs.EventText.{RunText}
use Rattle.event_text.specs.EventFault.{EventFaultAt}
use Rattle.event_text.proofs.FirstLemmas.{FirstEvents-same, FirstEvents-all}
use Rattle.event_text.proofs.TextScanned.{found-from_IsFirstFault, none_found}

same_version : (v w : Version) → Some v ≡ Some w → v ≡ w
same_version v w e = cc

pub run-same : (headers : Headers) (v w : Version) (es fs : List Event) (text : List ℕ) → RunText headers (v, es) text → RunText headers (w, fs) text
    → (v ≡ w) × (es ≡ fs)
run-same headers v w es fs text h k =
    let same = FirstEvents-same headers (Some v) (Some w) es fs text (FirstEvents-all headers v es text h) (FirstEvents-all headers w fs text k) in
    (same_version v w same.0, same.1)

pub fault-same : (headers : Headers) (f g : EventFault) (text : List ℕ) → IsFirstFault (EventFaultAt headers) f text
    → IsFirstFault (EventFaultAt headers) g text → f ≡ g
fault-same headers f g text p q =
    let first = found-from_IsFirstFault headers f text p in
    let second = found-from_IsFirstFault headers g text q in
    cc

pub never : (headers : Headers) (v : Version) (es : List Event) (f : EventFault) (text : List ℕ) → RunText headers (v, es) text
    → IsFirstFault (EventFaultAt headers) f text → ⊥
never headers v es f text h k =
    let bad = sym (none_found headers v es text h) ∙ found-from_IsFirstFault headers f text k in
    cc
