-- A fault behind the header is none of its, and the header of version 2 is a whole line that is not that of version 1.
use Rattle.std.proofs.Common.{◌≡◌, ◌≢◌, ℕ, List, [], ◌∷◌, ◌++◌, inl, inr, refl, subst, arith}
use Rattle.text_io.specs.Text.{ended, line_feed}
use Rattle.text_io.specs.Reading.{Place, at_line_feed, at_end}
use Rattle.model.specs.declared.version.Version.TheVariants.{Two}
use Rattle.event_text.specs.declared.event_fault.EventFault.{EventFault}
use Rattle.event_text.specs.declared.event_fault.EventFault.TheVariants.{NoHeader, BadEvent, Unfinished, ReadFailed, OutOfMemory}
use Rattle.event_text.specs.declared.header.Headers.TheVariants.{VersionOne, Either}
use Rattle.event_text.specs.EventText.{event_header}
use Rattle.event_text.specs.EventFault.{EventDue, event_header_due, event_due, HasEventFault, EventFaultAt}
use Rattle.event_text.specs.Code.EventLines.{EventLeads}
use Rattle.event_text.proofs.HeaderLemmas.{header-same}
use Rattle.event_text.proofs.laws.versions.Goals as goal

pub returns-clause-one : goal.returns-clause-one
returns-clause-one c text es = ((λ h. (tt, h)), (λ h. h.1))

-- the header of version 1 is one of either
leads-either : (before : List (List ℕ)) (due : EventDue) → EventLeads (event_header_due VersionOne) before due → (before ≡ [] → ⊥)
    → EventLeads (event_header_due Either) before due
leads-either [] due h some = absurd (some refl)
leads-either (line ∷ before) due h some = (h.0, ((h.1.0.0, tt, h.1.0.2), h.1.1), h.2)

-- where a header is due no other fault is
of_header : (fault : EventFault) (place : Place) (due : EventDue) (number : ℕ) (line : List ℕ) → HasEventFault fault place due number line
    → due ≡ event_header_due VersionOne → fault ≡ NoHeader
of_header NoHeader place due number line h e = refl
of_header (BadEvent at) place (event_header_due headers) number line h e = absurd h
of_header (BadEvent at) place event_due number line h e = cc
of_header (Unfinished at) place (event_header_due headers) number line h e = absurd h
of_header (Unfinished at) place event_due number line h e = cc
of_header ReadFailed place due number line h e = absurd h
of_header OutOfMemory place due number line h e = absurd h

fault-either : (fault : EventFault) (place : Place) (text : List ℕ) → fault ≢ NoHeader → EventFaultAt VersionOne fault place text
    → EventFaultAt Either fault place text
fault-either fault place text other at = record {
  before = at.before;
  line = at.line;
  due = at.due;
  judged = at.judged;
  right =
      leads-either at.before at.due at.right
      (λ none. other (of_header fault place at.due _ at.line at.faulty (subst (λ ls. EventLeads (event_header_due VersionOne) ls at.due) none at.right)));
  faulty = at.faulty;
}

pub returns-clause-fault : goal.returns-clause-fault
returns-clause-fault c text f other (inl (front, rest, place, bytes, byte, at)) =
    inl (front, rest, place, bytes, byte, fault-either f place front other at)
returns-clause-fault c text f other (inr at) = inr (fault-either f at_end text other at)

pub returns-clause-two : goal.returns-clause-two
returns-clause-two c text es h =
    inl (
      event_header Two ++ line_feed ∷ [],
      ended h.event_lines,
      at_line_feed,
      h.lines,
      tt,
      record {
        before = [];
        line = event_header Two;
        due = event_header_due VersionOne;
        judged = (refl, refl);
        right = refl;
        faulty = inl (omega arith, λ k. let same = header-same Two k.0 k.2 in let one = k.1 in cc);
      },
    )
