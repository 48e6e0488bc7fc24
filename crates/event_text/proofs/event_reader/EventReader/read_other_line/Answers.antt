-- What the line says, as it was taken.
use Rattle.std.proofs.Common.{◌≡◌, ◌++◌, ◌∷◌, [], Some, None, min, length-append, take, sym, ap, ◌∙◌, subst, arith}
use Rattle.event_text.specs.FirstEvents.{BeginsWithEvents}
use Rattle.event_text.specs.Taking.{SayEvents}
use Rattle.event_text.specs.Code.EventLines.{event_of}
use Rattle.event_text.proofs.EventLemmas.{event_of-says, none-spells}
use Rattle.event_text.proofs.FirstLemmas.{begins-read}
use Rattle.event_text.proofs.TextRead.{SayEvents-push}
use Rattle.event_text.proofs.EventsRead.{other_line, long_line, failed, unfinished, ended_well}
use Rattle.event_text.specs.Laws.Stopping.{stopped_as}
use Rattle.event_text.proofs.event_reader.EventReader.read_other_line.Goals as goal

pub returns-in_default-clause-next : goal.returns-in_default-clause-next
returns-in_default-clause-next g c headers first events version h read =
    let said = subst (λ v. SayEvents headers v events h.lines) read h.said in
    let room = c.take_line.new.room in
    let count = c.in-WithLineFeed.count in
    let t = c.in-WithLineFeed.ensures.taken first h.lines h.taken in
    let all : min count 64 ≡ count = omega (arith, t.in_room, c.take_line.auto.room) in
    let none : event_of (take count room) ≡ None = ap (λ n. event_of (take n room)) (sym all) ∙ (ap event_of (sym c.taken.ensures) ∙ sym c.read_event.ensures) ∙ c.in_default.is in
    stopped_as g.R.Read.remaining first _ headers (Some version) _ events _ read
    (other_line g.R.Read.remaining first _ headers (Some version) events h.lines room count c.args.self.now.number h.numbered (omega (arith, c.take_line.auto.room)) t said
    (none-spells (take count room) none))

pub returns-in-Some-clause-next : goal.returns-in-Some-clause-next
returns-in-Some-clause-next g c headers first events version h read =
    let said = subst (λ v. SayEvents headers v events h.lines) read h.said in
    let room = c.take_line.new.room in
    let count = c.in-WithLineFeed.count in
    let t = c.in-WithLineFeed.ensures.taken first h.lines h.taken in
    let all : min count 64 ≡ count = omega (arith, t.in_room, c.take_line.auto.room) in
    let told : event_of (take count room) ≡ Some c.in-Some.event = ap (λ n. event_of (take n room)) (sym all) ∙ (ap event_of (sym c.taken.ensures) ∙ sym c.read_event.ensures) ∙ c.in-Some.is in
    let more = SayEvents-push headers version events h.lines c.in-Some.event (take count room) said (event_of-says c.in-Some.event (take count room) told) in
    record {
      takes = h.takes;
      lines = h.lines ++ take count room ∷ [];
      taken = t.taken;
      said = subst (λ v. SayEvents headers v (events ++ c.in-Some.event ∷ []) (h.lines ++ take count room ∷ [])) (sym read) more;
      begins =
          subst (λ v. BeginsWithEvents headers v (events ++ c.in-Some.event ∷ []) t.taken.delivered) (sym read)
          (begins-read headers (Some version) (events ++ c.in-Some.event ∷ []) (h.lines ++ take count room ∷ []) _ _ more t.taken.in_order);
      numbered = omega (arith, c.saturating_add-self.ensures, h.numbered, length-append h.lines (take count room ∷ []));
    }

pub returns-in-AtEnd-eq0-clause-next : goal.returns-in-AtEnd-eq0-clause-next
returns-in-AtEnd-eq0-clause-next g c headers first events version h read =
    let said = subst (λ v. SayEvents headers v events h.lines) read h.said in
    stopped_as g.R.Read.remaining first _ headers (Some version) _ events _ read
    (ended_well g.R.Read.remaining first _ headers events h.lines version c.take_line.new.room c.in-AtEnd-eq0.field-0 (omega (arith, c.in-AtEnd-eq0.field-0-test))
    (c.in-AtEnd-eq0.ensures.taken first h.lines h.taken) said)

pub returns-in-AtEnd-clause-next : goal.returns-in-AtEnd-clause-next
returns-in-AtEnd-clause-next g c headers first events version h read =
    let said = subst (λ v. SayEvents headers v events h.lines) read h.said in
    stopped_as g.R.Read.remaining first _ headers (Some version) _ events _ read
    (unfinished g.R.Read.remaining first _ headers events h.lines version c.take_line.new.room c.in-AtEnd.field-0 c.args.self.now.number h.numbered
    (omega (arith, c.take_line.auto.room)) (omega (arith, c.in-AtEnd.field-0-test)) (c.in-AtEnd.ensures.taken first h.lines h.taken) said)

pub returns-in-TooLong-clause-next : goal.returns-in-TooLong-clause-next
returns-in-TooLong-clause-next g c headers first events version h read =
    let said = subst (λ v. SayEvents headers v events h.lines) read h.said in
    stopped_as g.R.Read.remaining first _ headers (Some version) _ events _ read
    (long_line g.R.Read.remaining first _ headers (Some version) events h.lines c.take_line.new.room c.args.self.now.number h.numbered (omega (arith, c.take_line.auto.room))
    (c.in-TooLong.ensures.taken first h.lines h.taken) said)

pub returns-in-Failed-clause-next : goal.returns-in-Failed-clause-next
returns-in-Failed-clause-next g c headers first events version h read =
    let said = subst (λ v. SayEvents headers v events h.lines) read h.said in
    stopped_as g.R.Read.remaining first _ headers (Some version) _ events _ read
    (failed g.R.Read.remaining first _ headers (Some version) events h.lines c.take_line.new.room (omega (arith, c.take_line.auto.room))
    (c.in-Failed.ensures.taken first h.lines h.taken) said)
