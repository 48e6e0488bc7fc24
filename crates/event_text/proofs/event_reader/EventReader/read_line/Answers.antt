-- The line at hand is that of the event, and was taken with its LF.
use Rattle.std.proofs.Common.{◌++◌, ◌∷◌, [], Some, length, sym, ap, ◌∙◌, subst, arith, length-append}
use Rattle.text_io.specs.Source.{at_hand, Takes}
use Rattle.text_io.specs.Text.{line_feed}
use Rattle.event_text.specs.FirstEvents.{BeginsWithEvents}
use Rattle.event_text.specs.Taking.{SayEvents}
use Rattle.event_text.specs.Code.EventLines.{BeginsWithEvent}
use Rattle.event_text.proofs.FirstLemmas.{begins-read}
use Rattle.text_io.specs.Laws.Taking.{HasTaken-more}
use Rattle.event_text.proofs.LeadingLemmas.{taken_event}
use Rattle.event_text.proofs.LineLemmas.{event-short}
use Rattle.event_text.proofs.TextRead.{SayEvents-push}
use Rattle.event_text.proofs.event_reader.EventReader.read_line.Goals as goal

pub take-requires : goal.take-requires
take-requires g c =
    let at = c.in-Some.ensures in
    let size = ap length c.at_hand.ensures in
    omega (arith, ap length at.2, at.4, length-append at.0 (line_feed ∷ at.1), size)

pub returns-in-Some-clause-next : goal.returns-in-Some-clause-next
returns-in-Some-clause-next g c headers first events version h read =
    let old = c.args.source.now in
    let at = subst (BeginsWithEvent c.in-Some.event c.in-Some.count) c.at_hand.ensures c.in-Some.ensures in
    let line = at.0 in
    let taken = subst (Takes g.R.Read.remaining old c.take.new.self) (taken_event (at_hand old) line at.1 c.in-Some.count at.2 at.4) c.take.ensures.takes in
    let is_line = (event-short c.in-Some.event line at.3).is_line in
    let now = HasTaken-more g.R.Read.remaining first old c.take.new.self h.lines line h.taken taken (c.take.ensures.stop ∙ h.taken.goes_on) is_line in
    let said = subst (λ v. SayEvents headers v events h.lines) read h.said in
    let more = SayEvents-push headers version events h.lines c.in-Some.event line said at.3 in
    record {
      takes = h.takes;
      lines = h.lines ++ line ∷ [];
      taken = now;
      said = subst (λ v. SayEvents headers v (events ++ c.in-Some.event ∷ []) (h.lines ++ line ∷ [])) (sym read) more;
      begins =
          subst (λ v. BeginsWithEvents headers v (events ++ c.in-Some.event ∷ []) now.delivered) (sym read)
          (begins-read headers (Some version) (events ++ c.in-Some.event ∷ []) (h.lines ++ line ∷ []) _ _ more now.in_order);
      numbered = omega (arith, c.saturating_add-self.ensures, h.numbered, length-append h.lines (line ∷ []));
    }

pub returns-in-Some-clause-fewer_left : goal.returns-in-Some-clause-fewer_left
returns-in-Some-clause-fewer_left g c =
    let old = c.args.source.now in
    let at = subst (BeginsWithEvent c.in-Some.event c.in-Some.count) c.at_hand.ensures c.in-Some.ensures in
    let taken = taken_event (at_hand old) at.0 at.1 c.in-Some.count at.2 at.4 in
    omega (arith, c.take.ensures.takes.less_left, ap length taken, length-append at.0 (line_feed ∷ []))
