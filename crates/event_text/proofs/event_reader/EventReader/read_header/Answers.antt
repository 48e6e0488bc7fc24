-- The line is a header that is taken, or there is none.
use Rattle.std.proofs.Common.{◌≡◌, ◌++◌, ◌∷◌, [], None, Some, refl, min, take, sym, ap, ◌∙◌, subst, arith}
use Rattle.text_io.specs.Reading.{line_number}
use Rattle.event_text.specs.EventText.{TakesHeader, IsHeader}
use Rattle.event_text.specs.Taking.{SayEvents}
use Rattle.event_text.proofs.FirstLemmas.{begins-read}
use Rattle.event_text.proofs.TextRead.{SayEvents-header}
use Rattle.event_text.proofs.EventsRead.{other_line, failed, no_header-taken}
use Rattle.event_text.proofs.event_reader.EventReader.read_header.Goals as goal

pub returns-in_default-clause-taken : goal.returns-in_default-clause-taken
returns-in_default-clause-taken g c headers first events h read =
    let said = subst (λ v. SayEvents headers v events h.lines) read h.said in
    let room = c.take_line.new.room in
    let count = c.in-WithLineFeed.count in
    let t = c.in-WithLineFeed.ensures.taken first h.lines h.taken in
    let all : min count 64 ≡ count = omega (arith, t.in_room, c.take_line.auto.room) in
    let line : c.taken.result.now ≡ take count room = c.taken.ensures ∙ ap (λ n. take n room) all in
    let other : IsHeader headers (take count room) → ⊥ =
    λ k. c.in_default.ensures (k.0, subst (λ hs. TakesHeader hs k.0) (sym h.takes) k.1, line ∙ k.2) in (
      other_line g.R.Read.remaining first _ headers None events h.lines room count c.args.self.now.number h.numbered (omega (arith, c.take_line.auto.room)) t
          said other,
      read,
    )

pub returns-in-AtEnd-clause-taken : goal.returns-in-AtEnd-clause-taken
returns-in-AtEnd-clause-taken g c headers first events h read =
    let said = subst (λ v. SayEvents headers v events h.lines) read h.said in (
      no_header-taken g.R.Read.remaining first _ headers events h.lines c.take_line.new.room c.take_line.result c.args.self.now.number c.in-AtEnd.is h.numbered
          (omega (arith, c.take_line.auto.room)) (c.take_line.ensures.taken first h.lines h.taken) said,
      read,
    )

pub returns-in-Failed-clause-taken : goal.returns-in-Failed-clause-taken
returns-in-Failed-clause-taken g c headers first events h read =
    let said = subst (λ v. SayEvents headers v events h.lines) read h.said in (
      failed g.R.Read.remaining first _ headers None events h.lines c.take_line.new.room (omega (arith, c.take_line.auto.room))
          (c.in-Failed.ensures.taken first h.lines h.taken) said,
      read,
    )

pub returns-in-Some-clause-taken : goal.returns-in-Some-clause-taken
returns-in-Some-clause-taken g c headers first events h read =
    let said = subst (λ v. SayEvents headers v events h.lines) read h.said in
    let room = c.take_line.new.room in
    let count = c.in-WithLineFeed.count in
    let version = c.in-Some.version in
    let t = c.in-WithLineFeed.ensures.taken first h.lines h.taken in
    let all : min count 64 ≡ count = omega (arith, t.in_room, c.take_line.auto.room) in
    let line : c.taken.result.now ≡ take count room = c.taken.ensures ∙ ap (λ n. take n room) all in
    let takes = subst (λ hs. TakesHeader hs version) h.takes c.in-Some.ensures.0 in
    let more = SayEvents-header headers version events h.lines (take count room) said takes (sym line ∙ c.in-Some.ensures.1) in (
      record {
        takes = h.takes;
        lines = h.lines ++ take count room ∷ [];
        taken = t.taken;
        said = more;
        begins = begins-read headers (Some version) events (h.lines ++ take count room ∷ []) _ _ more t.taken.in_order;
        numbered = ap (λ ls. line_number (ls ++ take count room ∷ [])) (sym said.0);
      },
      refl,
    )
