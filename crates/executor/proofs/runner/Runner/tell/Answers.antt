use Rattle.std.proofs.Common.{Err, ◌≡◌, ◌<◌, ◌∷◌, ◌++◌, [], Some, length, sym, ap, subst, ◌∙◌, arith}
use Rattle.std.proofs.lemmas.Option.{slice_get-get_or}
use Rattle.model.specs.declared.version.Version.TheVariants.{Two}
use Rattle.model.specs.declared.event.Event.TheVariants.{Say}
use Rattle.model.specs.declared.why.Why.TheVariants as why
use Rattle.model.specs.History.{refused, said}
use Rattle.model.specs.Rules.{answer}
use Rattle.agent.specs.Agents.{state_of}
use Rattle.agent.specs.States.{IsToldBy}
use Rattle.agent.specs.CountedTape.{counted_state}
use Rattle.executor.specs.Standing.{StandsAt, TakesMemory}
use Rattle.executor.specs.Code.Telling.{message_told}
use Rattle.executor.proofs.SayLemmas.{say-refused-on, say-takes, told-on, err-so}
use Rattle.executor.proofs.runner.Runner.tell.Goals as goal

pub returns-in-Err-Broken-clause-said : goal.returns-in-Err-Broken-clause-said
returns-in-Err-Broken-clause-said c h stands =
    let inside = subst (λ r. StandsAt r h) (sym c.self.view_is) stands in
    let within : c.args.agent < length c.self.inside.agents.items = (let less = c.requires.there in let same = ap (λ r. length r.agents) c.self.view_is in omega (arith, less, same)) in
    let there = slice_get-get_or c.self.inside.agents.items c.args.agent c.index-sender.result.now within ∙ ap (λ a. Some a) (sym c.index-sender.ensures) in
    let found = say-refused-on _ h inside c.args.agent c.index-sender.result.now there
    (subst (λ f. IsToldBy c.self.inside.graph.now c.index-sender.result.now.part.agent (state_of counted_state c.index-sender.result.now) (Err f)) c.in-Err-Broken.field-0-is
    (c.in-Err-Broken.ensures.tells _ (inside.members c.args.agent c.index-sender.result.now there).part)) in
    subst (λ r. (refused why.Broken ≡ answer r.version r.timetable h (Say c.args.agent)) × StandsAt r (record { event = Say c.args.agent; answer = refused why.Broken } ∷ h)) c.self.view_is found

pub returns-clause-said : goal.returns-clause-said
returns-clause-said c h stands =
    let inside = subst (λ r. StandsAt r h) (sym c.self.view_is) stands in
    let within : c.args.agent < length c.self.inside.agents.items = (let less = c.requires.there in let same = ap (λ r. length r.agents) c.self.view_is in omega (arith, less, same)) in
    let there = slice_get-get_or c.self.inside.agents.items c.args.agent c.index-sender.result.now within ∙ ap (λ a. Some a) (sym c.index-sender.ensures) in
    let version : c.self.inside.said.version ≡ Two = ap (λ r. r.version) c.self.view_is ∙ c.requires.version in
    let bytes = c.in-Ok.bytes.items in
    let found = told-on _ h inside c.args.agent c.index-sender.result.now there version (c.in-Ok.ensures.tells _ (inside.members c.args.agent c.index-sender.result.now there).part).0 in
    let answered = ap (λ n. said n bytes) c.count-number.ensures.count ∙ ap (said (length c.self.inside.said.messages))
    (c.in-Ok.ensures.tells _ (inside.members c.args.agent c.index-sender.result.now there).part).1.spelled in
    subst (λ s. (said c.count-number.result bytes ≡ answer c.args.self.now.version c.args.self.now.timetable h (Say c.args.agent))
    × StandsAt (record { timetable = c.self.inside.graph.now; version = s.version; agents = c.self.inside.agents.items; messages = s.messages })
    (record { event = Say c.args.agent; answer = said c.count-number.result bytes } ∷ h))
    (sym c.in_ok-keep_told.ensures.ok)
    (subst (λ x. (x ≡ answer c.args.self.now.version c.args.self.now.timetable h (Say c.args.agent))
    × StandsAt (record {
      timetable = c.self.inside.graph.now;
      version = c.self.inside.said.version;
      agents = c.self.inside.agents.items;
      messages = c.self.inside.said.messages ++ message_told
          c.index-sender.result.now ∷ [];
    }) (record { event = Say c.args.agent; answer = x } ∷ h))
    (sym answered) (found.0 ∙ ap (λ r. answer r.version r.timetable h (Say c.args.agent)) c.self.view_is, found.1))

pub returns-in_err-keep_told-clause-memory : goal.returns-in_err-keep_told-clause-memory
returns-in_err-keep_told-clause-memory c = err-so c.from_residual.result _ (λ h stands.
    let inside = subst (λ r. StandsAt r h) (sym c.self.view_is) stands in
    let within : c.args.agent < length c.self.inside.agents.items = (let less = c.requires.there in let same = ap (λ r. length r.agents) c.self.view_is in omega (arith, less, same)) in
    let there = slice_get-get_or c.self.inside.agents.items c.args.agent c.index-sender.result.now within ∙ ap (λ a. Some a) (sym c.index-sender.ensures) in
    subst (λ r. TakesMemory r.version r.timetable h (Say c.args.agent)) c.self.view_is (say-takes _ h inside c.args.agent c.index-sender.result.now there
    (c.in-Ok.ensures.tells _ (inside.members c.args.agent c.index-sender.result.now there).part).0))

pub returns-in-Err-OutOfMemory-clause-memory : goal.returns-in-Err-OutOfMemory-clause-memory
returns-in-Err-OutOfMemory-clause-memory c h stands =
    let inside = subst (λ r. StandsAt r h) (sym c.self.view_is) stands in
    let within : c.args.agent < length c.self.inside.agents.items = (let less = c.requires.there in let same = ap (λ r. length r.agents) c.self.view_is in omega (arith, less, same)) in
    let there = slice_get-get_or c.self.inside.agents.items c.args.agent c.index-sender.result.now within ∙ ap (λ a. Some a) (sym c.index-sender.ensures) in
    let whole = subst (λ f. IsToldBy c.self.inside.graph.now c.index-sender.result.now.part.agent (state_of counted_state c.index-sender.result.now) (Err f)) c.in-Err-OutOfMemory.field-0-is
    (c.in-Err-OutOfMemory.ensures.tells _ (inside.members c.args.agent c.index-sender.result.now there).part) in
    subst (λ r. TakesMemory r.version r.timetable h (Say c.args.agent)) c.self.view_is (say-takes _ h inside c.args.agent c.index-sender.result.now there whole)
