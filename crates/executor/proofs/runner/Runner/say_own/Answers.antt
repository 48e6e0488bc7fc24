use Rattle.std.proofs.Common.{◌≡◌, ◌<◌, ◌∷◌, ◌++◌, [], Some, length, refl, sym, ap, subst, ◌∙◌, arith}
use Rattle.std.proofs.lemmas.Option.{slice_get-get_or}
use Rattle.model.specs.declared.version.Version.TheVariants.{One}
use Rattle.model.specs.declared.event.Event.TheVariants.{Say}
use Rattle.model.specs.declared.why.Why.TheVariants as why
use Rattle.model.specs.History.{refused, said}
use Rattle.model.specs.Messages.{own_message, message_bytes}
use Rattle.model.specs.Rules.{answer}
use Rattle.agent.specs.Replies.{why_of}
use Rattle.executor.specs.Standing.{StandsAt, TakesMemory}
use Rattle.executor.proofs.SayLemmas.{say-refused-on, say-takes, own-on, err-so}
use Rattle.executor.proofs.runner.Runner.say_own.Goals as goal

pub returns-in-Err-clause-said : goal.returns-in-Err-clause-said
returns-in-Err-clause-said c h stands =
    let inside = subst (λ r. StandsAt r h) (sym c.self.view_is) stands in
    let within : c.args.agent < length c.self.inside.agents.items = (let less = c.requires.there in let same = ap (λ r. length r.agents) c.self.view_is in omega (arith, less, same)) in
    let there = slice_get-get_or c.self.inside.agents.items c.args.agent c.index-sender.result.now within ∙ ap (λ a. Some a) (sym c.index-sender.ensures) in
    let found = say-refused-on _ h inside c.args.agent c.index-sender.result.now there (c.in-Err.ensures.says _ (inside.members c.args.agent c.index-sender.result.now there).part).0 in
    let outside = subst (λ r. (refused why.Broken ≡ answer r.version r.timetable h (Say c.args.agent)) × StandsAt r (record { event = Say c.args.agent; answer = refused why.Broken } ∷ h))
    c.self.view_is found in
    subst (λ w. (refused w ≡ answer c.args.self.now.version c.args.self.now.timetable h (Say c.args.agent)) × StandsAt c.args.self.now (record { event = Say c.args.agent; answer = refused w } ∷ h))
    (sym (c.why_of.ensures ∙ ap why_of (c.in-Err.ensures.says _ (inside.members c.args.agent c.index-sender.result.now there).part).1)) outside

pub returns-clause-said : goal.returns-clause-said
returns-clause-said c h stands =
    let inside = subst (λ r. StandsAt r h) (sym c.self.view_is) stands in
    let within : c.args.agent < length c.self.inside.agents.items = (let less = c.requires.there in let same = ap (λ r. length r.agents) c.self.view_is in omega (arith, less, same)) in
    let there = slice_get-get_or c.self.inside.agents.items c.args.agent c.index-sender.result.now within ∙ ap (λ a. Some a) (sym c.index-sender.ensures) in
    let version : c.self.inside.said.version ≡ One = ap (λ r. r.version) c.self.view_is ∙ c.requires.version in
    let bytes = c.in_ok-bytes.bytes.items in
    let found = own-on _ h inside c.args.agent c.index-sender.result.now there c.args.agent c.done-done.result version
    (c.in-Ok.ensures.says _ (inside.members c.args.agent c.index-sender.result.now there).part).0 refl c.done-done.ensures.finished_moves in
    let told = c.in_ok-bytes.ensures ∙ (c.in-Ok.ensures.says _ (inside.members c.args.agent c.index-sender.result.now there).part).1.spelled ∙ ap
    (message_bytes c.self.inside.graph.now.number c.index-sender.result.now.part.agent) (sym c.done-done.ensures.finished_moves) in
    let answered = ap (λ n. said n bytes) c.count-number.ensures.count ∙ ap (said (length c.self.inside.said.messages)) told in
    subst (λ s. (said c.count-number.result bytes ≡ answer c.args.self.now.version c.args.self.now.timetable h (Say c.args.agent))
    × StandsAt (record { timetable = c.self.inside.graph.now; version = s.version; agents = c.self.inside.agents.items; messages = s.messages })
    (record { event = Say c.args.agent; answer = said c.count-number.result bytes } ∷ h))
    (sym c.in_ok-keep_own.ensures.ok)
    (subst (λ x. (x ≡ answer c.args.self.now.version c.args.self.now.timetable h (Say c.args.agent))
    × StandsAt (record {
      timetable = c.self.inside.graph.now;
      version = c.self.inside.said.version;
      agents = c.self.inside.agents.items;
      messages = c.self.inside.said.messages ++ own_message
          c.args.agent c.done-done.result ∷ [];
    }) (record { event = Say c.args.agent; answer = x } ∷ h))
    (sym answered) (found.0 ∙ ap (λ r. answer r.version r.timetable h (Say c.args.agent)) c.self.view_is, found.1))

pub returns-in_err-bytes-clause-memory : goal.returns-in_err-bytes-clause-memory
returns-in_err-bytes-clause-memory c = err-so c.from_residual.result _ (λ h stands.
    let inside = subst (λ r. StandsAt r h) (sym c.self.view_is) stands in
    let within : c.args.agent < length c.self.inside.agents.items = (let less = c.requires.there in let same = ap (λ r. length r.agents) c.self.view_is in omega (arith, less, same)) in
    let there = slice_get-get_or c.self.inside.agents.items c.args.agent c.index-sender.result.now within ∙ ap (λ a. Some a) (sym c.index-sender.ensures) in
    subst (λ r. TakesMemory r.version r.timetable h (Say c.args.agent)) c.self.view_is (say-takes _ h inside c.args.agent c.index-sender.result.now there
    (c.in-Ok.ensures.says _ (inside.members c.args.agent c.index-sender.result.now there).part).0))

pub returns-in_err-keep_own-clause-memory : goal.returns-in_err-keep_own-clause-memory
returns-in_err-keep_own-clause-memory c = err-so c.from_residual-in_err-keep_own.result _ (λ h stands.
    let inside = subst (λ r. StandsAt r h) (sym c.self.view_is) stands in
    let within : c.args.agent < length c.self.inside.agents.items = (let less = c.requires.there in let same = ap (λ r. length r.agents) c.self.view_is in omega (arith, less, same)) in
    let there = slice_get-get_or c.self.inside.agents.items c.args.agent c.index-sender.result.now within ∙ ap (λ a. Some a) (sym c.index-sender.ensures) in
    subst (λ r. TakesMemory r.version r.timetable h (Say c.args.agent)) c.self.view_is (say-takes _ h inside c.args.agent c.index-sender.result.now there
    (c.in-Ok.ensures.says _ (inside.members c.args.agent c.index-sender.result.now there).part).0))
