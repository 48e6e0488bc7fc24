use Rattle.std.proofs.Common.{◌≡◌, ◌<◌, List, Some, length, set, refl, sym, ap, subst, ◌∙◌, arith}
use Rattle.std.proofs.lemmas.Option.{slice_get-get_or}
use Rattle.model.specs.declared.event.Event.TheVariants.{Deliver}
use Rattle.model.specs.Messages.{Message, own_message}
use Rattle.model.specs.Replies.{answer_of}
use Rattle.model.specs.Rules.{answer}
use Rattle.agent.specs.Replies.{delivered}
use Rattle.agent.specs.declared.finished.Finished.{Finished}
use Rattle.agent.specs.Agents.{AgentOn}
use Rattle.agent.specs.declared.counted_tape.CountedTape.{CountedTape}
use Rattle.executor.specs.Standing.{RunnerState, StandsAt, TakesMemory}
use Rattle.executor.proofs.DeliverLemmas.{each-ok, each-err, own-gives, delivered-on, wants-on, set-same, still-from}
use Rattle.executor.proofs.runner.Runner.deliver_own.Goals as goal

pub returns-clause-heard : goal.returns-clause-heard
returns-clause-heard c =
    each-ok c.reply_to_delivery.result (λ reply. delivered c.hear_finished.result ≡ Some (answer_of reply)) _ _ (λ reply is h stands.
    let inside = subst (λ r. StandsAt r h) (sym c.self.view_is) stands in
    let within : c.args.agent < length c.self.inside.agents.items = (let less = c.requires.there in let same = ap (λ r. length r.agents) c.self.view_is in omega (arith, less, same)) in
    let a = c.index_mut.result.now in
    let there = slice_get-get_or c.self.inside.agents.items c.args.agent a within ∙ ap (λ x. Some x) (sym c.index_mut.ensures.value) in
    let message : Message = own_message c.own-entry.result.agent c.own-entry.result.done in
    let finished : Finished = record { from = c.own-entry.result.agent; plan = c.number.result; done = c.own-entry.result.done } in
    let given = own-gives _ h inside c.args.agent within c.args.message a there message c.own-entry.ensures c.messages_of_runs.ensures c.hear_finished.new.self c.hear_finished.result finished refl
    c.number.ensures.number c.hear_finished.ensures.hears in
    let found = delivered-on _ h inside c.args.agent within c.args.message a there message c.own-entry.ensures c.hear_finished.new.self c.hear_finished.result (answer_of reply) given is in
    (found.0 ∙ ap (λ r. answer r.version r.timetable h (Deliver c.args.agent c.args.message)) c.self.view_is, found.1)) c.reply_to_delivery.ensures

pub returns-clause-memory : goal.returns-clause-memory
returns-clause-memory c =
    each-err c.reply_to_delivery.result _ _ _ (λ lack none h stands.
    let inside = subst (λ r. StandsAt r h) (sym c.self.view_is) stands in
    let within : c.args.agent < length c.self.inside.agents.items = (let less = c.requires.there in let same = ap (λ r. length r.agents) c.self.view_is in omega (arith, less, same)) in
    let a = c.index_mut.result.now in
    let there = slice_get-get_or c.self.inside.agents.items c.args.agent a within ∙ ap (λ x. Some x) (sym c.index_mut.ensures.value) in
    let message : Message = own_message c.own-entry.result.agent c.own-entry.result.done in
    let finished : Finished = record { from = c.own-entry.result.agent; plan = c.number.result; done = c.own-entry.result.done } in
    let given = own-gives _ h inside c.args.agent within c.args.message a there message c.own-entry.ensures c.messages_of_runs.ensures c.hear_finished.new.self c.hear_finished.result finished refl
    c.number.ensures.number c.hear_finished.ensures.hears in
    subst (λ r. TakesMemory r.version r.timetable h (Deliver c.args.agent c.args.message)) c.self.view_is
    (wants-on _ h inside c.args.agent within c.args.message a there message c.own-entry.ensures c.hear_finished.new.self c.hear_finished.result given none)) c.reply_to_delivery.ensures

pub returns-clause-err : goal.returns-clause-err
returns-clause-err c =
    each-err c.reply_to_delivery.result _ _ _ (λ lack none.
    let within : c.args.agent < length c.self.inside.agents.items = (let less = c.requires.there in let same = ap (λ r. length r.agents) c.self.view_is in omega (arith, less, same)) in
    let a = c.index_mut.result.now in
    let there = slice_get-get_or c.self.inside.agents.items c.args.agent a within ∙ ap (λ x. Some x) (sym c.index_mut.ensures.value) in
    let of = c.hear_finished.ensures.within in
    let same = still-from of.0 a c.hear_finished.new.self (record { from = c.own-entry.result.agent; plan = c.number.result; done = c.own-entry.result.done }) c.hear_finished.result none
    (c.hear_finished.ensures.hears of.0 of.2) in
    ap {A = List (AgentOn CountedTape)} {B = RunnerState} (λ l. record {
      timetable = c.self.inside.graph.now;
      version = c.self.inside.said.version;
      agents = l;
      messages = c.self.inside.said.messages;
    })
    (ap (set c.self.inside.agents.items c.args.agent) same ∙ set-same c.self.inside.agents.items c.args.agent a there)
    ∙ c.self.view_is) c.reply_to_delivery.ensures
