use Rattle.std.proofs.Common.{◌≡◌, ◌<◌, List, Some, length, set, sym, ap, subst, ◌∙◌, arith}
use Rattle.std.proofs.lemmas.Option.{slice_get-get_or}
use Rattle.model.specs.declared.event.Event.TheVariants.{Deliver}
use Rattle.model.specs.declared.version.Version.TheVariants.{Two}
use Rattle.model.specs.Messages.{Message}
use Rattle.model.specs.Replies.{answer_of}
use Rattle.model.specs.Rules.{answer}
use Rattle.agent.specs.Replies.{delivered}
use Rattle.agent.specs.Agents.{AgentOn}
use Rattle.agent.specs.declared.counted_tape.CountedTape.{CountedTape}
use Rattle.executor.specs.Standing.{RunnerState, StandsAt, TakesMemory}
use Rattle.executor.proofs.DeliverLemmas.{each-ok, each-err, told-gives, delivered-on, wants-on, set-same, still-of}
use Rattle.executor.proofs.runner.Runner.deliver_told.Goals as goal

pub returns-clause-heard : goal.returns-clause-heard
returns-clause-heard c =
    each-ok c.reply_to_delivery.result (λ reply. delivered c.hear_entries.result ≡ Some (answer_of reply)) _ _ (λ reply is h stands.
    let inside = subst (λ r. StandsAt r h) (sym c.self.view_is) stands in
    let within : c.args.agent < length c.self.inside.agents.items = (let less = c.requires.there in let same = ap (λ r. length r.agents) c.self.view_is in omega (arith, less, same)) in
    let a = c.index_mut.result.now in
    let there = slice_get-get_or c.self.inside.agents.items c.args.agent a within ∙ ap (λ x. Some x) (sym c.index_mut.ensures.value) in
    let message : Message = record { sender = c.told-sender.result.0; entries = c.told-sender.result.1.now } in
    let version : c.self.inside.said.version ≡ Two = ap (λ r. r.version) c.self.view_is ∙ c.requires.version in
    let given = told-gives _ h inside c.args.agent within c.args.message a there message c.told-sender.ensures c.messages_of_runs.ensures c.hear_entries.new.self c.hear_entries.result version
    c.entries_of_agents.ensures.rising (λ es rising. (c.whole_messages.ensures.rising es).0 rising) c.hear_entries.ensures.hears in
    let found = delivered-on _ h inside c.args.agent within c.args.message a there message c.told-sender.ensures c.hear_entries.new.self c.hear_entries.result (answer_of reply) given is in
    (found.0 ∙ ap (λ r. answer r.version r.timetable h (Deliver c.args.agent c.args.message)) c.self.view_is, found.1)) c.reply_to_delivery.ensures

pub returns-clause-memory : goal.returns-clause-memory
returns-clause-memory c =
    each-err c.reply_to_delivery.result _ _ _ (λ lack none h stands.
    let inside = subst (λ r. StandsAt r h) (sym c.self.view_is) stands in
    let within : c.args.agent < length c.self.inside.agents.items = (let less = c.requires.there in let same = ap (λ r. length r.agents) c.self.view_is in omega (arith, less, same)) in
    let a = c.index_mut.result.now in
    let there = slice_get-get_or c.self.inside.agents.items c.args.agent a within ∙ ap (λ x. Some x) (sym c.index_mut.ensures.value) in
    let message : Message = record { sender = c.told-sender.result.0; entries = c.told-sender.result.1.now } in
    let version : c.self.inside.said.version ≡ Two = ap (λ r. r.version) c.self.view_is ∙ c.requires.version in
    let given = told-gives _ h inside c.args.agent within c.args.message a there message c.told-sender.ensures c.messages_of_runs.ensures c.hear_entries.new.self c.hear_entries.result version
    c.entries_of_agents.ensures.rising (λ es rising. (c.whole_messages.ensures.rising es).0 rising) c.hear_entries.ensures.hears in
    subst (λ r. TakesMemory r.version r.timetable h (Deliver c.args.agent c.args.message)) c.self.view_is
    (wants-on _ h inside c.args.agent within c.args.message a there message c.told-sender.ensures c.hear_entries.new.self c.hear_entries.result given none)) c.reply_to_delivery.ensures

pub returns-clause-err : goal.returns-clause-err
returns-clause-err c =
    each-err c.reply_to_delivery.result _ _ _ (λ lack none.
    let within : c.args.agent < length c.self.inside.agents.items = (let less = c.requires.there in let same = ap (λ r. length r.agents) c.self.view_is in omega (arith, less, same)) in
    let a = c.index_mut.result.now in
    let there = slice_get-get_or c.self.inside.agents.items c.args.agent a within ∙ ap (λ x. Some x) (sym c.index_mut.ensures.value) in
    let of = c.hear_entries.ensures.within in
    let same = still-of of.0 a c.hear_entries.new.self (record { sender = c.told-sender.result.0; entries = c.told-sender.result.1.now }) c.hear_entries.result none
    (c.hear_entries.ensures.hears of.0 of.2) in
    ap {A = List (AgentOn CountedTape)} {B = RunnerState} (λ l. record {
      timetable = c.self.inside.graph.now;
      version = c.self.inside.said.version;
      agents = l;
      messages = c.self.inside.said.messages;
    })
    (ap (set c.self.inside.agents.items c.args.agent) same ∙ set-same c.self.inside.agents.items c.args.agent a there)
    ∙ c.self.view_is) c.reply_to_delivery.ensures
