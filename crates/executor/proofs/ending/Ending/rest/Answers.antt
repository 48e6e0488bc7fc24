use Rattle.std.proofs.Common.{◌≡◌, ◌+◌, ◌<◌, ◌++◌, [], length, get_or, refl, sym, ap, subst, ◌∙◌, arith}
use Rattle.std.specs.Prelude.{Bool, true, false}
use mir.Val.{bool_byte}
use Rattle.agent.specs.Agents.{state_of}
use Rattle.agent.specs.States as states
use Rattle.model.specs.Ready.{rest_events}
use Rattle.model.specs.Timetable.{Track}
use Rattle.agent.specs.CountedTape.{counted_state}
use Rattle.std.proofs.lemmas.Option.{slice_get-get_or}
use Rattle.executor.specs.Code.Leading.{is_opened_anew, Begins, LeadsThrough, AreUnheard}
use Rattle.executor.proofs.LeadLemmas.{one_if, rest-on}
use Rattle.executor.proofs.ending.Ending.rest.Goals as goal

as_number : (b : Bool) → bool_byte b ≡ one_if b
as_number true = refl
as_number false = refl

pub invariant_of-self : goal.invariant_of-self
invariant_of-self c = (c.self.invariant.0, (let most = c.self.invariant.1 in let more = c.push_rest.ensures.more in omega (arith, most, more)))

pub returns-clause-leads : goal.returns-clause-leads
returns-clause-leads c version h begins was =
    let begins_in = subst (λ s. Begins version s.timetable s.agents h) (sym c.self.view_is) begins in
    let was_in = subst (λ s. LeadsThrough version s h) (sym c.self.view_is) was in
    let within : c.args.id < length c.self.inside.agents.now = (let less = c.requires.there in let same = ap (λ r. length r.agents) c.self.view_is in omega (arith, less, same)) in
    let a = get_or c.self.inside.agents.now c.args.id c.index-self-id.result in
    let there = slice_get-get_or c.self.inside.agents.now c.args.id c.index-self-id.result within in
    let none : Track = record { start = record { x = 0; y = 0 }; later = [] } in
    let its = slice_get-get_or c.self.inside.graph.now.tracks c.args.id none (let count = c.self.invariant.0 in omega (arith, within, count)) in
    rest-on version h _ _ c.args.id a _ _ (c.requires.next ∙ sym (ap (λ s. length s.standings) c.self.view_is)) there its refl refl refl
    (subst (λ s. AreUnheard s.heard) (sym c.self.view_is) c.requires.none_heard)
    (c.in_ok-push_rest.ensures.put ∙ ap (λ b. c.self.inside.events.items ++ rest_events b c.is_moving-moving.result c.args.id) c.is_opened_anew.ensures
    ∙ ap (λ b. c.self.inside.events.items ++ rest_events (is_opened_anew a) b c.args.id) c.is_moving-moving.ensures)
    c.in_ok-push.ensures.items
    (ap (λ n. n + c.from.result) c.done.ensures.finished_moves ∙ ap (λ n. states.finished_moves (state_of counted_state a) + n)
    (c.from.ensures ∙ as_number c.is_moving-moving.result ∙ ap one_if c.is_moving-moving.ensures))
    refl begins_in was_in
