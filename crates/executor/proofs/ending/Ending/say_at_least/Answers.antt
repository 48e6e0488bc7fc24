use Rattle.std.proofs.Common.{◌<◌, ◌++◌, ◌∷◌, [], length, get_or, set, Some, refl, sym, ap, subst, ◌∙◌, arith}
use Rattle.std.proofs.lemmas.Option.{slice_get-get_or}
use Rattle.model.specs.declared.event.Event.TheVariants.{Say}
use Rattle.model.specs.Timetable.{Track}
use Rattle.executor.specs.declared.ending.Standing.{Standing}
use Rattle.executor.specs.Code.Leading.{finished_in, told_in, LeadsThrough}
use Rattle.executor.proofs.NeedLemmas.{finished-is}
use Rattle.executor.proofs.LeadLemmas.{told-set, say-on}
use Rattle.executor.proofs.ending.Ending.say_at_least.Goals as goal

pub returns-clause-leads : goal.returns-clause-leads
returns-clause-leads c version h begins was =
    let was_in = subst (λ s. LeadsThrough version s h) (sym c.self.view_is) was in
    let x = c.index_mut-standing.result.now in
    let y : Standing = record { done = x.done; message = c.self.inside.messages; told = x.done; next = x.next } in
    let index = c.from-index.ensures in
    let crew = ap (λ s. length s.agents) c.self.view_is in
    let stand = ap (λ s. length s.standings) c.self.view_is in
    let there = c.requires.there in
    let all = c.requires.all in
    let within : c.args.agent < length c.self.inside.standings.items = omega (arith, there, all, stand) in
    let at = slice_get-get_or c.self.inside.standings.items c.args.agent x within ∙ ap (λ s. Some s)
    (ap (λ n. get_or c.self.inside.standings.items n x) (sym index) ∙ sym c.index_mut-standing.ensures.value) in
    let none : Track = record { start = record { x = 0; y = 0 }; later = [] } in
    let its = slice_get-get_or c.self.inside.graph.now.tracks c.args.agent none (let count = c.self.invariant.0 in omega (arith, there, crew, count)) in
    say-on version h _ _ c.args.agent x y _ at its (omega (arith, crew, stand, all)) (record { timetable = refl; agents = refl }) refl refl
    (c.in_ok-push.ensures.items ∙ ap (λ n. c.self.inside.events.items ++ Say n ∷ []) c.from.ensures)
    (ap (λ n. set c.self.inside.standings.items n y) index) refl refl refl was_in

pub returns-clause-told : goal.returns-clause-told
returns-clause-told c =
    let x = c.index_mut-standing.result.now in
    let y : Standing = record { done = x.done; message = c.self.inside.messages; told = x.done; next = x.next } in
    let index = c.from-index.ensures in
    let stand = ap (λ s. length s.standings) c.self.view_is in
    let there = c.requires.there in
    let all = c.requires.all in
    let within : c.args.agent < length c.self.inside.standings.items = omega (arith, there, all, stand) in
    let at = slice_get-get_or c.self.inside.standings.items c.args.agent x within ∙ ap (λ s. Some s)
    (ap (λ n. get_or c.self.inside.standings.items n x) (sym index) ∙ sym c.index_mut-standing.ensures.value) in
    let now = ap (λ n. told_in (set c.self.inside.standings.items n y) c.args.agent) index ∙ told-set c.self.inside.standings.items c.args.agent y within in
    let so_far = ap (λ s. finished_in s.standings c.args.agent) (sym c.self.view_is) ∙ finished-is c.self.inside.standings.items c.args.agent x at in
    let many = c.requires.so_many in
    omega (arith, now, so_far, many)
