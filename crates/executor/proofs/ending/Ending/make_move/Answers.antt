use Rattle.std.proofs.Common.{◌+◌, ◌++◌, ◌∷◌, ◌%◌, [], length, get_or, set, Some, refl, sym, ap, subst, ◌∙◌, arith}
use Rattle.std.proofs.lemmas.Option.{slice_get-get_or, same_Some}
use Rattle.model.specs.declared.event.Event.TheVariants.{Start, Finish}
use Rattle.model.specs.Completion.{history_after}
use Rattle.model.specs.Dependency.{IsMet, need}
use Rattle.model.specs.History.{known}
use Rattle.model.specs.Timetable.{moves, track_of}
use Rattle.executor.specs.declared.ending.Standing.{Standing}
use Rattle.executor.specs.Code.Leading.{finished_in, LeadsThrough, HasMoved}
use Rattle.executor.proofs.NeedLemmas.{finished-is}
use Rattle.executor.proofs.LeadLemmas.{move-on, two-more, has-moved}
use Rattle.executor.proofs.ending.Ending.make_move.Goals as goal

pub returns-clause-leads : goal.returns-clause-leads
returns-clause-leads c version h begins was track there met =
    let was_in = subst (λ s. LeadsThrough version s h) (sym c.self.view_is) was in
    let x = c.index_mut-standing.result.now in
    let y : Standing = record { done = x.done + 1; message = x.message; told = x.told; next = (x.next + 1) % 18446744073709551616 } in
    let index = c.from-5.ensures in
    let crew = ap (λ s. length s.agents) c.self.view_is in
    let stand = ap (λ s. length s.standings) c.self.view_is in
    let inside = c.requires.there in
    let all = c.requires.all in
    let at = slice_get-get_or c.self.inside.standings.items c.args.agent x (omega (arith, inside, all, stand)) ∙ ap (λ s. Some s)
    (ap (λ n. get_or c.self.inside.standings.items n x) (sym index) ∙ sym c.index_mut-standing.ensures.value) in
    let its = ap (λ s. track_of s.timetable c.args.agent) c.self.view_is ∙ there in
    let number = finished-is c.self.inside.standings.items c.args.agent x at in
    let same = same_Some c.requires.left.0 track (sym c.requires.left.1 ∙ there) in
    let left = ap moves same in
    let left_then = c.requires.left.2 in
    let so_far = ap (λ s. finished_in s.standings c.args.agent) c.self.view_is in
    let known_in = subst (λ s. IsMet (known version s.timetable (history_after version s.timetable h s.events) c.args.agent)
    (need s.timetable c.args.agent track (finished_in s.standings c.args.agent))) (sym c.self.view_is) met in
    move-on version h _ _ c.args.agent x y track at its (omega (arith, crew, stand, all)) (omega (arith, number, left, left_then, so_far))
    (subst (λ k. IsMet (known version c.self.inside.graph.now (history_after version c.self.inside.graph.now h c.self.inside.events.items) c.args.agent)
    (need c.self.inside.graph.now c.args.agent track k)) number known_in)
    (record { timetable = refl; agents = refl }) refl refl
    (c.in_ok-push-2.ensures.items ∙ ap (λ l. l ++ Finish c.from-4.result ∷ []) c.in_ok-push.ensures.items ∙ two-more c.self.inside.events.items (Start c.from-3.result) (Finish c.from-4.result)
    ∙ ap (λ n. c.self.inside.events.items ++ Start n ∷ Finish c.from-4.result ∷ []) c.from-3.ensures ∙ ap (λ n. c.self.inside.events.items ++ Start c.args.agent ∷ Finish n ∷ []) c.from-4.ensures)
    (ap (λ n. set c.self.inside.standings.items n y) index) refl refl refl was_in

pub returns-clause-moved : goal.returns-clause-moved
returns-clause-moved c =
    let x = c.index_mut-standing.result.now in
    let y : Standing = record { done = x.done + 1; message = x.message; told = x.told; next = (x.next + 1) % 18446744073709551616 } in
    let index = c.from-5.ensures in
    let stand = ap (λ s. length s.standings) c.self.view_is in
    let inside = c.requires.there in
    let all = c.requires.all in
    let at = slice_get-get_or c.self.inside.standings.items c.args.agent x (omega (arith, inside, all, stand)) ∙ ap (λ s. Some s)
    (ap (λ n. get_or c.self.inside.standings.items n x) (sym index) ∙ sym c.index_mut-standing.ensures.value) in
    subst (λ s. HasMoved c.args.agent s.standings (set c.self.inside.standings.items c.from-5.result y)) c.self.view_is
    (subst (λ n. HasMoved c.args.agent c.self.inside.standings.items (set c.self.inside.standings.items n y)) (sym index) (has-moved c.self.inside.standings.items c.args.agent x y at refl))
