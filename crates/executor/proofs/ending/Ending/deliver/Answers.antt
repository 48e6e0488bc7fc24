use Rattle.std.proofs.Common.{◌≡◌, ℕ, ◌++◌, ◌∷◌, List, [], length, get_or, set, Some, inl, inr, refl, sym, ap, subst, ◌∙◌, arith}
use Rattle.std.specs.Prelude.{◌⊎◌, slice_get}
use Rattle.std.proofs.lemmas.Option.{slice_get-get_or}
use Rattle.model.specs.declared.event.Event.TheVariants.{Deliver}
use Rattle.model.specs.Timetable.{Track}
use Rattle.executor.specs.declared.ending.Heard.{Heard}
use Rattle.executor.specs.Code.Leading.{told_in, LeadsThrough}
use Rattle.executor.proofs.NeedLemmas.{told-is}
use Rattle.executor.proofs.LeadLemmas.{each-set, deliver-on, deliver-knows}
use Rattle.executor.proofs.ending.Ending.deliver.Goals as goal

-- the element that was put, and the others
put-at : (l : List Heard) (slot i j told : ℕ) (n : ℕ) (z : Heard) → slice_get (set l slot (record { agent = i; of = j; number = told })) n ≡ Some z
    → (slice_get l n ≡ Some z) ⊎ ((z.agent ≡ i) × (z.of ≡ j) × (z.number ≡ told))
put-at l slot i j told =
    each-set (λ n z. (slice_get l n ≡ Some z) ⊎ ((z.agent ≡ i) × (z.of ≡ j) × (z.number ≡ told))) l slot (record { agent = i; of = j; number = told })
    (λ n z apart there. inl there) (inr (refl, refl, refl))

pub returns-then-slot-len-clause-leads : goal.returns-then-slot-len-clause-leads
returns-then-slot-len-clause-leads c version h begins was =
    let was_in = subst (λ s. LeadsThrough version s h) (sym c.self.view_is) was in
    let x = c.index.result.now in
    let index = c.from.ensures in
    let crew = ap (λ s. length s.agents) c.self.view_is in
    let stand = ap (λ s. length s.standings) c.self.view_is in
    let from_there = c.requires.from_there in
    let to_there = c.requires.to_there in
    let all = c.requires.all in
    let at = slice_get-get_or c.self.inside.standings.items c.args.to x (omega (arith, to_there, all, stand)) in
    let from_at = slice_get-get_or c.self.inside.standings.items c.args.from x (omega (arith, from_there, all, stand)) ∙ ap (λ s. Some s)
    (ap (λ n. get_or c.self.inside.standings.items n x) (sym index) ∙ sym c.index.ensures) in
    let none : Track = record { start = record { x = 0; y = 0 }; later = [] } in
    let its = slice_get-get_or c.self.inside.graph.now.tracks c.args.to none (let count = c.self.invariant.0 in omega (arith, to_there, crew, count)) in
    let told = told-is c.self.inside.standings.items c.args.from x from_at in
    let said = c.requires.said in
    let same_told = ap (λ s. told_in s.standings c.args.from) c.self.view_is in
    deliver-on version h _ _ c.args.to c.args.from _ x _ at from_at its (omega (arith, crew, stand, all)) (record { timetable = refl; agents = refl }) refl refl
    (c.in_ok-push.ensures.items ∙ ap (λ n. c.self.inside.events.items ++ Deliver n x.message ∷ []) c.from-2.ensures)
    (omega (arith, told, said, same_told)) (put-at c.self.inside.heard.items c.slot-slot.result c.args.to c.args.from x.told) was_in

pub returns-else-slot-len-clause-leads : goal.returns-else-slot-len-clause-leads
returns-else-slot-len-clause-leads c version h begins was =
    let was_in = subst (λ s. LeadsThrough version s h) (sym c.self.view_is) was in
    let x = c.index.result.now in
    let index = c.from.ensures in
    let crew = ap (λ s. length s.agents) c.self.view_is in
    let stand = ap (λ s. length s.standings) c.self.view_is in
    let from_there = c.requires.from_there in
    let to_there = c.requires.to_there in
    let all = c.requires.all in
    let at = slice_get-get_or c.self.inside.standings.items c.args.to x (omega (arith, to_there, all, stand)) in
    let from_at = slice_get-get_or c.self.inside.standings.items c.args.from x (omega (arith, from_there, all, stand)) ∙ ap (λ s. Some s)
    (ap (λ n. get_or c.self.inside.standings.items n x) (sym index) ∙ sym c.index.ensures) in
    let none : Track = record { start = record { x = 0; y = 0 }; later = [] } in
    let its = slice_get-get_or c.self.inside.graph.now.tracks c.args.to none (let count = c.self.invariant.0 in omega (arith, to_there, crew, count)) in
    let told = told-is c.self.inside.standings.items c.args.from x from_at in
    let said = c.requires.said in
    let same_told = ap (λ s. told_in s.standings c.args.from) c.self.view_is in
    deliver-on version h _ _ c.args.to c.args.from _ x _ at from_at its (omega (arith, crew, stand, all)) (record { timetable = refl; agents = refl }) refl refl
    (c.in_ok-push.ensures.items ∙ ap (λ n. c.self.inside.events.items ++ Deliver n x.message ∷ []) c.from-2.ensures)
    (omega (arith, told, said, same_told)) (λ n z there. inl there) was_in

pub returns-then-slot-len-clause-teaches : goal.returns-then-slot-len-clause-teaches
returns-then-slot-len-clause-teaches c version h begins was =
    let was_in = subst (λ s. LeadsThrough version s h) (sym c.self.view_is) was in
    let x = c.index.result.now in
    let index = c.from.ensures in
    let crew = ap (λ s. length s.agents) c.self.view_is in
    let stand = ap (λ s. length s.standings) c.self.view_is in
    let from_there = c.requires.from_there in
    let to_there = c.requires.to_there in
    let all = c.requires.all in
    let at = slice_get-get_or c.self.inside.standings.items c.args.to x (omega (arith, to_there, all, stand)) in
    let from_at = slice_get-get_or c.self.inside.standings.items c.args.from x (omega (arith, from_there, all, stand)) ∙ ap (λ s. Some s)
    (ap (λ n. get_or c.self.inside.standings.items n x) (sym index) ∙ sym c.index.ensures) in
    let none : Track = record { start = record { x = 0; y = 0 }; later = [] } in
    let its = slice_get-get_or c.self.inside.graph.now.tracks c.args.to none (let count = c.self.invariant.0 in omega (arith, to_there, crew, count)) in
    let told = told-is c.self.inside.standings.items c.args.from x from_at in
    let said = c.requires.said in
    let same_told = ap (λ s. told_in s.standings c.args.from) c.self.view_is in
    let taught = deliver-knows version h _ _ c.args.to c.args.from _ x _ at from_at its (omega (arith, crew, stand, all)) (record { timetable = refl; agents = refl }) refl refl
    (c.in_ok-push.ensures.items ∙ ap (λ n. c.self.inside.events.items ++ Deliver n x.message ∷ []) c.from-2.ensures)
    (omega (arith, told, said, same_told)) (put-at c.self.inside.heard.items c.slot-slot.result c.args.to c.args.from x.told) was_in in
    omega (arith, taught, told, same_told)

pub returns-else-slot-len-clause-teaches : goal.returns-else-slot-len-clause-teaches
returns-else-slot-len-clause-teaches c version h begins was =
    let was_in = subst (λ s. LeadsThrough version s h) (sym c.self.view_is) was in
    let x = c.index.result.now in
    let index = c.from.ensures in
    let crew = ap (λ s. length s.agents) c.self.view_is in
    let stand = ap (λ s. length s.standings) c.self.view_is in
    let from_there = c.requires.from_there in
    let to_there = c.requires.to_there in
    let all = c.requires.all in
    let at = slice_get-get_or c.self.inside.standings.items c.args.to x (omega (arith, to_there, all, stand)) in
    let from_at = slice_get-get_or c.self.inside.standings.items c.args.from x (omega (arith, from_there, all, stand)) ∙ ap (λ s. Some s)
    (ap (λ n. get_or c.self.inside.standings.items n x) (sym index) ∙ sym c.index.ensures) in
    let none : Track = record { start = record { x = 0; y = 0 }; later = [] } in
    let its = slice_get-get_or c.self.inside.graph.now.tracks c.args.to none (let count = c.self.invariant.0 in omega (arith, to_there, crew, count)) in
    let told = told-is c.self.inside.standings.items c.args.from x from_at in
    let said = c.requires.said in
    let same_told = ap (λ s. told_in s.standings c.args.from) c.self.view_is in
    let taught = deliver-knows version h _ _ c.args.to c.args.from _ x _ at from_at its (omega (arith, crew, stand, all)) (record { timetable = refl; agents = refl }) refl refl
    (c.in_ok-push.ensures.items ∙ ap (λ n. c.self.inside.events.items ++ Deliver n x.message ∷ []) c.from-2.ensures)
    (omega (arith, told, said, same_told)) (λ n z there. inl there) was_in in
    omega (arith, taught, told, same_told)
