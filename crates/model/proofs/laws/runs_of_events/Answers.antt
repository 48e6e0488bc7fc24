-- The rules are a function of what came before.
use Rattle.std.proofs.Common.{◌≡◌, List, [], ◌∷◌, map, refl, sym, ap, ◌∙◌}
use Rattle.model.specs.declared.version.Version.{Version}
use Rattle.model.specs.declared.event.Event.{Event}
use Rattle.model.specs.Timetable.{Timetable}
use Rattle.model.specs.History.{Answer, History}
use Rattle.model.specs.Rules.{answer, IsRun}
use Rattle.model.proofs.laws.runs_of_events.Goals as goal

some_run : (v : Version) (tab : Timetable) (events : List Event) → (h : History) × IsRun v tab h × (map (λ now. now.event) h ≡ events)
some_run v tab [] = ([], tt, refl)
some_run v tab (e ∷ events) =
    let before = some_run v tab events in
    (record { event = e; answer = answer v tab before.0 e } ∷ before.0, (refl, before.1), ap (λ l. e ∷ l) before.2)

abbrev first_or : Event → List Event → Event
first_or e [] = e
first_or e (f ∷ events) = f

abbrev rest_of : List Event → List Event
rest_of [] = []
rest_of (e ∷ events) = events

one_run : (v : Version) (tab : Timetable) (h k : History) → IsRun v tab h → IsRun v tab k → map (λ now. now.event) h ≡ map (λ now. now.event) k → h ≡ k
one_run v tab [] [] p q e = refl
one_run v tab [] (m ∷ k) p q e = cc
one_run v tab (n ∷ h) [] p q e = cc
one_run v tab (n ∷ h) (m ∷ k) p q e =
    let same_event : n.event ≡ m.event = ap (first_or n.event) e in
    let same_rest = one_run v tab h k p.1 q.1 (ap rest_of e) in
    let same_answer : n.answer ≡ m.answer = p.0 ∙ ap (λ l. answer v tab l n.event) same_rest ∙ ap (answer v tab k) same_event ∙ sym q.0 in
    ap {A = Event} {B = History} (λ x. record { event = x; answer = n.answer } ∷ h) same_event
    ∙ ap {A = Answer} {B = History} (λ x. record { event = m.event; answer = x } ∷ h) same_answer ∙ ap (λ l. m ∷ l) same_rest

pub returns-clause-some : goal.returns-clause-some
returns-clause-some c = some_run

pub returns-clause-one : goal.returns-clause-one
returns-clause-one c = one_run
