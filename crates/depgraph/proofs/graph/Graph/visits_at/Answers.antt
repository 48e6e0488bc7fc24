-- The map finds the number of each visited cell, and of no other.
use Rattle.std.proofs.Common.{Bor, List, ◌≡◌, ◌≤◌, length, get_or, Some, None, arith, refl, sym, ap, subst, ◌∙◌}
use Rattle.std.specs.Prelude.{Option, MatchOption}
use Rattle.std.specs.Map.{lookup}
use Rattle.model.specs.declared.visit.Visit.{Visit}
use Rattle.depgraph.specs.Visits.{IsVisitTo, AreVisitsTo}
use Rattle.model.specs.Timetable.{same_cell}
use Rattle.model.specs.Laws.Tracks.{same_cell-same, same_cell-true}
use Rattle.depgraph.specs.Code.Entries.{begin_in}
use Rattle.depgraph.specs.Code.Keeping.{HasVisits}
use Rattle.depgraph.specs.Code.Placing.{part_of}
use Rattle.depgraph.proofs.CellLemmas.{found, not_found}
use Rattle.depgraph.proofs.KeptLemmas.{kept_number, visits_of_cell, not_visited}
use Rattle.depgraph.proofs.graph.Graph.visits_at.Goals as goal

pub returns-in_err-number : goal.returns-in_err-number
returns-in_err-number c =
    let g = c.self.inside in
    let h = subst (λ v. HasVisits v g.visits.items g.visit_ends.items g.cells.entries) c.self.view_is c.self.invariant in
    let value : lookup (same_cell c.args.cell) g.cells.entries ≡ None = sym c.in_err-number.ensures.value in
    let none = not_found same_cell h.kept.placing.names h.ordered.order c.args.cell (same_cell-true c.args.cell c.args.cell refl) (ap (lookup (same_cell c.args.cell)) (sym h.ordered.are) ∙ value) in
    subst (λ (o : Option (Bor (List Visit))). MatchOption o ((v : Visit) → IsVisitTo c.args.self.now c.args.cell v → ⊥) (λ visits. AreVisitsTo c.args.self.now c.args.cell visits.now))
    (sym c.from_residual.ensures) (not_visited c.args.self.now h.cells h.times h.ends h.needs g.visits.items g.visit_ends.items h.kept h.ordered.order h.ordered.ordered c.args.cell none)

pub visits_of-requires-clause-number : goal.visits_of-requires-clause-number
visits_of-requires-clause-number c =
    let g = c.self.inside in
    let h = subst (λ v. HasVisits v g.visits.items g.visit_ends.items g.cells.entries) c.self.view_is c.self.invariant in
    let n = c.in_ok-number.field-0.now in
    let value : lookup (same_cell c.args.cell) g.cells.entries ≡ Some n = sym c.in_ok-number.ensures.value in
    let at = found same_cell same_cell-same h.kept.placing.names h.ordered.order c.args.cell n (ap (lookup (same_cell c.args.cell)) (sym h.ordered.are) ∙ value) in
    let is = kept_number c.args.self.now h.cells h.times h.ends h.needs g.visits.items g.visit_ends.items h.kept h.ordered.order h.ordered.ordered at.0 n at.1 in
    let known = is.known in
    let long = ap length c.deref-2.ensures.value in
    omega (arith, known, long)

pub visits_of-requires-clause-order : goal.visits_of-requires-clause-order
visits_of-requires-clause-order c =
    let g = c.self.inside in
    let h = subst (λ v. HasVisits v g.visits.items g.visit_ends.items g.cells.entries) c.self.view_is c.self.invariant in
    let n = c.in_ok-number.field-0.now in
    let value : lookup (same_cell c.args.cell) g.cells.entries ≡ Some n = sym c.in_ok-number.ensures.value in
    let at = found same_cell same_cell-same h.kept.placing.names h.ordered.order c.args.cell n (ap (lookup (same_cell c.args.cell)) (sym h.ordered.are) ∙ value) in
    let is = kept_number c.args.self.now h.cells h.times h.ends h.needs g.visits.items g.visit_ends.items h.kept h.ordered.order h.ordered.ordered at.0 n at.1 in
    subst (λ l. begin_in l n ≤ get_or l n 0) (sym c.deref-2.ensures.value) is.begin

pub visits_of-requires-clause-within : goal.visits_of-requires-clause-within
visits_of-requires-clause-within c =
    let g = c.self.inside in
    let h = subst (λ v. HasVisits v g.visits.items g.visit_ends.items g.cells.entries) c.self.view_is c.self.invariant in
    let n = c.in_ok-number.field-0.now in
    let value : lookup (same_cell c.args.cell) g.cells.entries ≡ Some n = sym c.in_ok-number.ensures.value in
    let at = found same_cell same_cell-same h.kept.placing.names h.ordered.order c.args.cell n (ap (lookup (same_cell c.args.cell)) (sym h.ordered.are) ∙ value) in
    let is = kept_number c.args.self.now h.cells h.times h.ends h.needs g.visits.items g.visit_ends.items h.kept h.ordered.order h.ordered.ordered at.0 n at.1 in
    let within = is.within in
    let end = ap (λ l. get_or l n 0) c.deref-2.ensures.value in
    let long = ap length c.deref.ensures.value in
    omega (arith, within, end, long)

pub returns : goal.returns
returns c =
    let g = c.self.inside in
    let h = subst (λ v. HasVisits v g.visits.items g.visit_ends.items g.cells.entries) c.self.view_is c.self.invariant in
    let n = c.in_ok-number.field-0.now in
    let value : lookup (same_cell c.args.cell) g.cells.entries ≡ Some n = sym c.in_ok-number.ensures.value in
    let at = found same_cell same_cell-same h.kept.placing.names h.ordered.order c.args.cell n (ap (lookup (same_cell c.args.cell)) (sym h.ordered.are) ∙ value) in
    let part = c.visits_of.ensures ∙ ap (λ l. part_of l c.deref.result.now n) c.deref-2.ensures.value ∙ ap (λ l. part_of g.visit_ends.items l n) c.deref.ensures.value in
    subst (AreVisitsTo c.args.self.now c.args.cell) (sym part) (visits_of_cell c.args.self.now h.cells h.times h.ends h.needs g.visits.items g.visit_ends.items h.kept h.ordered.order h.ordered.ordered
    at.0 n c.args.cell at.1 at.2)
