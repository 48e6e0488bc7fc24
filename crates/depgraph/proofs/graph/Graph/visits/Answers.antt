-- The cell at a place of the map, and its visits.
use Rattle.std.proofs.Common.{◌≤◌, length, get_or, Some, arith, sym, ap, subst, ◌∙◌}
use Rattle.std.specs.Prelude.{option_map, slice_get}
use Rattle.depgraph.specs.Code.Entries.{begin_in}
use Rattle.depgraph.specs.Code.Keeping.{HasVisits}
use Rattle.depgraph.specs.Code.Numbers.{no_cell}
use Rattle.depgraph.specs.Code.Placing.{part_of}
use Rattle.depgraph.proofs.CellLemmas.{numbered-at, numbered-none}
use Rattle.depgraph.proofs.KeptLemmas.{visited_cells, kept_visits, kept_number, past_visits}
use Rattle.depgraph.proofs.graph.Graph.visits.Goals as goal

pub returns-in_err-cell : goal.returns-in_err-cell
returns-in_err-cell c =
    let g = c.self.inside in
    let h = subst (λ v. HasVisits v g.visits.items g.visit_ends.items g.cells.entries) c.self.view_is c.self.invariant in
    let none = numbered-none h.kept.placing.names h.ordered.order c.args.n (sym (c.in_err-cell.ensures.entry ∙ ap (λ l. slice_get l c.args.n) h.ordered.are)) in (
      visited_cells c.args.self.now h.cells h.times h.ends h.needs g.visits.items g.visit_ends.items h.kept h.ordered.order h.ordered.ordered,
      kept_visits c.args.self.now h.cells h.times h.ends h.needs g.visits.items g.visit_ends.items h.kept h.ordered.order h.ordered.ordered,
      ap (option_map (λ at. record { cell = at.0; visits = at.1.now })) c.from_residual.ensures
          ∙ sym (past_visits c.args.self.now h.cells h.times h.ends h.needs g.visits.items g.visit_ends.items h.kept h.ordered.order h.ordered.ordered c.args.n none),
    )

pub visits_of-visits-requires-clause-number : goal.visits_of-visits-requires-clause-number
visits_of-visits-requires-clause-number c =
    let g = c.self.inside in
    let h = subst (λ v. HasVisits v g.visits.items g.visit_ends.items g.cells.entries) c.self.view_is c.self.invariant in
    let n = c.in_ok-cell.number.now in
    let entry = c.in_ok-cell.ensures.entry ∙ ap (λ l. slice_get l c.args.n) h.ordered.are in
    let at = numbered-at h.kept.placing.names h.ordered.order c.args.n c.in_ok-cell.cell.now n (sym entry) in
    let is = kept_number c.args.self.now h.cells h.times h.ends h.needs g.visits.items g.visit_ends.items h.kept h.ordered.order h.ordered.ordered c.args.n n at.0 in
    let known = is.known in
    let long = ap length c.deref-2.ensures.value in
    omega (arith, known, long)

pub visits_of-visits-requires-clause-order : goal.visits_of-visits-requires-clause-order
visits_of-visits-requires-clause-order c =
    let g = c.self.inside in
    let h = subst (λ v. HasVisits v g.visits.items g.visit_ends.items g.cells.entries) c.self.view_is c.self.invariant in
    let n = c.in_ok-cell.number.now in
    let entry = c.in_ok-cell.ensures.entry ∙ ap (λ l. slice_get l c.args.n) h.ordered.are in
    let at = numbered-at h.kept.placing.names h.ordered.order c.args.n c.in_ok-cell.cell.now n (sym entry) in
    let is = kept_number c.args.self.now h.cells h.times h.ends h.needs g.visits.items g.visit_ends.items h.kept h.ordered.order h.ordered.ordered c.args.n n at.0 in
    subst (λ l. begin_in l n ≤ get_or l n 0) (sym c.deref-2.ensures.value) is.begin

pub visits_of-visits-requires-clause-within : goal.visits_of-visits-requires-clause-within
visits_of-visits-requires-clause-within c =
    let g = c.self.inside in
    let h = subst (λ v. HasVisits v g.visits.items g.visit_ends.items g.cells.entries) c.self.view_is c.self.invariant in
    let n = c.in_ok-cell.number.now in
    let entry = c.in_ok-cell.ensures.entry ∙ ap (λ l. slice_get l c.args.n) h.ordered.are in
    let at = numbered-at h.kept.placing.names h.ordered.order c.args.n c.in_ok-cell.cell.now n (sym entry) in
    let is = kept_number c.args.self.now h.cells h.times h.ends h.needs g.visits.items g.visit_ends.items h.kept h.ordered.order h.ordered.ordered c.args.n n at.0 in
    let within = is.within in
    let end = ap (λ l. get_or l n 0) c.deref-2.ensures.value in
    let long = ap length c.deref.ensures.value in
    omega (arith, within, end, long)

pub returns : goal.returns
returns c =
    let g = c.self.inside in
    let h = subst (λ v. HasVisits v g.visits.items g.visit_ends.items g.cells.entries) c.self.view_is c.self.invariant in
    let n = c.in_ok-cell.number.now in
    let entry = c.in_ok-cell.ensures.entry ∙ ap (λ l. slice_get l c.args.n) h.ordered.are in
    let at = numbered-at h.kept.placing.names h.ordered.order c.args.n c.in_ok-cell.cell.now n (sym entry) in
    let is = kept_number c.args.self.now h.cells h.times h.ends h.needs g.visits.items g.visit_ends.items h.kept h.ordered.order h.ordered.ordered c.args.n n at.0 in
    let part = c.visits_of-visits.ensures ∙ ap (λ l. part_of l c.deref.result.now n) c.deref-2.ensures.value ∙ ap (λ l. part_of g.visit_ends.items l n) c.deref.ensures.value in (
      visited_cells c.args.self.now h.cells h.times h.ends h.needs g.visits.items g.visit_ends.items h.kept h.ordered.order h.ordered.ordered,
      kept_visits c.args.self.now h.cells h.times h.ends h.needs g.visits.items g.visit_ends.items h.kept h.ordered.order h.ordered.ordered,
      ap {B = _} (λ x. Some (record { cell = x; visits = c.visits_of-visits.result.now })) at.1
          ∙ ap (λ l. Some (record { cell = get_or h.kept.placing.names n no_cell; visits = l })) part
          ∙ sym is.listed,
    )
