-- The map has each visited cell.
use Rattle.std.proofs.Common.{length, arith, ap, subst, ◌∙◌}
use Rattle.depgraph.specs.Code.Keeping.{HasVisits}
use Rattle.depgraph.proofs.CellLemmas.{length-numbered}
use Rattle.depgraph.proofs.KeptLemmas.{visited_cells, kept_visits, kept_count, few_visited}
use Rattle.depgraph.proofs.graph.Graph.cell_count.Goals as goal

pub overflow_cast-result : goal.overflow_cast-result
overflow_cast-result c =
    let g = c.self.inside in
    let h = subst (λ v. HasVisits v g.visits.items g.visit_ends.items g.cells.entries) c.self.view_is c.self.invariant in
    let asked = c.len.ensures.len in
    let count = ap length h.ordered.are ∙ length-numbered h.kept.placing.names h.ordered.order in
    let few = few_visited c.args.self.now h.cells h.times h.ends h.needs g.visits.items g.visit_ends.items h.kept h.ordered.order h.ordered.ordered in
    omega (arith, asked, count, few)

pub returns : goal.returns
returns c =
    let g = c.self.inside in
    let h = subst (λ v. HasVisits v g.visits.items g.visit_ends.items g.cells.entries) c.self.view_is c.self.invariant in
    let asked = c.len.ensures.len in
    let count = ap length h.ordered.are ∙ length-numbered h.kept.placing.names h.ordered.order in
    let whole = kept_count c.args.self.now h.cells h.times h.ends h.needs g.visits.items g.visit_ends.items h.kept h.ordered.order h.ordered.ordered in (
      visited_cells c.args.self.now h.cells h.times h.ends h.needs g.visits.items g.visit_ends.items h.kept h.ordered.order h.ordered.ordered,
      kept_visits c.args.self.now h.cells h.times h.ends h.needs g.visits.items g.visit_ends.items h.kept h.ordered.order h.ordered.ordered,
      omega (arith, asked, count, whole),
    )
