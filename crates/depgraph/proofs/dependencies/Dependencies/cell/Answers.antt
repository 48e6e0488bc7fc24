-- The cell of the entry is that of the path.
use Rattle.std.proofs.Common.{ℕ, ◌<◌, ◌≤◌, length, get_or, Some, arith, sym, ap, subst, ◌∙◌}
use Rattle.depgraph.specs.Code.Entries.{begin_in, IsEntry}
use Rattle.depgraph.specs.Code.Keeping.{AreKept}
use Rattle.depgraph.specs.Code.Numbers.{no_cell, cells_by}
use Rattle.depgraph.proofs.KeptLemmas.{kept_cell, no_cell_at, begins_before, entry_inside}
use Rattle.depgraph.proofs.NumberLemmas.{length-cells_by}
use Rattle.depgraph.proofs.dependencies.Dependencies.cell.Goals as goal

pub entry_at-requires : goal.entry_at-requires
entry_at-requires c =
    let g = c.self.inside in
    let h = subst (λ v. AreKept v (cells_by g.names.items g.numbers.items) g.times.items g.ends.items g.needs.items) c.self.view_is c.self.invariant.0 in
    subst (λ l. (i : ℕ) → i < length l → begin_in l i ≤ get_or l i 0) (sym c.deref.ensures.value)
    (begins_before c.args.self.now (cells_by g.names.items g.numbers.items) g.times.items g.ends.items g.needs.items h.visits h.visit_ends h.kept)

pub returns-in_err-entry : goal.returns-in_err-entry
returns-in_err-entry c =
    let g = c.self.inside in
    let h = subst (λ v. AreKept v (cells_by g.names.items g.numbers.items) g.times.items g.ends.items g.needs.items) c.self.view_is c.self.invariant.0 in
    c.from_residual.ensures
    ∙ sym (no_cell_at c.args.self.now (cells_by g.names.items g.numbers.items) g.times.items g.ends.items g.needs.items h.visits h.visit_ends h.kept c.args.agent c.args.index
    (subst (λ l. (e : ℕ) → IsEntry l c.args.agent c.args.index e → ⊥) c.deref.ensures.value c.in_err-entry.ensures))

pub cell_at-requires-clause-index : goal.cell_at-requires-clause-index
cell_at-requires-clause-index c =
    let g = c.self.inside in
    let h = subst (λ v. AreKept v (cells_by g.names.items g.numbers.items) g.times.items g.ends.items g.needs.items) c.self.view_is c.self.invariant.0 in
    let entry = subst (λ l. IsEntry l c.args.agent c.args.index c.in_ok-entry.entry) c.deref.ensures.value c.in_ok-entry.ensures in
    let inside = (entry_inside c.args.self.now (cells_by g.names.items g.numbers.items) g.times.items g.ends.items g.needs.items h.visits h.visit_ends h.kept c.args.agent c.args.index
    c.in_ok-entry.entry entry).0 in
    let count = length-cells_by g.names.items g.numbers.items in
    let long = ap length c.deref-3.ensures.value in
    omega (arith, inside, count, long)

pub returns : goal.returns
returns c =
    let g = c.self.inside in
    let h = subst (λ v. AreKept v (cells_by g.names.items g.numbers.items) g.times.items g.ends.items g.needs.items) c.self.view_is c.self.invariant.0 in
    let entry = subst (λ l. IsEntry l c.args.agent c.args.index c.in_ok-entry.entry) c.deref.ensures.value c.in_ok-entry.ensures in
    let cells = ap (λ l. cells_by l c.deref-3.result.now) c.deref-2.ensures.value ∙ ap (cells_by g.names.items) c.deref-3.ensures.value in
    ap Some (c.cell_at.ensures ∙ ap (λ l. get_or l c.in_ok-entry.entry no_cell) cells)
    ∙ sym (kept_cell c.args.self.now (cells_by g.names.items g.numbers.items) g.times.items g.ends.items g.needs.items h.visits h.visit_ends h.kept c.args.agent c.args.index c.in_ok-entry.entry entry)
