-- The step is one before the time at which the cell is entered.
use Rattle.std.proofs.Common.{ℕ, ◌+◌, ◌-◌, ◌<◌, ◌≤◌, length, get_or, Some, arith, sym, ap, subst, ◌∙◌}
use Rattle.std.proofs.lemmas.List.{get_or_default}
use Rattle.depgraph.specs.Code.Entries.{begin_in, IsEntry}
use Rattle.depgraph.specs.Code.Numbers.{cells_by}
use Rattle.depgraph.specs.Code.Keeping.{AreKept}
use Rattle.depgraph.proofs.KeptLemmas.{kept_time, kept_step, no_step_at, begins_before, entry_inside}
use Rattle.depgraph.proofs.dependencies.Dependencies.step.Goals as goal

pub entry_at-requires : goal.entry_at-requires
entry_at-requires c =
    let g = c.self.inside in
    let h = subst (λ v. AreKept v (cells_by g.names.items g.numbers.items) g.times.items g.ends.items g.needs.items) c.self.view_is c.self.invariant.0 in
    subst (λ l. (i : ℕ) → i < length l → begin_in l i ≤ get_or l i 0) (sym c.deref.ensures.value)
    (begins_before c.args.self.now (cells_by g.names.items g.numbers.items) g.times.items g.ends.items g.needs.items h.visits h.visit_ends h.kept)

pub returns-in_err-entry : goal.returns-in_err-entry
returns-in_err-entry c =
    let g = c.self.inside in
    let h = subst (λ v. AreKept v (cells_by g.names.items g.numbers.items) g.times.items g.ends.items g.needs.items) c.self.view_is c.self.invariant.0 in
    c.from_residual.ensures
    ∙ sym (no_step_at c.args.self.now (cells_by g.names.items g.numbers.items) g.times.items g.ends.items g.needs.items h.visits h.visit_ends h.kept c.args.agent c.args.number
    (subst (λ l. (e : ℕ) → IsEntry l c.args.agent (c.args.number + 1) e → ⊥) c.deref.ensures.value c.in_err-entry.ensures))

pub index-requires : goal.index-requires
index-requires c =
    let g = c.self.inside in
    let h = subst (λ v. AreKept v (cells_by g.names.items g.numbers.items) g.times.items g.ends.items g.needs.items) c.self.view_is c.self.invariant.0 in
    let entry = subst (λ l. IsEntry l c.args.agent (c.args.number + 1) c.in_ok-entry.entry) c.deref.ensures.value c.in_ok-entry.ensures in
    let inside = (entry_inside c.args.self.now (cells_by g.names.items g.numbers.items) g.times.items g.ends.items g.needs.items h.visits h.visit_ends h.kept c.args.agent (c.args.number + 1)
    c.in_ok-entry.entry entry).1 in
    let count = g.times.ok.0 in
    omega (arith, inside, count)

pub overflow_sub-result : goal.overflow_sub-result
overflow_sub-result c =
    let g = c.self.inside in
    let h = subst (λ v. AreKept v (cells_by g.names.items g.numbers.items) g.times.items g.ends.items g.needs.items) c.self.view_is c.self.invariant.0 in
    let entry = subst (λ l. IsEntry l c.args.agent (c.args.number + 1) c.in_ok-entry.entry) c.deref.ensures.value c.in_ok-entry.ensures in
    let inside = (entry_inside c.args.self.now (cells_by g.names.items g.numbers.items) g.times.items g.ends.items g.needs.items h.visits h.visit_ends h.kept c.args.agent (c.args.number + 1)
    c.in_ok-entry.entry entry).1 in
    let time = c.index.ensures ∙ get_or_default g.times.items c.in_ok-entry.entry c.index.result.now 0 inside in
    let from = c.from.ensures in
    let late = (kept_time c.args.self.now (cells_by g.names.items g.numbers.items) g.times.items g.ends.items g.needs.items h.visits h.visit_ends h.kept c.args.agent c.args.number c.in_ok-entry.entry
    entry).3 in
    omega (arith, from, time, late)

pub returns : goal.returns
returns c =
    let g = c.self.inside in
    let h = subst (λ v. AreKept v (cells_by g.names.items g.numbers.items) g.times.items g.ends.items g.needs.items) c.self.view_is c.self.invariant.0 in
    let entry = subst (λ l. IsEntry l c.args.agent (c.args.number + 1) c.in_ok-entry.entry) c.deref.ensures.value c.in_ok-entry.ensures in
    let inside = (entry_inside c.args.self.now (cells_by g.names.items g.numbers.items) g.times.items g.ends.items g.needs.items h.visits h.visit_ends h.kept c.args.agent (c.args.number + 1)
    c.in_ok-entry.entry entry).1 in
    ap (λ t. Some (t - 1)) (c.from.ensures ∙ c.index.ensures ∙ get_or_default g.times.items c.in_ok-entry.entry c.index.result.now 0 inside)
    ∙ sym (kept_step c.args.self.now (cells_by g.names.items g.numbers.items) g.times.items g.ends.items g.needs.items h.visits h.visit_ends h.kept c.args.agent c.args.number c.in_ok-entry.entry
    entry)
