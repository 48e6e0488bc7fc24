-- The need is what the entry waits for.
use Rattle.std.proofs.Common.{ℕ, ◌+◌, ◌<◌, ◌≤◌, length, get_or, Some, None, arith, sym, ap, subst, ◌∙◌}
use Rattle.std.specs.Prelude.{◌==◌}
use Rattle.std.proofs.lemmas.Bool.{cond-true, cond-false, eq-eqb, ne_eqb}
use Rattle.std.proofs.lemmas.List.{get_or_default}
use Rattle.depgraph.specs.Routes.{asked_by}
use Rattle.depgraph.specs.Code.Entries.{begin_in, IsEntry}
use Rattle.depgraph.specs.Code.Numbers.{cells_by}
use Rattle.depgraph.specs.Code.Keeping.{AreKept, asked_of}
use Rattle.depgraph.specs.Code.Waits.{no_wait}
use Rattle.depgraph.proofs.KeptLemmas.{kept_need, no_need_at, begins_before, entry_inside}
use Rattle.depgraph.proofs.dependencies.Dependencies.need.Goals as goal

pub entry_at-requires : goal.entry_at-requires
entry_at-requires c =
    let g = c.self.inside in
    let h = subst (λ v. AreKept v (cells_by g.names.items g.numbers.items) g.times.items g.ends.items g.needs.items) c.self.view_is c.self.invariant.0 in
    subst (λ l. (i : ℕ) → i < length l → begin_in l i ≤ get_or l i 0) (sym c.deref.ensures.value)
    (begins_before c.args.self.now (cells_by g.names.items g.numbers.items) g.times.items g.ends.items g.needs.items h.visits h.visit_ends h.kept)

pub returns-in_err-entry : goal.returns-in_err-entry
returns-in_err-entry c =
    let g = c.self.inside in
    let h = subst (λ v. AreKept v (cells_by g.names.items g.numbers.items) g.times.items g.ends.items g.needs.items) c.self.view_is c.self.invariant.0 in
    c.from_residual.ensures
    ∙ sym (ap asked_by (no_need_at c.args.self.now (cells_by g.names.items g.numbers.items) g.times.items g.ends.items g.needs.items h.visits h.visit_ends h.kept c.args.agent c.args.number
    (subst (λ l. (e : ℕ) → IsEntry l c.args.agent (c.args.number + 1) e → ⊥) c.deref.ensures.value c.in_err-entry.ensures)))

pub index-wait-requires : goal.index-wait-requires
index-wait-requires c =
    let g = c.self.inside in
    let h = subst (λ v. AreKept v (cells_by g.names.items g.numbers.items) g.times.items g.ends.items g.needs.items) c.self.view_is c.self.invariant.0 in
    let e = c.in_ok-entry.entry in
    let entry = subst (λ l. IsEntry l c.args.agent (c.args.number + 1) e) c.deref.ensures.value c.in_ok-entry.ensures in
    let inside = (entry_inside c.args.self.now (cells_by g.names.items g.numbers.items) g.times.items g.ends.items g.needs.items h.visits h.visit_ends h.kept c.args.agent (c.args.number + 1) e
    entry).2 in
    let count = g.needs.ok.0 in
    omega (arith, inside, count)

pub returns-then-wait-eq0 : goal.returns-then-wait-eq0
returns-then-wait-eq0 c =
    let g = c.self.inside in
    let h = subst (λ v. AreKept v (cells_by g.names.items g.numbers.items) g.times.items g.ends.items g.needs.items) c.self.view_is c.self.invariant.0 in
    let e = c.in_ok-entry.entry in
    let entry = subst (λ l. IsEntry l c.args.agent (c.args.number + 1) e) c.deref.ensures.value c.in_ok-entry.ensures in
    let inside = (entry_inside c.args.self.now (cells_by g.names.items g.numbers.items) g.times.items g.ends.items g.needs.items h.visits h.visit_ends h.kept c.args.agent (c.args.number + 1) e
    entry).2 in
    let kept = kept_need c.args.self.now (cells_by g.names.items g.numbers.items) g.times.items g.ends.items g.needs.items h.visits h.visit_ends h.kept c.args.agent c.args.number e entry in
    let w = c.index-wait.result.now in
    let wait = c.index-wait.ensures ∙ get_or_default g.needs.items e w no_wait inside in
    sym (kept ∙ sym (ap asked_of wait) ∙ cond-true (w.count == 0) None (Some (w.agent, w.count)) (eq-eqb w.count 0 c.if-wait-eq0.true))

pub returns-else-wait-eq0 : goal.returns-else-wait-eq0
returns-else-wait-eq0 c =
    let g = c.self.inside in
    let h = subst (λ v. AreKept v (cells_by g.names.items g.numbers.items) g.times.items g.ends.items g.needs.items) c.self.view_is c.self.invariant.0 in
    let e = c.in_ok-entry.entry in
    let entry = subst (λ l. IsEntry l c.args.agent (c.args.number + 1) e) c.deref.ensures.value c.in_ok-entry.ensures in
    let inside = (entry_inside c.args.self.now (cells_by g.names.items g.numbers.items) g.times.items g.ends.items g.needs.items h.visits h.visit_ends h.kept c.args.agent (c.args.number + 1) e
    entry).2 in
    let kept = kept_need c.args.self.now (cells_by g.names.items g.numbers.items) g.times.items g.ends.items g.needs.items h.visits h.visit_ends h.kept c.args.agent c.args.number e entry in
    let w = c.index-wait.result.now in
    let wait = c.index-wait.ensures ∙ get_or_default g.needs.items e w no_wait inside in
    sym (kept ∙ sym (ap asked_of wait) ∙ cond-false (w.count == 0) None (Some (w.agent, w.count)) (ne_eqb w.count 0 c.if-wait-eq0.false)
    ∙ ap (λ n. Some (w.agent, n)) (sym c.from.ensures))
