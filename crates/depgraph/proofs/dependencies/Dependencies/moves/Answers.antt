-- A path has one cell more than moves.
use Rattle.std.proofs.Common.{◌<◌, length, Some, arith, sym, ap, subst, ◌∙◌}
use Rattle.std.proofs.lemmas.List.{get_or_default}
use Rattle.depgraph.specs.Code.Entries.{begin_in}
use Rattle.depgraph.specs.Code.Numbers.{cells_by}
use Rattle.depgraph.specs.Code.Keeping.{AreKept}
use Rattle.std.specs.Prelude.{option_map}
use Rattle.model.specs.Timetable.{moves}
use Rattle.depgraph.proofs.KeptLemmas.{kept_moves, few_moves, no_track_at}
use Rattle.depgraph.proofs.dependencies.Dependencies.moves.Goals as goal

pub overflow_sub-result : goal.overflow_sub-result
overflow_sub-result c =
    let g = c.self.inside in
    let h = subst (λ v. AreKept v (cells_by g.names.items g.numbers.items) g.times.items g.ends.items g.needs.items) c.self.view_is c.self.invariant.0 in
    let less = c.if-agent-len.true in
    let asked = c.len.ensures in
    let count = g.ends.ok.0 in
    let within : c.args.agent < length g.ends.items = omega (arith, less, asked, count) in
    let end = c.index.ensures ∙ get_or_default g.ends.items c.args.agent c.index.result.now 0 within in
    let begin = c.begin_in.ensures ∙ ap (λ l. begin_in l c.args.agent) c.deref.ensures.value in
    let some = (kept_moves c.args.self.now (cells_by g.names.items g.numbers.items) g.times.items g.ends.items g.needs.items h.visits h.visit_ends h.kept c.args.agent within).0 in
    omega (arith, end, begin, some)

pub overflow_cast-result : goal.overflow_cast-result
overflow_cast-result c =
    let g = c.self.inside in
    let h = subst (λ v. AreKept v (cells_by g.names.items g.numbers.items) g.times.items g.ends.items g.needs.items) c.self.view_is c.self.invariant.0 in
    let less = c.if-agent-len.true in
    let asked = c.len.ensures in
    let count = g.ends.ok.0 in
    let within : c.args.agent < length g.ends.items = omega (arith, less, asked, count) in
    let end = c.index.ensures ∙ get_or_default g.ends.items c.args.agent c.index.result.now 0 within in
    let begin = c.begin_in.ensures ∙ ap (λ l. begin_in l c.args.agent) c.deref.ensures.value in
    let few = few_moves c.args.self.now (cells_by g.names.items g.numbers.items) g.times.items g.ends.items g.needs.items h.visits h.visit_ends h.kept c.args.agent within in
    omega (arith, end, begin, few)

pub overflow_sub-result-then-agent-len : goal.overflow_sub-result-then-agent-len
overflow_sub-result-then-agent-len c =
    let g = c.self.inside in
    let h = subst (λ v. AreKept v (cells_by g.names.items g.numbers.items) g.times.items g.ends.items g.needs.items) c.self.view_is c.self.invariant.0 in
    let less = c.if-agent-len.true in
    let asked = c.len.ensures in
    let count = g.ends.ok.0 in
    let within : c.args.agent < length g.ends.items = omega (arith, less, asked, count) in
    let end = c.index.ensures ∙ get_or_default g.ends.items c.args.agent c.index.result.now 0 within in
    let begin = c.begin_in.ensures ∙ ap (λ l. begin_in l c.args.agent) c.deref.ensures.value in
    let some = (kept_moves c.args.self.now (cells_by g.names.items g.numbers.items) g.times.items g.ends.items g.needs.items h.visits h.visit_ends h.kept c.args.agent within).0 in
    omega (arith, end, begin, some)

pub returns-then-agent-len-clause-moves : goal.returns-then-agent-len-clause-moves
returns-then-agent-len-clause-moves c =
    let g = c.self.inside in
    let h = subst (λ v. AreKept v (cells_by g.names.items g.numbers.items) g.times.items g.ends.items g.needs.items) c.self.view_is c.self.invariant.0 in
    let less = c.if-agent-len.true in
    let asked = c.len.ensures in
    let count = g.ends.ok.0 in
    let within : c.args.agent < length g.ends.items = omega (arith, less, asked, count) in
    let end = c.index.ensures ∙ get_or_default g.ends.items c.args.agent c.index.result.now 0 within in
    let begin = c.begin_in.ensures ∙ ap (λ l. begin_in l c.args.agent) c.deref.ensures.value in
    let kept = kept_moves c.args.self.now (cells_by g.names.items g.numbers.items) g.times.items g.ends.items g.needs.items h.visits h.visit_ends h.kept c.args.agent within in
    let count = kept.2 in
    ap Some (omega (arith, end, begin, count)) ∙ sym (ap (option_map moves) kept.1)

pub returns-else-agent-len-clause-moves : goal.returns-else-agent-len-clause-moves
returns-else-agent-len-clause-moves c =
    let g = c.self.inside in
    let h = subst (λ v. AreKept v (cells_by g.names.items g.numbers.items) g.times.items g.ends.items g.needs.items) c.self.view_is c.self.invariant.0 in
    let past = c.if-agent-len.false in
    let asked = c.len.ensures in
    let count = g.ends.ok.0 in
    sym (ap (option_map moves) (no_track_at c.args.self.now (cells_by g.names.items g.numbers.items) g.times.items g.ends.items g.needs.items h.visits h.visit_ends h.kept c.args.agent
    (omega (arith, past, asked, count))))
