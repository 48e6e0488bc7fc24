-- The visited cells come in the order of their first visits.
use Rattle.std.proofs.Common.{◌≡◌, ℕ, ◌^◌, ◌<◌, ◌≤◌, length, get_or, sym, ap, subst, ◌∙◌}
use Rattle.depgraph.specs.Code.Entries.{begin_in}
use Rattle.depgraph.specs.Code.Keeping.{HasVisits}
use Rattle.depgraph.specs.Code.Orders.{AreByFirst, numbered as numbered_by}
use Rattle.depgraph.specs.Code.Waits.{no_visit}
use Rattle.depgraph.proofs.OrderLemmas.{few_numbers, some_visit, end_within_visits, few_visit_times, is_order}
use Rattle.depgraph.proofs.graph.Graph.build.Goals as goal

pub order_of-requires-clause-few : goal.order_of-requires-clause-few
order_of-requires-clause-few c =
    let tt = c.args.plan.now.timetable in
    let laid = c.in_ok-number.field-0 in
    let k = c.in_ok-number.ensures.kept in
    subst (λ l. length l < 2 ^ 32) (sym c.deref-2.ensures.value)
    (few_numbers tt.number tt.tracks laid.paths.ends.items k.arrivals k.step_ends k.line laid.visits.items laid.visit_ends.items k.placing)

pub order_of-requires-clause-some : goal.order_of-requires-clause-some
order_of-requires-clause-some c =
    let tt = c.args.plan.now.timetable in
    let laid = c.in_ok-number.field-0 in
    let k = c.in_ok-number.ensures.kept in
    subst (λ l. (n : ℕ) → n < length l → begin_in l n < get_or l n 0) (sym c.deref-2.ensures.value)
    (some_visit tt.number tt.tracks laid.paths.ends.items k.arrivals k.step_ends k.line laid.visits.items laid.visit_ends.items k.placing)

pub order_of-requires-clause-within : goal.order_of-requires-clause-within
order_of-requires-clause-within c =
    let tt = c.args.plan.now.timetable in
    let laid = c.in_ok-number.field-0 in
    let visit_ends = laid.visit_ends.items in
    let k = c.in_ok-number.ensures.kept in
    subst (λ l. (n : ℕ) → n < length l → get_or l n 0 ≤ length c.deref.result.now) (sym c.deref-2.ensures.value)
    (subst (λ l. (n : ℕ) → n < length visit_ends → get_or visit_ends n 0 ≤ length l) (sym c.deref.ensures.value)
    (end_within_visits tt.number tt.tracks laid.paths.ends.items k.arrivals k.step_ends k.line laid.visits.items visit_ends k.placing))

pub order_of-requires-clause-times : goal.order_of-requires-clause-times
order_of-requires-clause-times c =
    let tt = c.args.plan.now.timetable in
    let laid = c.in_ok-number.field-0 in
    let k = c.in_ok-number.ensures.kept in
    subst (λ l. (n : ℕ) → n < length l → (get_or l n no_visit).time < 2 ^ 16) (sym c.deref.ensures.value)
    (few_visit_times tt.number tt.tracks laid.paths.ends.items k.arrivals k.step_ends k.line laid.visits.items laid.visit_ends.items k.placing k.graphed.step_limit)

pub invariant_of-result : goal.invariant_of-result
invariant_of-result c =
    let tt = c.args.plan.now.timetable in
    let laid = c.in_ok-number.field-0 in
    let names = laid.paths.names.items in
    let visits = laid.visits.items in
    let visit_ends = laid.visit_ends.items in
    let is = c.in_ok-number.ensures in
    let k = is.kept in
    let order = c.in_ok-order.order.items in
    let entries = c.in_ok-cells.cells.entries in
    let by = subst (λ l. AreByFirst visits l order) c.deref-2.ensures.value (subst (λ l. AreByFirst l c.deref-2.result.now order) c.deref.ensures.value c.in_ok-order.ensures) in
    let are : entries ≡ numbered_by k.placing.names order =
    c.in_ok-cells.ensures ∙ ap (λ l. numbered_by l c.deref-4.result.now) c.deref-3.ensures.value ∙ ap (numbered_by names) c.deref-4.ensures.value ∙ ap (λ l. numbered_by l order) (sym is.named) in
    subst (λ v. HasVisits v visits visit_ends entries) (sym c.in_ok-dependencies.ensures) (record {
      cells = _;
      times = _;
      ends = _;
      needs = _;
      kept = k;
      ordered = record {
        order = order;
        ordered = is_order tt.number tt.tracks laid.paths.ends.items k.arrivals k.step_ends k.line visits visit_ends k.placing order by;
        are = are;
      };
    })
