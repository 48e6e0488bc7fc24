-- The visits of the paths stand in their places.
use Rattle.std.proofs.Common.{◌<◌, ℕ, length, get_or, arith, sym, ap, subst, ◌∙◌}
use Rattle.depgraph.specs.Code.Entries.{AreFew}
use Rattle.depgraph.specs.Code.Numbers.{cells_by}
use Rattle.depgraph.specs.Code.Paths.{all_entered, ArePaths}
use Rattle.depgraph.specs.Code.Placing.{AreSortedVisits}
use Rattle.depgraph.proofs.LayingLemmas.{few, time_count, built, laid_out, lent}
use Rattle.depgraph.proofs.NumberLemmas.{are_known}
use Rattle.depgraph.proofs.laying.lay_out.Goals as goal

pub place_visits-requires-clause-paths : goal.place_visits-requires-clause-paths
place_visits-requires-clause-paths c =
    let tracks = c.args.plan.now.timetable.tracks in
    let p = c.in_ok-number.field-0.paths in
    let did = c.in_ok-number.ensures in
    let few_cells = few c.args.plan.now.timetable did.found.laid.graphed p.names.items p.numbers.items p.times.items p.ends.items did.numbered did.paths in
    let paths = subst (λ l. ArePaths tracks l p.times.items p.ends.items) did.paths.are_cells did.paths in
    record {
      tracks = tracks;
      few = subst (AreFew (all_entered tracks)) (sym c.deref-2.ensures.value) few_cells;
      are_paths = subst (λ l. ArePaths tracks (all_entered tracks) l c.deref-2.result.now) (sym c.deref.ensures.value)
          (subst (ArePaths tracks (all_entered tracks) p.times.items) (sym c.deref-2.ensures.value) paths);
    }

pub place_visits-requires-clause-count : goal.place_visits-requires-clause-count
place_visits-requires-clause-count c =
    let tt = c.args.plan.now.timetable in
    let f = c.in_ok-number.field-0 in
    let did = c.in_ok-number.ensures in
    ap length c.deref-3.ensures.value ∙ time_count tt did.found.laid.graphed f.paths.names.items f.paths.numbers.items f.paths.times.items f.paths.ends.items did.numbered did.paths
    ∙ ap length (sym c.deref.ensures.value)

pub place_visits-requires-clause-known : goal.place_visits-requires-clause-known
place_visits-requires-clause-known c =
    let p = c.in_ok-number.field-0.paths in
    let known = are_known (cells_by p.names.items p.numbers.items) p.names.items p.numbers.items c.in_ok-number.ensures.numbered in
    let long = c.len.ensures in
    let items = p.names.ok.0 in
    subst (λ l. (e : ℕ) → e < length l → get_or l e 0 < c.len.result) (sym c.deref-3.ensures.value) (λ e less. let own = known e less in omega (arith, own, long, items))

pub returns : goal.returns
returns c =
    let tt = c.args.plan.now.timetable in
    let f = c.in_ok-number.field-0 in
    let p = f.paths in
    let did = c.in_ok-number.ensures in
    let d = c.in_ok-placed.placed in
    let visits = d.visits.items in
    let visit_ends = d.next.next.items in
    let asked = c.len.ensures in
    let items = p.names.ok.0 in
    let count = c.in_ok-placed.ensures.count in
    let sorted = lent (λ a b l. AreSortedVisits a b l visits visit_ends) c.deref.result.now p.times.items c.deref-2.result.now p.ends.items c.deref-3.result.now p.numbers.items
    (sym c.deref.ensures.value) (sym c.deref-2.ensures.value) (sym c.deref-3.ensures.value) c.in_ok-placed.ensures.visits in
    let is = did.found.laid.graphed in
    let names = p.names.items in
    let b = built tt is names p.numbers.items p.times.items p.ends.items did.numbered did.paths visits visit_ends sorted (omega (arith, asked, items, count)) in
    laid_out tt is names p.numbers.items p.times.items p.ends.items did.numbered did.paths f.needs.items did.followed visits visit_ends b f.number did.number
