-- The waits are found along the times of the paths.
use Rattle.std.proofs.Common.{◌≡◌, length, arith, sym, subst}
use Rattle.depgraph.specs.Code.Following.{AreEntries, AreFollowed}
use Rattle.depgraph.proofs.LayingLemmas.{graphed, entries, found, lent}
use Rattle.depgraph.proofs.laying.find.Goals as goal

pub waits_by_time-requires : goal.waits_by_time-requires
waits_by_time-requires c =
    let checked = c.args.plan.now in
    let p = c.in_ok-paths.paths in
    let did = c.in_ok-paths.ensures in
    let long = c.len.ensures in
    let items = p.names.ok.0 in
    let same : length p.names.items ≡ c.len.result = omega (arith, long, items) in
    lent (λ a b d. AreEntries a b d c.len.result) p.times.items c.deref.result.now p.ends.items c.deref-2.result.now p.numbers.items c.deref-3.result.now
    c.deref.ensures.value c.deref-2.ensures.value c.deref-3.ensures.value
    (subst (AreEntries p.times.items p.ends.items p.numbers.items) same
    (entries checked.timetable (graphed checked c.number-number.ensures.within) p.names.items p.numbers.items p.times.items p.ends.items did.numbered did.paths))

pub returns : goal.returns
returns c =
    let checked = c.args.plan.now in
    let p = c.in_ok-paths.paths in
    let did = c.in_ok-paths.ensures in
    let waits = c.in_ok-needs.needs.items in
    let followed = lent (λ a b d. AreFollowed a b d waits) c.deref.result.now p.times.items c.deref-2.result.now p.ends.items c.deref-3.result.now p.numbers.items
    (sym c.deref.ensures.value) (sym c.deref-2.ensures.value) (sym c.deref-3.ensures.value) c.in_ok-needs.ensures in
    record {
      number = c.number-number.ensures.number;
      numbered = did.numbered;
      paths = did.paths;
      followed = followed;
      found = found checked.timetable (graphed checked c.number-number.ensures.within) p.names.items p.numbers.items p.times.items p.ends.items did.numbered did.paths
          waits followed c.number-number.result c.number-number.ensures.number;
    }
