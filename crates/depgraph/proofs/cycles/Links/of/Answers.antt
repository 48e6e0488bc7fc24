-- The link is the one that was there, unless it was taken away.
use Rattle.std.proofs.Common.{◌<◌, length, true, arith, sym, ◌∙◌}
use Rattle.std.proofs.lemmas.List.{get_or_default}
use Rattle.depgraph.proofs.LinkLemmas.{length-links, link-taken_away, link-there}
use Rattle.depgraph.proofs.cycles.Links.of.Goals as goal

pub index-requires : goal.index-requires
index-requires c =
    let l = c.args.self.now in
    let entry = c.requires.entry in
    let long = length-links l.times.now l.ends.now l.waits.now l.taken.items in
    let count = l.taken.ok.0 in
    omega (arith, entry, long, count)

pub link-requires-clause-index : goal.link-requires-clause-index
link-requires-clause-index c =
    let l = c.args.self.now in
    let entry = c.requires.entry in
    let long = length-links l.times.now l.ends.now l.waits.now l.taken.items in
    let whole = c.requires.whole.whole in
    omega (arith, entry, long, whole)

pub returns-then-index : goal.returns-then-index
returns-then-index c =
    let l = c.args.self.now in
    let entry = c.requires.entry in
    let long = length-links l.times.now l.ends.now l.waits.now l.taken.items in
    let inside : c.args.entry < length l.taken.items = omega (arith, entry, long) in
    let there = sym (get_or_default l.taken.items c.args.entry c.index.result.now true inside) ∙ sym c.index.ensures in
    sym (link-taken_away l.times.now l.ends.now l.waits.now l.taken.items c.args.entry inside (there ∙ c.if-index.true))

pub returns-else-index : goal.returns-else-index
returns-else-index c =
    let l = c.args.self.now in
    let entry = c.requires.entry in
    let long = length-links l.times.now l.ends.now l.waits.now l.taken.items in
    let inside : c.args.entry < length l.taken.items = omega (arith, entry, long) in
    let there = sym (get_or_default l.taken.items c.args.entry c.index.result.now true inside) ∙ sym c.index.ensures in
    c.link.ensures ∙ sym (link-there l.times.now l.ends.now l.waits.now l.taken.items c.args.entry 0 inside (there ∙ c.if-index.false))
