-- The link is the one that was there, and there is none afterwards.
use Rattle.std.proofs.Common.{arith}
use Rattle.depgraph.proofs.LinkLemmas.{length-links, links-set}
use Rattle.depgraph.proofs.cycles.Links.take.Goals as goal

pub index_mut-requires : goal.index_mut-requires
index_mut-requires c =
    let l = c.args.self.now in
    let entry = c.requires.entry in
    let long = length-links l.times.now l.ends.now l.waits.now l.taken.items in
    let count = l.taken.ok.0 in
    omega (arith, entry, long, count)

pub returns-clause-taken : goal.returns-clause-taken
returns-clause-taken c =
    let l = c.args.self.now in
    let entry = c.requires.entry in
    let long = length-links l.times.now l.ends.now l.waits.now l.taken.items in
    links-set l.times.now l.ends.now l.waits.now l.taken.items c.args.entry (omega (arith, entry, long))
