-- The entries of an agent's path stand together.
use Rattle.std.proofs.Common.{◌<◌, length, arith, sym, ap, subst}
use Rattle.depgraph.specs.AgentParts.{IsPartOf}
use Rattle.depgraph.specs.Code.Keeping.{AreKept}
use Rattle.depgraph.specs.Code.Numbers.{cells_by}
use Rattle.depgraph.specs.Code.Shares.{entries_among, part_by, HasShare}
use Rattle.depgraph.proofs.KeptLemmas.{no_track_at}
use Rattle.depgraph.proofs.ShareLemmas.{has_share, share-part, share-lent}
use Rattle.depgraph.proofs.dependencies.Dependencies.part.Goals as goal

pub among-requires : goal.among-requires
among-requires c =
    let g = c.self.inside in
    let h = subst (λ v. AreKept v (cells_by g.names.items g.numbers.items) g.times.items g.ends.items g.needs.items) c.self.view_is c.self.invariant.0 in
    let less = c.if-from-len.true in
    let asked = c.len.ensures in
    let from = c.from.ensures in
    let count = g.ends.ok.0 in
    let within : c.args.agent < length g.ends.items = omega (arith, less, asked, from, count) in
    let has = has_share c.args.self.now g.names.items g.numbers.items g.times.items g.ends.items g.needs.items h.visits h.visit_ends h.kept c.args.agent within g.number
    (ap (λ v. v.number) c.self.view_is) c.self.invariant.2 in
    share-lent (λ names numbers needs ends. HasShare g.number c.args.agent names numbers needs ends) c.deref.ensures.value c.deref-then-from-len.ensures.value c.deref-then-from-len-2.ensures.value
    c.deref-then-from-len-3.ensures.value has

pub returns-then-from-len : goal.returns-then-from-len
returns-then-from-len c =
    let g = c.self.inside in
    let h = subst (λ v. AreKept v (cells_by g.names.items g.numbers.items) g.times.items g.ends.items g.needs.items) c.self.view_is c.self.invariant.0 in
    let less = c.if-from-len.true in
    let asked = c.len.ensures in
    let from = c.from.ensures in
    let count = g.ends.ok.0 in
    let tt = c.args.self.now in
    let i = c.args.agent in
    let within : i < length g.ends.items = omega (arith, less, asked, from, count) in
    let is = share-part tt g.names.items g.numbers.items g.times.items g.ends.items g.needs.items h.visits h.visit_ends h.kept i within g.number (ap (λ v. v.number) c.self.view_is) in
    let lent = share-lent (λ names numbers needs ends. IsPartOf tt (part_by g.number i names (entries_among ends i numbers) (entries_among ends i needs) ends)) c.deref.ensures.value
    c.deref-then-from-len.ensures.value c.deref-then-from-len-2.ensures.value c.deref-then-from-len-3.ensures.value is in
    (subst (IsPartOf tt) (sym c.among.ensures) lent, ap (λ p. p.agent) c.among.ensures)

pub returns-else-from-len : goal.returns-else-from-len
returns-else-from-len c =
    let g = c.self.inside in
    let h = subst (λ v. AreKept v (cells_by g.names.items g.numbers.items) g.times.items g.ends.items g.needs.items) c.self.view_is c.self.invariant.0 in
    let past = c.if-from-len.false in
    let asked = c.len.ensures in
    let from = c.from.ensures in
    let count = g.ends.ok.0 in
    no_track_at c.args.self.now (cells_by g.names.items g.numbers.items) g.times.items g.ends.items g.needs.items h.visits h.visit_ends h.kept c.args.agent
    (omega (arith, past, asked, from, count))
