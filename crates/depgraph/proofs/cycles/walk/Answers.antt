-- The path is longer by one entry, and its link is gone.
use Rattle.std.proofs.Common.{◌<◌, ◌++◌, ◌∷◌, [], true, false, length, Some, inl, inr, arith, refl, sym, ap, subst, ◌∙◌}
use Rattle.std.specs.Prelude.{IsTrue}
use Rattle.std.proofs.lemmas.Bool.{false≢true}
use Rattle.depgraph.specs.Code.Cycles.{IsCycleWalked}
use Rattle.depgraph.specs.Code.Links.{links_in}
use Rattle.depgraph.proofs.RingLemmas.{push-new}
use Rattle.depgraph.proofs.WalkLemmas.{IsPath, AreTaken, links_left, link-taken, fewer-links, path-more, walk-ends, walked-none}
use Rattle.depgraph.proofs.cycles.walk.Goals as goal

pub take-next-requires-clause-entry : goal.take-next-requires-clause-entry
take-next-requires-clause-entry c =
    let now = c.entries.invariant in
    let inside = now.path.within (length c.entries.trail.items) c.entries.entry (push-new c.entries.trail.items c.entries.entry) in
    let count = now.taken.count in
    omega (arith, inside, count)

pub entries-smaller : goal.entries-smaller
entries-smaller c =
    let now = c.entries.invariant in
    let links = links_in c.entries.links in
    let inside = now.path.within (length c.entries.trail.items) c.entries.entry (push-new c.entries.trail.items c.entries.entry) in
    let count = now.taken.count in
    subst (λ l. links_left l < links_left links) (sym c.take-next.ensures.taken)
    (fewer-links links c.entries.entry (omega (arith, inside, count)) (λ none. c.if-next.false (c.take-next.ensures.link ∙ none)))

pub entries-preserved : goal.entries-preserved
entries-preserved c =
    let now = c.entries.invariant in
    let links = links_in c.entries.links in
    let first = links_in c.args.links.now in
    let trail = c.entries.trail.items in
    let entry = c.entries.entry in
    let next = c.take-next.result in
    let told = link-taken c.args.first first links trail entry now.path now.taken in
    let items = c.in_ok-push.ensures.items in
    record {
      whole = c.take-next.ensures.whole;
      path = subst (λ l. IsPath c.args.first first (l ++ next ∷ [])) (sym items)
          (path-more c.args.first first trail entry next c.requires.links now.path (told.0 ∙ ap Some (sym c.take-next.ensures.link), c.if-next.false) c.if-next-first.false);
      taken = subst (AreTaken first (links_in c.take-next.new.self)) (sym items)
          (subst (λ l. AreTaken first l (trail ++ entry ∷ [])) (sym c.take-next.ensures.taken) told.1);
    }

pub returns-then-next-first-clause-walked : goal.returns-then-next-first-clause-walked
returns-then-next-first-clause-walked c =
    let links = links_in c.entries.links in
    subst (λ l. IsCycleWalked c.args.first (links_in c.args.links.now) l c.push.new.self.items (IsTrue true)) (sym c.take-next.ensures.taken)
    (walk-ends c.args.first (links_in c.args.links.now) links c.entries.trail.items c.push.new.self.items c.entries.entry (IsTrue true)
    c.requires.links c.requires.least c.entries.invariant.path c.entries.invariant.taken c.in_ok-push.ensures.items
    (inl (sym c.take-next.ensures.link ∙ c.if-next-first.true, refl)))

pub returns-then-next-clause-walked : goal.returns-then-next-clause-walked
returns-then-next-clause-walked c =
    let links = links_in c.entries.links in
    subst (λ l. IsCycleWalked c.args.first (links_in c.args.links.now) l c.push.new.self.items (IsTrue false)) (sym c.take-next.ensures.taken)
    (walk-ends c.args.first (links_in c.args.links.now) links c.entries.trail.items c.push.new.self.items c.entries.entry (IsTrue false)
    c.requires.links c.requires.least c.entries.invariant.path c.entries.invariant.taken c.in_ok-push.ensures.items
    (inr (sym c.take-next.ensures.link ∙ c.if-next.true, λ is. false≢true is)))

pub returns-then-of-clause-walked : goal.returns-then-of-clause-walked
returns-then-of-clause-walked c =
    walked-none c.args.first (links_in c.args.links.now) c.args.trail.now.items (IsTrue false) c.requires.first (sym c.of.ensures ∙ c.if-of.true) (λ is. false≢true is)
