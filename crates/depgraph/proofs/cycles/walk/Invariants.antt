use Rattle.std.proofs.Common.{◌++◌, ◌∷◌, []}
use Rattle.depgraph.specs.Code.Links.{links_in, AreLinksIn}
use Rattle.depgraph.proofs.WalkLemmas.{IsPath, AreTaken, links_left}
use Rattle.depgraph.proofs.cycles.walk.Given as goal

-- the entry is at the end of a path, and the links of those before it are gone
abbrev pub invariant-entries : goal.invariant-entries
invariant-entries l = record {
  whole : AreLinksIn l.links;
  path : IsPath l.first (links_in l.initial.links) (l.trail.items ++ l.entry ∷ []);
  taken : AreTaken (links_in l.initial.links) (links_in l.links) l.trail.items;
}

abbrev pub decreases-entries : goal.decreases-entries
decreases-entries l = links_left (links_in l.links)
