-- At the starts nobody exchanges cells.
use Rattle.checker.specs.Code.Known.{key_with}
use Rattle.checker.proofs.KnownLemmas.{listed-skip}
use Rattle.checker.proofs.RankLemmas.{start-gap}
use Rattle.checker.proofs.finding.Finder.list_starts.Goals as goal

pub returns-clause-listed : goal.returns-clause-listed
returns-clause-listed c =
    let m = c.args.self.now.map.now in
    let p = c.args.self.now.plan.now in
    listed-skip m p (key_with 0 2 0 0) (key_with 1 0 0 0) c.list_vertices.new.listing c.in_ok-list_vertices.ensures.listed (start-gap m p)
