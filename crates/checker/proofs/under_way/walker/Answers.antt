-- A start that is passable is on the map, and open.
use Rattle.checker.specs.Laws.Walking.{on_map_from_terrain}
use Rattle.checker.proofs.GroundLemmas.{may_start}
use Rattle.checker.proofs.under_way.walker.Goals as goal

pub place_on-requires : goal.place_on-requires
place_on-requires c = on_map_from_terrain c.args.map.now c.args.start _ c.requires

pub ground_at-requires : goal.ground_at-requires
ground_at-requires c = on_map_from_terrain c.args.map.now c.args.start _ c.requires

pub returns-clause-may_go : goal.returns-clause-may_go
returns-clause-may_go c = may_start c.args.map.now c.args.start c.ground_at.result c.requires c.ground_at.ensures
