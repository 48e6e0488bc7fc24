-- The bytes so far and those that follow decide it together.
use Rattle.std.proofs.Common.{◌≡◌, ◌&&◌, drop}
use Rattle.std.specs.List.{list_all}
use Rattle.grid.specs.Terrain.{is_terrain}
use Rattle.grid.proofs.terrain_scan.is_all_terrain.Given as goal

abbrev pub invariant-loop-b : goal.invariant-loop-b
invariant-loop-b l = (l.all && list_all is_terrain (drop l.b-index l.bytes)) ≡ list_all is_terrain l.bytes
