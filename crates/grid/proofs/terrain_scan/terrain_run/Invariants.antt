-- The bytes so far are terrain, and what follows adds to them.
use Rattle.std.proofs.Common.{◌≡◌, ◌+◌, drop}
use Rattle.std.specs.List.{prefix_len}
use Rattle.grid.specs.Terrain.{is_terrain}
use Rattle.grid.proofs.terrain_scan.terrain_run.Given as goal

abbrev pub invariant-loop-i : goal.invariant-loop-i
invariant-loop-i l = l.i + prefix_len is_terrain (drop l.i l.bytes) ≡ prefix_len is_terrain l.bytes
