use Rattle.std.proofs.Common.{sym, ◌∙◌}
use Rattle.grid.specs.Terrain.{is_terrain}
use Rattle.grid.proofs.ScanLemmas.{prefix_len-whole}
use Rattle.grid.proofs.terrain_scan.terrain_run.Goals as goal

pub returns-then-is_all_terrain : goal.returns-then-is_all_terrain
returns-then-is_all_terrain c =
    sym (prefix_len-whole is_terrain c.args.bytes.now (sym c.is_all_terrain.ensures ∙ c.if-is_all_terrain.true))
