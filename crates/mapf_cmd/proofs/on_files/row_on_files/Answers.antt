use Rattle.mapf_cmd.proofs.on_files.row_on_files.Goals as goal

pub returns : goal.returns
returns g c = (c.in_ok-map.map, c.perform.new.map, c.in_ok-scen.scen, c.perform.new.scen, c.in_ok-map.ensures, c.in_ok-scen.ensures, c.perform.ensures)
