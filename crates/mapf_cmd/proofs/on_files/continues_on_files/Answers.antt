use Rattle.mapf_cmd.proofs.on_files.continues_on_files.Goals as goal

pub returns : goal.returns
returns g c = (
  c.in_ok-map.map,
  c.perform.new.map,
  c.in_ok-old.old,
  c.perform.new.old,
  c.in_ok-new.new,
  c.perform.new.new,
  c.in_ok-map.ensures,
  c.in_ok-old.ensures,
  c.in_ok-new.ensures,
  c.perform.ensures,
)
