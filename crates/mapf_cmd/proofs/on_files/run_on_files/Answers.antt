use Rattle.mapf_cmd.proofs.on_files.run_on_files.Goals as goal

pub returns : goal.returns
returns g c = (
  c.in_ok-map.map,
  c.perform.new.map,
  c.in_ok-plan.plan,
  c.perform.new.plan,
  c.in_ok-events.events,
  c.perform.new.events,
  c.in_ok-map.ensures,
  c.in_ok-plan.ensures,
  c.in_ok-events.ensures,
  c.perform.ensures,
)
