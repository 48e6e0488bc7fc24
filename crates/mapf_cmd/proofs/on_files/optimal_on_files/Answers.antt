use Rattle.mapf_cmd.proofs.on_files.optimal_on_files.Goals as goal

pub returns : goal.returns
returns g c = (
  c.in_ok-map.map,
  c.perform.new.map,
  c.in_ok-plan.plan,
  c.perform.new.plan,
  c.in_ok-proof.proof,
  c.perform.new.proof,
  c.in_ok-map.ensures,
  c.in_ok-plan.ensures,
  c.in_ok-proof.ensures,
  c.perform.ensures,
)
