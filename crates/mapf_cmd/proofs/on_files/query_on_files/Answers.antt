use Rattle.mapf_cmd.proofs.on_files.query_on_files.Goals as goal

pub returns : goal.returns
returns g c = (c.in_ok-map.map, c.answer_query.new.map, c.in_ok-plan.plan, c.answer_query.new.plan, c.in_ok-map.ensures, c.in_ok-plan.ensures, c.answer_query.ensures)
