-- A cell on the map is within its width and height.
use Rattle.least_steps.specs.Laws.Ways.{on_map}
use Rattle.least_steps.proofs.joining.is_step.Goals as goal

pub are_joined-requires : goal.are_joined-requires
are_joined-requires c = on_map c.args.map.now c.args.from c.requires
