-- The cell is on the map, since a walk comes to it.
use Rattle.least_steps.specs.Laws.Ways.{end-on}
use Rattle.least_steps.proofs.answer.is_behind.Goals as goal

pub has-requires-clause-on : goal.has-requires-clause-on
has-requires-clause-on c = let e = c.args.reached.now in end-on e.map e.aslant e.start c.args.place.cell c.args.place.number c.requires.place.comes
