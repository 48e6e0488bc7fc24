-- Who has a move left leads to somebody who can make it, or round to a rotation.
use Rattle.fleet_commands.proofs.HangLemmas.{somebody}
use Rattle.fleet_commands.proofs.laws.somebody_can_go.Goals as goal

pub returns : goal.returns
returns c = λ table turns found free unswapped rotations all known untold. somebody table found all known turns free unswapped rotations untold
