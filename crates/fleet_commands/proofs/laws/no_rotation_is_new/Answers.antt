-- Each move of the new plan is one of the old.
use Rattle.fleet_commands.proofs.TurnedLemmas.{turned-before}
use Rattle.fleet_commands.proofs.laws.no_rotation_is_new.Goals as goal

pub returns : goal.returns
returns c = λ p table new found without number step agents is within is_new turns. turned-before p table new found without number is within is_new step agents turns
