use Rattle.model.specs.Laws.Rotations.{never}
use Rattle.model.proofs.laws.rotations_never_begin.Goals as goal

pub returns : goal.returns
returns c = λ v tab step agents h place i track free turns run member there. never v tab step agents free turns h run place i track member there
