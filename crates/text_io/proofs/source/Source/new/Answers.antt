-- Nothing was read, and so nothing taken.
use Rattle.std.proofs.Common.{refl}
use Rattle.text_io.proofs.LineTaking.{HasTaken-none}
use Rattle.text_io.proofs.source.Source.new.Goals as goal

pub returns-clause-none_taken : goal.returns-clause-none_taken
returns-clause-none_taken g c = HasTaken-none g.R.Read.remaining _ _ refl refl refl
