use Rattle.model.proofs.Visited.{inside-apart}
use Rattle.model.proofs.laws.met_needs_keep_apart.Goals as goal

pub returns : goal.returns
returns c tt begun finished i j cell free kept first second = inside-apart tt begun finished free kept i j cell first second
