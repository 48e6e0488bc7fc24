-- What happens leaves what is sure.
use Rattle.controller.proofs.DriveLemmas.{all-known}
use Rattle.controller.proofs.laws.loops_know_their_drives.Goals as goal

pub returns : goal.returns
returns c = λ settings table i track happened now there come.
    all-known settings table i track (λ old deed new. c.tapes_stay_within.ensures.led table i track old deed new) happened now come
