-- What is due, by what is sure.
use Rattle.controller.proofs.OrderLemmas.{finishing, order, starting}
use Rattle.controller.proofs.laws.loops_keep_their_drives_in.Goals as goal

pub returns-clause-go : goal.returns-clause-go
returns-clause-go c = λ settings table i track happened before way after there come works.
    order settings table i track (λ old deed new. c.tapes_stay_within.ensures.led table i track old deed new) happened before way after come works

pub returns-clause-finish : goal.returns-clause-finish
returns-clause-finish c = λ settings table i track happened before event after there come leads more.
    finishing settings table i track (λ old deed new. c.tapes_stay_within.ensures.led table i track old deed new) happened before event after come leads more

pub returns-clause-start : goal.returns-clause-start
returns-clause-start c = λ settings table i track happened before event after there come leads more.
    starting settings table i track (λ old deed new. c.tapes_stay_within.ensures.led table i track old deed new) happened before event after come leads more
