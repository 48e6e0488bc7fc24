-- Who can go on has a turn, and stores something.
use Rattle.controller.proofs.TurnLemmas.{comes-on}
use Rattle.controller.proofs.laws.loops_come_on.Goals as goal

pub returns : goal.returns
returns c = λ settings table old new free unswapped no_rotation turns.
    comes-on settings table (λ i track before deed after. c.tapes_stay_within.ensures.led table i track before deed after) free unswapped
    (λ turning. no_rotation turning.0 turning.1 turning.2) old new turns
