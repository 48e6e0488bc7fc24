use Rattle.executor.specs.Code.Leading.{AreUnheard, HasSameStandings}
use Rattle.executor.proofs.ending.Ending.add_places.Given as goal

-- nothing but places is different
abbrev pub invariant-moves : goal.invariant-moves
invariant-moves l = record {
  same : HasSameStandings l.fn.self l.self;
  none_heard : AreUnheard l.self.heard;
}
