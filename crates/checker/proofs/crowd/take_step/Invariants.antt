use Rattle.std.proofs.Common.{◌≡◌, true, false}
use Rattle.checker.specs.Code.Crowd.{KeepGrounds, AreSuspect}
use Rattle.checker.proofs.CrowdLemmas.{IsPassed, AreLedTo, AreMarkedTo}
use Rattle.checker.proofs.crowd.take_step.Given as goal

-- those before the place were led, and the others are as they were
abbrev pub invariant-loop-place : goal.invariant-loop-place
invariant-loop-place l = record {
  led : AreLedTo l.turns l.acts l.initial.walkers l.walkers l.place;
  grounds : KeepGrounds l.initial.squares l.squares;
  passed : l.may_be_wrong ≡ false → IsPassed l.turns l.acts l.initial.walkers l.initial.squares l.squares l.place;
  marked : AreMarkedTo l.turns l.acts l.initial.walkers l.squares l.place;
  suspect : l.may_be_wrong ≡ true → AreSuspect l.turns l.acts l.initial.walkers l.initial.squares;
}
