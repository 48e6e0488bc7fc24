use Rattle.agent.specs.Opening.{HasRead}
use Rattle.agent.specs.Records.{AreDue}
use Rattle.agent.specs.Tape.{IsKept}
use Rattle.agent.proofs.opening.read_records.Given as goal

abbrev pub invariant-loop-number : goal.invariant-loop-number
invariant-loop-number g l = record {
  kept : IsKept (g.T.Tape.state l.initial.tape) (g.T.Tape.state l.tape);
  due : AreDue l.plan l.agent (g.T.Tape.state l.initial.tape).contents l.number;
  reads : HasRead g.T.Tape.may_read l.initial.tape l.number l.tape;
}
