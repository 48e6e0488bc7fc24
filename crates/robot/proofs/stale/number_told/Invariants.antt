use Rattle.std.proofs.Common.{◌≡◌, false, length, take, nat_lt}
use Rattle.std.specs.Prelude.{nat_le}
use Rattle.std.specs.List.{list_any}
use Rattle.model.specs.Messages.{told_by}
use Rattle.model.specs.Timetable.{Timetable}
use Rattle.agent.specs.States.{moves_of}
use Rattle.depgraph.specs.AgentParts.{IsPartOf}
use Rattle.robot.proofs.stale.number_told.Given as goal

-- nothing refuses the entries so far, which tell this number
abbrev pub invariant-entries : goal.invariant-entries
invariant-entries l = record {
  known : (tt : Timetable) → IsPartOf tt l.part → list_any (λ e. nat_le (length tt.tracks) e.agent) (take l.at l.told.message.entries) ≡ false;
  few : (tt : Timetable) → IsPartOf tt l.part → list_any (λ e. nat_lt (moves_of tt e.agent) e.done) (take l.at l.told.message.entries) ≡ false;
  number : l.number ≡ told_by (take l.at l.told.message.entries) l.part.agent;
}
