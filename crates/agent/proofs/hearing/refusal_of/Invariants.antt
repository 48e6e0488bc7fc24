use Rattle.std.proofs.Common.{◌≡◌, false, length, take, nat_lt}
use Rattle.std.specs.Prelude.{nat_le}
use Rattle.std.specs.List.{list_any}
use Rattle.model.specs.Timetable.{Timetable}
use Rattle.agent.specs.Code.Listing.{entries_of}
use Rattle.agent.specs.States.{moves_of}
use Rattle.agent.proofs.hearing.refusal_of.Given as goal
use Rattle.depgraph.specs.AgentParts.{IsPartOf}

-- all agents so far are of the plan, and whether one was told of with too many moves
abbrev pub invariant-entries : goal.invariant-entries
invariant-entries l = record {
  known : (tt : Timetable) → IsPartOf tt l.part → list_any (λ e. nat_le (length tt.tracks) e.agent) (take l.at (entries_of l.entries)) ≡ false;
  many : (tt : Timetable) → IsPartOf tt l.part → l.too_many ≡ list_any (λ e. nat_lt (moves_of tt e.agent) e.done) (take l.at (entries_of l.entries));
}
