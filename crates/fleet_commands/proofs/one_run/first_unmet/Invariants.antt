-- None of the moves before waits for what is not finished.
use Rattle.std.proofs.Common.{◌≡◌, None}
use Rattle.model.specs.Dependency.{need}
use Rattle.model.specs.Timetable.{Timetable}
use Rattle.depgraph.specs.AgentParts.{IsPartOf}
use Rattle.fleet_commands.specs.FoundTapes.{finished_by}
use Rattle.fleet_commands.specs.OneRun.{first_unmet, unmet_by}
use Rattle.fleet_commands.specs.Standing.{kept_by_need}
use Rattle.fleet_commands.proofs.one_run.first_unmet.Given as goal

abbrev pub invariant-loop-number : goal.invariant-loop-number
invariant-loop-number l = record {
  none : (tt : Timetable) (is : IsPartOf tt l.part) → first_unmet (λ k. unmet_by l.without l.found (kept_by_need (finished_by l.found) (need tt l.part.agent is.track k))) l.number ≡ None;
}
