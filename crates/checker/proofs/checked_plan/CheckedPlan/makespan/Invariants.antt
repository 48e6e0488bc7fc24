use Rattle.std.proofs.Common.{◌≡◌, max, map, drop}
use Rattle.model.specs.Costs.{greatest_of}
use Rattle.checker.specs.Code.Tracks.{track_along}
use Rattle.checker.proofs.checked_plan.CheckedPlan.makespan.Given as goal

-- with the costs of the others it is that of all
abbrev pub invariant-loop-course : goal.invariant-loop-course
invariant-loop-course l = record {
  tracks : l.self.timetable.tracks ≡ map track_along l.course-items;
  all : max l.greatest (greatest_of (map track_along (drop l.course-index l.course-items))) ≡ greatest_of l.self.timetable.tracks;
}
