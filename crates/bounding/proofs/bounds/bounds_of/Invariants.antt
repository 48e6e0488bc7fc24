use Rattle.std.proofs.Common.{◌≡◌, ℕ, length, Some}
use Rattle.std.specs.Prelude.{slice_get}
use Rattle.bounding.specs.Code.Searching.{IsBoundAt}
use Rattle.bounding.proofs.bounds.bounds_of.Given as goal

abbrev pub invariant-loop-agent : goal.invariant-loop-agent
invariant-loop-agent l = record {
  map : l.search ≡ l.map;
  count : length l.bounds.items ≡ l.agent;
  found : (i b : ℕ) → slice_get l.bounds.items i ≡ Some b → IsBoundAt l.map l.plan.timetable.tracks i b;
}
