use Rattle.std.proofs.Common.{◌≡◌, ◌<◌, ◌≤◌, ℕ, length, get_or}
use Rattle.model.specs.Plan.{Course}
use Rattle.checker.specs.Code.Resting.{rested}
use Rattle.checker.proofs.resting.rest_all.Given as goal

-- the courses before are rested, and the others are as they were
abbrev pub invariant-loop-index : goal.invariant-loop-index
invariant-loop-index l = record {
  count : length l.courses ≡ length l.initial.courses;
  done : (k : ℕ) (d : Course) → k < l.index → get_or l.courses k d ≡ rested (get_or l.initial.courses k d);
  rest : (k : ℕ) (d : Course) → l.index ≤ k → get_or l.courses k d ≡ get_or l.initial.courses k d;
}
