use Rattle.std.proofs.Common.{◌≤◌, length}
use Rattle.least_costs.specs.Code.Marks.{AreSameMarks}
use Rattle.least_costs.proofs.marks.Marks.make_row.Given as goal

abbrev pub invariant-loop-at : goal.invariant-loop-at
invariant-loop-at l = (l._at ≤ length l.self.rows.items) × AreSameMarks l.fn.self l.self
