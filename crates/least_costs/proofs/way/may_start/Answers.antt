-- A walk is in its start at time 0.
use Rattle.std.proofs.Common.{◌∙◌}
use Rattle.model.specs.Laws.Tracks.{cell_at-start}
use Rattle.least_costs.proofs.way.may_start.Goals as goal

pub returns-then-forbid_start : goal.returns-then-forbid_start
returns-then-forbid_start c = λ _ end track walker meets.
    c.forbid_start.ensures c.if-forbid_start.true track meets (cell_at-start track.start track.later ∙ walker.from_start)
