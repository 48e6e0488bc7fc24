use Rattle.std.proofs.Common.{◌<◌, ℕ, map}
use Rattle.model.specs.Costs.{SolvesAt}
use Rattle.fitting.specs.Fitting.{task_of}
use Rattle.fitting.proofs.fitting.fits.Given as goal

-- each agent before solves its row
abbrev pub invariant-loop-agent : goal.invariant-loop-agent
invariant-loop-agent l = (j : ℕ) → j < l.agent → SolvesAt l.plan.width l.plan.height l.plan.timetable.tracks (map task_of l.scenario) j
