-- The lines so far were taken and are right, and the plan is what they said.
use Rattle.std.proofs.Common.{◌≡◌, ℕ, List, length}
use Rattle.text_io.specs.Reading.{line_number}
use Rattle.text_io.specs.Source.{most_left, source_reader}
use Rattle.text_io.specs.Lines.{HasTaken}
use Rattle.plan_text.specs.PlanTextFault.{longest_plan_line}
use Rattle.plan_text.specs.Code.PlanLines.{due_seen, HasReadPlan}
use Rattle.plan_text.proofs.plan_reader.read_lines.Given as goal

abbrev pub invariant-lines : goal.invariant-lines
invariant-lines g l =
    (before : List (List ℕ)) × HasTaken g.R.Read.remaining (source_reader l.fn.source) l.source before
    × HasReadPlan (due_seen l.progress.due l.progress.plan) l.progress.plan before × (l.number ≡ line_number before)
    × (l.source.reader.ghost_name ≡ l.initial.source.reader.ghost_name) × (length l.room ≡ longest_plan_line)

abbrev pub decreases-lines : goal.decreases-lines
decreases-lines g l = most_left l.source
