-- Which exit status the verdict on a row ends with.
use Rattle.std.specs.Prelude.{if◌then◌else◌}
use Rattle.ending.specs.declared.status.Status.{Status}
use Rattle.ending.specs.declared.status.Status.TheVariants.{Done, Fault}
use Rattle.text_commands.specs.declared.row_verdict.RowVerdict.{RowVerdict}
use Rattle.text_commands.specs.declared.row_verdict.RowVerdict.TheVariants.{Shortest, Unreachable}

-- well only where the listed length agrees
abbrev pub row_verdict_status : RowVerdict → Status
row_verdict_status (Shortest length listed agrees) = if agrees then Done else Fault
row_verdict_status Unreachable = Fault
