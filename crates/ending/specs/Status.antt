-- The exit statuses of the program, and which one a fault ends with.
use Rattle.std.specs.Prelude.{ℕ, if◌then◌else◌}
use Rattle.text_io.specs.FaultWords.{Words}
use Rattle.ending.specs.declared.status.Status.{Status}
use Rattle.ending.specs.declared.status.Status.TheVariants.{Done, Fault, BadCommand, Failure}

-- the number that the system gets
abbrev pub code_of : Status → ℕ
code_of Done = 0
code_of Fault = 1
code_of BadCommand = 2
code_of Failure = 3

-- what a fault ends with: a device failed, or memory, or a text is faulty or an answer no
abbrev pub status_of : Words → Status
status_of words = if words.is_failure then Failure else Fault
