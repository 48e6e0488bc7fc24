-- How an agent answers a line: it does what the line asks for, and tells the answer.
use Rattle.std.specs.Prelude.{◌≡◌, ℕ, List, [], ◌∷◌, ◌++◌, codes}
use Rattle.std.specs.Prelude.{Option, None, Some, Result, Ok, Err}
use Rattle.hex.specs.Hex.{encode_lower}
use Rattle.text_io.specs.Text.{spaced_numbers}
use Rattle.model.specs.History.{Answer, moving, arrived, refused}
use Rattle.model.specs.Timetable.{Track}
use Rattle.model.specs.declared.why.Why.TheVariants as why
use Rattle.agent.specs.declared.refusal.HearFault.{HearFault}
use Rattle.agent.specs.declared.refusal.Refusal.{Refusal}
use Rattle.agent.specs.declared.refusal.TellFault.{TellFault}
use Rattle.agent.specs.declared.refusal.TellFault.TheVariants.{Broken, OutOfMemory}
use Rattle.agent.specs.Replies.{answered, delivered, stood, why_of}
use Rattle.agent.specs.States.{State, finished_moves, held_by_tape as held_in}
use Rattle.event_text.specs.ReplyText.{reply_line}
use Rattle.fleet.specs.Deeds.{Deed, opens, starts, finishes, says, tells, hears, holds, looks}
use Rattle.robot.specs.Requests.{Request, start, finish, say, tell, held, may, hear}

-- ---- lines, without their LF

-- where the agent is, and how many moves it has finished
abbrev pub state_line : Track → State → List ℕ
state_line track s = reply_line (stood (held_in track s) (finished_moves s))

-- the message that was said, two digits a byte
abbrev pub said_line : Result (List ℕ) Refusal → List ℕ
said_line (Ok bytes) = codes "said " ++ encode_lower bytes
said_line (Err refusal) = reply_line (refused (why_of refusal))

-- the message of version 2 that was said; memory may be wanting for its bytes
abbrev pub told_line : Result (List ℕ) TellFault → List ℕ
told_line (Ok bytes) = codes "said " ++ encode_lower bytes
told_line (Err Broken) = reply_line (refused why.Broken)
told_line (Err OutOfMemory) = codes "refused OutOfMemory"

-- what was heard; memory may be wanting for it
abbrev pub line_or_want : Option Answer → List ℕ
line_or_want (Some a) = reply_line a
line_or_want None = codes "refused OutOfMemory"

abbrev pub heard_line : Result (ℕ × ℕ) HearFault → List ℕ
heard_line answer = line_or_want (delivered answer)

-- how many moves are free ahead
abbrev pub free_line : ℕ → List ℕ
free_line count = codes "may" ++ spaced_numbers (count ∷ [])

abbrev pub not_understood : List ℕ
not_understood = codes "refused BadLine"

-- after this answer the dialogue ends
abbrev pub store_failed : List ℕ
store_failed = reply_line (refused why.StoreFailed)

-- and after this one: the agent with the first number says that this one has finished as many moves
-- as the second, and its tape has fewer
abbrev pub stale_tape : (sender number : ℕ) → List ℕ
stale_tape sender number = codes "refused StaleTape" ++ spaced_numbers (sender ∷ number ∷ [])

-- the line that tells what an agent did; nobody is told that its process ended
abbrev pub deed_line : Deed → List ℕ
deed_line (opens what count) = reply_line (stood what count)
deed_line (starts answer) = reply_line (answered moving answer)
deed_line (finishes answer) = reply_line (answered arrived answer)
deed_line (says answer) = said_line answer
deed_line (tells answer) = told_line answer
deed_line (hears bytes answer) = heard_line answer
deed_line (holds what count) = reply_line (stood what count)
deed_line (looks begun most count) = free_line count
deed_line _ = []

-- the deed is the call that is asked for, with some answer
abbrev pub IsCallOf : Request → Deed → Type 0
IsCallOf start (starts answer) = Unit {0}
IsCallOf finish (finishes answer) = Unit {0}
IsCallOf say (says answer) = Unit {0}
IsCallOf tell (tells answer) = Unit {0}
IsCallOf held (holds what count) = Unit {0}
IsCallOf (may most) (looks begun given count) = given ≡ most
IsCallOf (hear bytes) (hears given answer) = given ≡ bytes
IsCallOf _ _ = ⊥
