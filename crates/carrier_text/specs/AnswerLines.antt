-- The lines by which a robot answers an event, each without its LF.
use Rattle.std.specs.Prelude.{ℕ, List, [], ◌∷◌, ◌++◌, codes}
use Rattle.std.specs.List.{flat_map}
use Rattle.hex.specs.Hex.{encode_lower}
use Rattle.text_io.specs.FaultWords.{words_text}
use Rattle.text_io.specs.Text.{spaced_numbers}
use Rattle.grid.specs.declared.cell.Cell.{Cell}
use Rattle.model.specs.declared.held.Held.{Held}
use Rattle.agent.specs.declared.refusal.HearFault.{HearFault}
use Rattle.agent.specs.FaultWords.{hear_fault_words}
use Rattle.agent.specs.Replies.{stood}
use Rattle.event_text.specs.ReplyText.{reply_line}
use Rattle.carrier_text.specs.declared.answer_lines.Alarm.{Alarm}
use Rattle.carrier_text.specs.declared.answer_lines.Alarm.TheVariants.{BadLine, Misplaced}
use Rattle.carrier_text.specs.declared.answer_lines.Alarm.TheVariants.{StaleTape, StoreFailed}
use Rattle.carrier_text.specs.declared.answer_lines.Alarm.TheVariants.{OutOfMemory}

-- show: where the robot is by its tape, and how many moves it has finished
abbrev pub held_line : Held → ℕ → List ℕ
held_line held done = reply_line (stood held done)

-- the column and the row of each cell
abbrev pub columns_and_rows : List Cell → List ℕ
columns_and_rows cells = flat_map (λ c. c.x ∷ c.y ∷ []) cells

-- drive: go on along these cells, in this order
abbrev pub go_line : List Cell → List ℕ
go_line cells = codes "go" ++ spaced_numbers (columns_and_rows cells)

-- drive: report where you are
abbrev pub ask_line : List ℕ
ask_line = codes "ask"

-- network: send these bytes to all others
abbrev pub send_line : List ℕ → List ℕ
send_line bytes = codes "send " ++ encode_lower bytes

-- show: the robot waits until this agent has finished so many moves
abbrev pub waits_line : (agent count : ℕ) → List ℕ
waits_line agent count = codes "waits" ++ spaced_numbers (agent ∷ count ∷ [])

-- show: the robot has come to this cell
abbrev pub arrived_line : Cell → List ℕ
arrived_line c = codes "arrived" ++ spaced_numbers (c.x ∷ c.y ∷ [])

-- show: the robot is where its plan ends
abbrev pub done_line : List ℕ
done_line = codes "done"

-- show: a message was dropped, and why
abbrev pub dropped_line : HearFault → List ℕ
dropped_line fault = codes "dropped " ++ words_text (hear_fault_words fault)

-- tell a person
abbrev pub alarm_line : Alarm → List ℕ
alarm_line BadLine = codes "alarm BadLine"
alarm_line Misplaced = codes "alarm Misplaced"
alarm_line (StaleTape sender number) =
    codes "alarm StaleTape" ++ spaced_numbers (sender ∷ number ∷ [])
alarm_line StoreFailed = codes "alarm StoreFailed"
alarm_line OutOfMemory = codes "alarm OutOfMemory"

-- the answer ends here
abbrev pub end_line : List ℕ
end_line = codes "."
