-- The line of an answer, and what sending it leaves.
use Rattle.std.specs.Prelude.{◌≡◌, ℕ, ◌⊎◌, Bool, true, false, List, []}
use Rattle.std.specs.Prelude.{◌∷◌, ◌++◌, codes, Option, Some, Result, Ok, Err}
use Rattle.text_io.specs.declared.sink.Sink.{Sink}
use Rattle.text_io.specs.declared.sink.WriteFault.{WriteFault}
use Rattle.text_io.specs.Sink.{held_back, Puts, Breaks}
use Rattle.text_io.specs.Text.{line_feed}
use Rattle.model.specs.History.{is_store_failed}
use Rattle.model.specs.Replies.{answer_of}
use Rattle.model.specs.Timetable.{Track, Timetable, track_of}
use Rattle.agent.specs.Agents.{AgentOn, state_of}
use Rattle.agent.specs.States.{State}
use Rattle.agent.specs.Tape.{TapeState, HasFailed}
use Rattle.event_text.specs.ReplyText.{reply_line}
use Rattle.robot.specs.Turns.{said_line, told_line, not_understood, state_line}
use Rattle.robot.specs.Turns.{store_failed, stale_tape, free_line}
use Rattle.robot.specs.Requests.{Request, hear}
use Rattle.robot.specs.Stale.{IsStale}
use Rattle.robot.specs.Dialogue.{IsStaleAnswer}
use Rattle.robot.specs.Code.Turning.{IsHeedfulOf, IsTurn, TakesRequest}
use Rattle.robot.specs.declared.stale.StaleWord.{StaleWord}
use Rattle.robot.specs.declared.line_answer.LineAnswer.{LineAnswer}
use Rattle.robot.specs.declared.line_answer.LineAnswer.TheVariants as the_answer
use Rattle.robot.specs.declared.talk_fault.TalkFault.{TalkFault}
use Rattle.robot.specs.declared.talk_fault.TalkFault.TheVariants.{ReadFailed, WriteFailed}
use Rattle.robot.specs.declared.talk_fault.TalkFault.TheVariants.{StoreFailed, StaleTape}
use Rattle.robot.specs.declared.talk_fault.TalkFault.TheVariants.{OutOfMemory}

-- without its LF
abbrev pub answer_line : LineAnswer → List ℕ
answer_line (the_answer.Reply r) = reply_line (answer_of r)
answer_line (the_answer.Said message) = said_line (Ok message)
answer_line (the_answer.Told message) = told_line (Ok message.items)
answer_line (the_answer.Free count) = free_line count
answer_line (the_answer.StaleTape w) = stale_tape w.sender w.number
answer_line the_answer.OutOfMemory = codes "refused OutOfMemory"
answer_line the_answer.BadLine = not_understood

-- it is that a store failed
abbrev pub says_store_failed : LineAnswer → Bool
says_store_failed (the_answer.Reply r) = is_store_failed (answer_of r)
says_store_failed _ = false

-- it is that the tape is an older one
abbrev pub says_stale : LineAnswer → Bool
says_stale (the_answer.StaleTape w) = true
says_stale _ = false

-- what a message says of the agent's own moves, where it shows the tape to be an older one
abbrev pub IsStaleWord : Timetable → ℕ → State → List ℕ → StaleWord → Type 0
IsStaleWord tt i s bytes w = IsStale tt i s bytes w.sender w.number

-- what was asked for was done; or it was to hear of an older tape, which is heeded, and the agent
-- is as it was
abbrev pub DoesRequest
    : Bool → Timetable → ℕ → Track → Request → State → State → LineAnswer → Type 0
DoesRequest heeds tt i track request old new (the_answer.StaleTape w) =
    (bytes : List ℕ) × (request ≡ hear bytes) × (heeds ≡ true) × IsStaleWord tt i old bytes w
    × (new ≡ old)
DoesRequest heeds tt i track request old new answer =
    IsHeedfulOf heeds tt i old request
    × TakesRequest tt i track request old new (answer_line answer)

-- the same of the line that asks
abbrev pub TakesTurn : Bool → Timetable → ℕ → Track → List ℕ → State → State → LineAnswer → Type 0
TakesTurn heeds tt i track line old new (the_answer.StaleTape w) =
    IsStaleAnswer heeds tt i old line (stale_tape w.sender w.number) × (new ≡ old)
TakesTurn heeds tt i track line old new answer =
    IsTurn heeds tt i track line old new (answer_line answer)

-- a call on the tape failed where that is said, and else none did
abbrev pub CountsFailures : Bool → (old new : ℕ) → Type 0
CountsFailures true old new = HasFailed old new
CountsFailures false old new = new ≡ old

-- an agent stays the same one, whatever its state
pub record IsSameAgent {T : Type 0} (old new : AgentOn T) : Type 0 where
  pub part : new.part ≡ old.part

-- a line and its LF were handed on, and nothing is held back
pub record Sends {W : Type 0} (contents : W → Option (List ℕ)) (old new : Sink W)
    (line : List ℕ) : Type 0 where
  pub puts : Puts contents old new (line ++ line_feed ∷ [])
  pub none_held : held_back new ≡ []

-- the line of the state was sent, or the writer failed
abbrev pub SaysState : {W T : Type 0} → (W → Option (List ℕ)) → (T → TapeState) → Timetable
    → AgentOn T → Sink W → Sink W → Result Unit WriteFault → Type 0
SaysState contents seen tt a old new (Ok done) =
    (track : Track) × (track_of tt a.part.agent ≡ Some track)
    × Sends contents old new (state_line track (state_of seen a))
SaysState contents seen tt a old new (Err fault) =
    (track : Track) × (track_of tt a.part.agent ≡ Some track)
    × Breaks contents old new (state_line track (state_of seen a) ++ line_feed ∷ [])

-- a line was answered, and the answer was sent, or the writer failed
abbrev pub Replies
    : {W : Type 0} → (W → Option (List ℕ)) → Bool → Timetable → ℕ → Track → List ℕ → State → State
    → Sink W → Sink W → Result Unit TalkFault → Type 0
Replies contents heeds tt i track line old new old_sink new_sink (Ok done) =
    (text : List ℕ) × IsTurn heeds tt i track line old new text
    × Sends contents old_sink new_sink text × (text ≡ store_failed → ⊥)
Replies contents heeds tt i track line old new old_sink new_sink (Err StoreFailed) =
    IsTurn heeds tt i track line old new store_failed
    × Sends contents old_sink new_sink store_failed
Replies contents heeds tt i track line old new old_sink new_sink (Err StaleTape) =
    (text : List ℕ) × IsStaleAnswer heeds tt i old line text × (new ≡ old)
    × Sends contents old_sink new_sink text
Replies contents heeds tt i track line old new old_sink new_sink (Err WriteFailed) =
    (text : List ℕ) × (IsTurn heeds tt i track line old new text
    ⊎ (IsStaleAnswer heeds tt i old line text × (new ≡ old)))
    × Breaks contents old_sink new_sink (text ++ line_feed ∷ [])
Replies contents heeds tt i track line old new old_sink new_sink (Err ReadFailed) = ⊥
Replies contents heeds tt i track line old new old_sink new_sink (Err OutOfMemory) = ⊥
