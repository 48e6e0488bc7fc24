-- What was asked for by a line, as the turn of the line.
use Rattle.std.proofs.Common.{◌≡◌, ℕ, Bool, true, false, List, Option, Err, inl, inr, refl, subst}
use Rattle.std.specs.Prelude.{◌⊎◌}
use Rattle.std.proofs.lemmas.Bool.{cases_Bool, true≢false, false≢true}
use Rattle.text_io.specs.declared.sink.Sink.{Sink}
use Rattle.model.specs.Timetable.{Track, Timetable}
use Rattle.agent.specs.States.{State}
use Rattle.robot.specs.Dialogue.{IsStaleAnswer}
use Rattle.robot.specs.Turns.{store_failed}
use Rattle.robot.specs.declared.talk_fault.TalkFault.TheVariants.{StoreFailed}
use Rattle.robot.specs.Requests.{Request, AsksFor}
use Rattle.robot.specs.Code.Answering.{answer_line, says_stale, says_store_failed, DoesRequest, Replies, Sends, TakesTurn}
use Rattle.robot.specs.Code.Turning.{IsTurn}
use Rattle.robot.specs.declared.line_answer.LineAnswer.{LineAnswer}
use Rattle.robot.specs.declared.line_answer.LineAnswer.TheVariants as the_answer

-- what was asked for was done, so the line was answered
pub turn_of_request
    : (heeds : Bool) (tt : Timetable) (i : ℕ) (track : Track) (line : List ℕ) (request : Request) (old new : State) (answer : LineAnswer) → AsksFor request line
    → DoesRequest heeds tt i track request old new answer → TakesTurn heeds tt i track line old new answer
turn_of_request heeds tt i track line request old new (the_answer.Reply r) asks does = inl (request, asks, does.0, does.1)
turn_of_request heeds tt i track line request old new (the_answer.Said m) asks does = inl (request, asks, does.0, does.1)
turn_of_request heeds tt i track line request old new (the_answer.Told m) asks does = inl (request, asks, does.0, does.1)
turn_of_request heeds tt i track line request old new (the_answer.Free count) asks does = inl (request, asks, does.0, does.1)
turn_of_request heeds tt i track line request old new the_answer.OutOfMemory asks does = inl (request, asks, does.0, does.1)
turn_of_request heeds tt i track line request old new the_answer.BadLine asks does = inl (request, asks, does.0, does.1)
turn_of_request heeds tt i track line request old new (the_answer.StaleTape w) asks does = (
  record {
    heeded = does.2;
    bytes = does.0;
    asks = subst (λ r. AsksFor r line) does.1 asks;
    sender = w.sender;
    number = w.number;
    stale = does.3;
    is_text = refl;
  },
  does.4,
)

-- it was answered in turn, or the tape is an older one
pub turn_unless_stale
    : (heeds : Bool) (tt : Timetable) (i : ℕ) (track : Track) (line : List ℕ) (old new : State) (answer : LineAnswer) → says_stale answer ≡ false
    → TakesTurn heeds tt i track line old new answer → IsTurn heeds tt i track line old new (answer_line answer)
turn_unless_stale heeds tt i track line old new (the_answer.Reply r) is turn = turn
turn_unless_stale heeds tt i track line old new (the_answer.Said m) is turn = turn
turn_unless_stale heeds tt i track line old new (the_answer.Told m) is turn = turn
turn_unless_stale heeds tt i track line old new (the_answer.Free count) is turn = turn
turn_unless_stale heeds tt i track line old new the_answer.OutOfMemory is turn = turn
turn_unless_stale heeds tt i track line old new the_answer.BadLine is turn = turn
turn_unless_stale heeds tt i track line old new (the_answer.StaleTape w) is turn = absurd (true≢false is)

pub stale_turn
    : (heeds : Bool) (tt : Timetable) (i : ℕ) (track : Track) (line : List ℕ) (old new : State) (answer : LineAnswer) → says_stale answer ≡ true
    → TakesTurn heeds tt i track line old new answer → IsStaleAnswer heeds tt i old line (answer_line answer) × (new ≡ old)
stale_turn heeds tt i track line old new (the_answer.Reply r) is turn = absurd (false≢true is)
stale_turn heeds tt i track line old new (the_answer.Said m) is turn = absurd (false≢true is)
stale_turn heeds tt i track line old new (the_answer.Told m) is turn = absurd (false≢true is)
stale_turn heeds tt i track line old new (the_answer.Free count) is turn = absurd (false≢true is)
stale_turn heeds tt i track line old new the_answer.OutOfMemory is turn = absurd (false≢true is)
stale_turn heeds tt i track line old new the_answer.BadLine is turn = absurd (false≢true is)
stale_turn heeds tt i track line old new (the_answer.StaleTape w) is turn = turn

-- either
pub turn_or_stale
    : (heeds : Bool) (tt : Timetable) (i : ℕ) (track : Track) (line : List ℕ) (old new : State) (answer : LineAnswer) → TakesTurn heeds tt i track line old new answer
    → IsTurn heeds tt i track line old new (answer_line answer) ⊎ (IsStaleAnswer heeds tt i old line (answer_line answer) × (new ≡ old))
turn_or_stale heeds tt i track line old new answer turn = elim (cases_Bool (says_stale answer)) [
  | inl stale ↦ inr (stale_turn heeds tt i track line old new answer stale turn)
  | inr not ↦ inl (turn_unless_stale heeds tt i track line old new answer not turn)
]

-- a failed store isn't a stale tape
pub store_failed_turn
    : (heeds : Bool) (tt : Timetable) (i : ℕ) (track : Track) (line : List ℕ) (old new : State) (answer : LineAnswer) → says_store_failed answer ≡ true
    → TakesTurn heeds tt i track line old new answer → IsTurn heeds tt i track line old new (answer_line answer)
store_failed_turn heeds tt i track line old new (the_answer.Reply r) is turn = turn
store_failed_turn heeds tt i track line old new (the_answer.Said m) is turn = turn
store_failed_turn heeds tt i track line old new (the_answer.Told m) is turn = turn
store_failed_turn heeds tt i track line old new (the_answer.Free count) is turn = turn
store_failed_turn heeds tt i track line old new the_answer.OutOfMemory is turn = turn
store_failed_turn heeds tt i track line old new the_answer.BadLine is turn = turn
store_failed_turn heeds tt i track line old new (the_answer.StaleTape w) is turn = absurd (false≢true is)

-- and is sent
pub replied-store_failed
    : {W : Type 0} (contents : W → Option (List ℕ)) (heeds : Bool) (tt : Timetable) (i : ℕ) (track : Track) (line : List ℕ) (old new : State) (old_sink new_sink : Sink W)
    (text : List ℕ) → text ≡ store_failed → IsTurn heeds tt i track line old new text → Sends contents old_sink new_sink text
    → Replies contents heeds tt i track line old new old_sink new_sink (Err StoreFailed)
replied-store_failed contents heeds tt i track line old new old_sink new_sink text e turn sends =
    (subst (IsTurn heeds tt i track line old new) e turn, subst (Sends contents old_sink new_sink) e sends)
