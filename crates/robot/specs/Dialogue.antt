-- What a whole dialogue comes to.
use Rattle.std.specs.Prelude.{◌≡◌, ℕ, ◌⊎◌, Bool, true, List, []}
use Rattle.std.specs.Prelude.{◌∷◌, ◌++◌, Option, Some, Result, Ok, Err}
use Rattle.std.specs.List.{AllByRecursion}
use Rattle.std.specs.Io.KnownBytes.{Appends, Consumes, IsAtEnd as IsSpent}
use Rattle.text_io.specs.declared.counted.Counted.{Counted}
use Rattle.text_io.specs.Counted.{counted_inner, failures_of, Rises}
use Rattle.text_io.specs.Text.{line_feed, IsLine, ended, lines_of}
use Rattle.model.specs.Timetable.{Track, Timetable, track_of}
use Rattle.agent.specs.Agents.{AgentOn, state_of}
use Rattle.agent.specs.States.{State}
use Rattle.agent.specs.Tape.{TapeState, HasFailed}
use Rattle.fleet.specs.Deeds.{Deed, hears, Does, DoesAll}
use Rattle.robot.specs.Requests.{Request, hear, AsksFor, AsksNothing}
use Rattle.robot.specs.Stale.{IsStale, IsHeeded}
use Rattle.robot.specs.Turns.{state_line, not_understood, store_failed}
use Rattle.robot.specs.Turns.{stale_tape, deed_line, IsCallOf}
use Rattle.robot.specs.declared.talk_fault.TalkFault.{TalkFault}
use Rattle.robot.specs.declared.talk_fault.TalkFault.TheVariants.{ReadFailed, WriteFailed}
use Rattle.robot.specs.declared.talk_fault.TalkFault.TheVariants.{StoreFailed, StaleTape}
use Rattle.robot.specs.declared.talk_fault.TalkFault.TheVariants.{OutOfMemory}

-- the line is answered by the text: by the first of these deeds, which it asks for, before the
-- rest; or it isn't understood, and there is no deed
abbrev pub IsAnswerTo : List ℕ → List ℕ → List Deed → List Deed → Type 0
IsAnswerTo line text deeds rest =
    ((request : Request) × (deed : Deed) × AsksFor request line × IsCallOf request deed
    × (text ≡ deed_line deed) × (deeds ≡ deed ∷ rest))
    ⊎ (AsksNothing line × (text ≡ not_understood) × (deeds ≡ rest))

-- the lines are answered in turn, by these deeds, in order; nothing follows a store that failed
abbrev pub AreAnswersTo : List (List ℕ) → List (List ℕ) → List Deed → Type 0
AreAnswersTo [] [] deeds = deeds ≡ []
AreAnswersTo (line ∷ lines) (text ∷ texts) deeds =
    (rest : List Deed) × IsAnswerTo line text deeds rest × (text ≡ store_failed → lines ≡ [])
    × AreAnswersTo lines texts rest
AreAnswersTo _ _ deeds = ⊥

-- the deed hears nothing that shows the tape to be an older one, where that is heeded
abbrev pub IsHeedful : Bool → Timetable → ℕ → State → Deed → Type 0
IsHeedful heeds tt i s (hears bytes answer) = IsHeeded heeds tt i s bytes
IsHeedful heeds tt i s _ = Unit {0}

-- none of the deeds does, each in the state that those before it left
abbrev pub AreHeedful : Bool → Timetable → ℕ → Track → State → List Deed → State → Type 0
AreHeedful heeds tt i track old [] new = new ≡ old
AreHeedful heeds tt i track old (deed ∷ deeds) new =
    (mid : State) × Does tt i track old deed mid × IsHeedful heeds tt i old deed
    × AreHeedful heeds tt i track mid deeds new

-- The line is a message that shows the tape to be an older one, which is heeded, and the text says
-- so.
pub record IsStaleAnswer (heeds : Bool) (tt : Timetable) (i : ℕ) (s : State)
    (line text : List ℕ) : Type 0 where
  pub heeded : heeds ≡ true
  pub bytes : List ℕ
  pub asks : AsksFor (hear bytes) line
  pub sender : ℕ
  pub number : ℕ
  pub stale : IsStale tt i s bytes sender number
  pub is_text : text ≡ stale_tape sender number

-- All lines but the last are answered by these deeds; the last is answered so, without a deed, and
-- the agent is as it was.
pub record EndStale (heeds : Bool) (tt : Timetable) (i : ℕ) (s : State)
    (lines texts : List (List ℕ)) (deeds : List Deed) : Type 0 where
  pub before : List (List ℕ)
  pub line : List ℕ
  pub are_lines : lines ≡ before ++ line ∷ []
  pub answered : List (List ℕ)
  pub text : List ℕ
  pub are_texts : texts ≡ answered ++ text ∷ []
  pub answers : AreAnswersTo before answered deeds
  pub stale : IsStaleAnswer heeds tt i s line text

-- how the lines are answered, by how the dialogue ended, in which state
abbrev pub AreAnsweredSo : Bool → Timetable → ℕ → State → List (List ℕ) → List (List ℕ) → List Deed
    → Result Unit TalkFault → Type 0
AreAnsweredSo heeds tt i s lines texts deeds (Err StaleTape) =
    EndStale heeds tt i s lines texts deeds
AreAnsweredSo heeds tt i s lines texts deeds (Err WriteFailed) =
    AreAnswersTo lines texts deeds ⊎ EndStale heeds tt i s lines texts deeds
AreAnsweredSo heeds tt i s lines texts deeds _ = AreAnswersTo lines texts deeds

-- the lines of a dialogue, without their LF: the state at first, and the answers
abbrev pub dialogue_lines : Track → State → List (List ℕ) → List (List ℕ)
dialogue_lines track first texts = state_line track first ∷ texts

-- the last answer is that a store failed
abbrev pub EndsInFailedStore : List (List ℕ) → Type 0
EndsInFailedStore texts = (before : List (List ℕ)) × (texts ≡ before ++ store_failed ∷ [])

-- The lines are the first of the input: the LF of each of them came, or they are all, and the input
-- ended.
abbrev pub AreFirst : List (List ℕ) → List ℕ → Option (List ℕ) → Type 0
AreFirst lines input left =
    ((rest : List ℕ) × (input ≡ ended lines ++ rest) × AllByRecursion IsLine lines)
    ⊎ ((lines ≡ lines_of input) × IsSpent left)

-- Which lines were answered of the input that was read, by how the dialogue ended: all of them, of
-- which the last may lack its LF; all whose LF came before the reader failed; or some of the first.
abbrev pub ReadsLines : List (List ℕ) → List (List ℕ) → List ℕ → Option (List ℕ) → ℕ → ℕ
    → Result Unit TalkFault → Type 0
ReadsLines lines texts input left old_failures new_failures (Ok done) =
    (lines ≡ lines_of input) × IsSpent left × (EndsInFailedStore texts → ⊥)
    × (new_failures ≡ old_failures)
ReadsLines lines texts input left old_failures new_failures (Err ReadFailed) =
    ((rest : List ℕ) × (input ≡ ended lines ++ rest) × AllByRecursion IsLine lines × IsLine rest)
    × (EndsInFailedStore texts → ⊥) × Rises old_failures new_failures
ReadsLines lines texts input left old_failures new_failures (Err StoreFailed) =
    AreFirst lines input left × EndsInFailedStore texts × (new_failures ≡ old_failures)
ReadsLines lines texts input left old_failures new_failures (Err StaleTape) =
    AreFirst lines input left × (new_failures ≡ old_failures)
ReadsLines lines texts input left old_failures new_failures (Err WriteFailed) =
    AreFirst lines input left × (new_failures ≡ old_failures)
ReadsLines lines texts input left old_failures new_failures (Err OutOfMemory) = ⊥

-- All lines but the last were written, and of the last and its LF a beginning; there the writer
-- failed.
pub record BreaksInLast (old new : Option (List ℕ)) (old_failures new_failures : ℕ)
    (lines : List (List ℕ)) : Type 0 where
  pub before : List (List ℕ)
  pub last : List ℕ
  pub are : lines ≡ before ++ last ∷ []
  pub sent : List ℕ
  pub rest : List ℕ
  pub begins : last ++ line_feed ∷ [] ≡ sent ++ rest
  pub appended : Appends old new (ended before ++ sent)
  pub failures : Rises old_failures new_failures

-- what was written of the lines: all of them, or all up to the last, at which the writer failed
abbrev pub WritesLines
    : Option (List ℕ) → Option (List ℕ) → ℕ → ℕ → List (List ℕ) → Result Unit TalkFault → Type 0
WritesLines old new old_failures new_failures lines (Err WriteFailed) =
    BreaksInLast old new old_failures new_failures lines
WritesLines old new old_failures new_failures lines _ =
    Appends old new (ended lines) × (new_failures ≡ old_failures)

-- that a store failed is told only where a call on the tape failed, and where none failed that can
-- be told
abbrev pub BlamesTape : Result Unit TalkFault → (old_failures new_failures : ℕ) → Type 0
BlamesTape (Err StoreFailed) old_failures new_failures = HasFailed old_failures new_failures
BlamesTape (Err WriteFailed) old_failures new_failures =
    (new_failures ≡ old_failures) ⊎ HasFailed old_failures new_failures
BlamesTape _ old_failures new_failures = new_failures ≡ old_failures

-- The dialogue was led by an agent whose part is one of the timetable: its lines were written, up
-- to the one that failed, and they tell what the agent did meanwhile, which is its part of what its
-- fleet did. Where it heeds what others say of its tape, it heard nothing that shows it to be an
-- older one, and ended at the first message that does.
pub record Leads
    {R W T : Type 0} (remaining : R → Option (List ℕ)) (contents : W → Option (List ℕ)) (seen : T
    → TapeState) (heeds : Bool) (tt : Timetable) (old_in new_in : Counted R)
    (old_out new_out : Counted W) (old new : AgentOn T)
    (result : Result Unit TalkFault) : Type 0 where
  pub track : Track
  pub is_track : track_of tt old.part.agent ≡ Some track
  pub part : new.part ≡ old.part
  pub lines : List (List ℕ)
  pub texts : List (List ℕ)
  pub deeds : List Deed
  pub does : DoesAll tt old.part.agent track (state_of seen old) deeds (state_of seen new)
  pub heedful : AreHeedful heeds tt old.part.agent track (state_of seen old) deeds
      (state_of seen new)
  pub answers : AreAnsweredSo heeds tt old.part.agent (state_of seen new) lines texts deeds result
  pub input : List ℕ
  pub consumed : Consumes (remaining (counted_inner old_in))
      (remaining (counted_inner new_in)) input
  pub reads : ReadsLines lines texts input (remaining (counted_inner new_in)) (failures_of old_in)
      (failures_of new_in) result
  pub blames : BlamesTape result (seen old.tape).failures (seen new.tape).failures
  pub written : WritesLines (contents (counted_inner old_out)) (contents (counted_inner new_out))
      (failures_of old_out) (failures_of new_out)
      (dialogue_lines track (state_of seen old) texts) result

-- What a dialogue comes to: memory was refused before anything was read or written, or it was led.
abbrev pub Talks
    : {R W T : Type 0} → (R → Option (List ℕ)) → (W → Option (List ℕ)) → (T → TapeState) → Bool
    → Timetable → Counted R → Counted R → Counted W → Counted W
    → AgentOn T → AgentOn T → Result Unit TalkFault → Type 0
Talks remaining contents seen heeds tt old_in new_in old_out new_out old new (Err OutOfMemory) =
    (new_in ≡ old_in) × (new_out ≡ old_out) × (new ≡ old)
Talks remaining contents seen heeds tt old_in new_in old_out new_out old new result =
    Leads remaining contents seen heeds tt old_in new_in old_out new_out old new result
