-- A dialogue, turn by turn, and what its end leaves.
use Rattle.std.proofs.Common.{◌≡◌, ℕ, ◌<◌, Bool, List, [], ◌∷◌, ◌++◌, length, Option, Some, Result, Ok, Err, get_or, drop, refl, sym, ap, subst, ◌∙◌, inl, inr, arith, append-nil}
use Rattle.std.specs.List.{AllByRecursion}
use Rattle.std.specs.Io.KnownBytes.{Appends, Consumes, IsAtEnd as IsSpent}
use Rattle.std.proofs.KnownBytes.{Appends-trans}
use Rattle.text_io.specs.declared.counted.Counted.{Counted}
use Rattle.text_io.specs.declared.sink.Sink.{Sink}
use Rattle.text_io.specs.declared.source.Source.{Source}
use Rattle.text_io.specs.Counted.{counted_inner, failures_of, Rises}
use Rattle.text_io.specs.Lines.{HasTaken}
use Rattle.text_io.specs.Sink.{held_back, sink_writer, Puts, Breaks}
use Rattle.text_io.specs.Source.{at_hand, source_reader}
use Rattle.text_io.specs.Text.{line_feed, ended, lines_of}
use Rattle.text_io.specs.Laws.Lines.{ended_push, AllByRecursion_push, lines_of-all, lines_of-open}
use Rattle.text_io.specs.Laws.Putting.{Puts-same, Puts-trans}
use Rattle.model.specs.Timetable.{Track, Timetable, track_of}
use Rattle.agent.specs.Agents.{AgentOn, state_of}
use Rattle.agent.specs.States.{State, finished_moves, begun_moves, held_by_tape}
use Rattle.agent.specs.Tape.{TapeState}
use Rattle.depgraph.specs.AgentParts.{IsPartOf}
use Rattle.fleet.specs.Deeds.{Deed, starts, finishes, says, tells, hears, holds, looks, Does, DoesAll}
use Rattle.robot.specs.Requests.{Request, start, finish, say, tell, held, may, hear}
use Rattle.robot.specs.Turns.{state_line, store_failed, deed_line, IsCallOf}
use Rattle.robot.specs.Dialogue.{AreAnswersTo, IsHeedful, AreHeedful, IsStaleAnswer, EndStale, dialogue_lines, EndsInFailedStore, AreFirst, BreaksInLast, BlamesTape, Leads, Talks}
use Rattle.robot.specs.Code.Answering.{IsSameAgent, Sends, Replies}
use Rattle.robot.specs.Code.Reading.{HasRest, IsInputOver, IsLineKept}
use Rattle.robot.specs.Code.Turning.{TakesRequest, IsHeedfulOf, IsTurn, AreTurns}
use Rattle.robot.specs.declared.talk_fault.TalkFault.{TalkFault}
use Rattle.robot.specs.declared.talk_fault.TalkFault.TheVariants.{ReadFailed, WriteFailed, StoreFailed, StaleTape, OutOfMemory}

-- ---- turns

-- an answer that doesn't end the dialogue
abbrev pub GoesOn : List ℕ → Type 0
GoesOn text = text ≡ store_failed → ⊥

-- one turn more
pub AreTurns-push
    : (heeds : Bool) (tt : Timetable) (i : ℕ) (track : Track) (lines texts : List (List ℕ)) (line text : List ℕ) (old mid new : State)
    → AreTurns heeds tt i track lines texts old mid → AllByRecursion GoesOn texts → IsTurn heeds tt i track line mid new text
    → AreTurns heeds tt i track (lines ++ line ∷ []) (texts ++ text ∷ []) old new
AreTurns-push heeds tt i track [] [] line text old mid new turns well turn =
    (new, subst (λ s. IsTurn heeds tt i track line s new text) turns turn, λ _. refl, refl)
AreTurns-push heeds tt i track [] (t ∷ texts) line text old mid new turns well turn = absurd turns
AreTurns-push heeds tt i track (l ∷ lines) [] line text old mid new turns well turn = absurd turns
AreTurns-push heeds tt i track (l ∷ lines) (t ∷ texts) line text old mid new turns well turn = (
  turns.0,
  turns.1,
  λ e. absurd (well.0 e),
  AreTurns-push heeds tt i track lines texts line text turns.0 mid new turns.3 well.1 turn,
)

-- ---- turns as deeds

-- what was asked for and answered
abbrev AnswersBy : Bool → Timetable → ℕ → Track → Request → State → State → List ℕ → Type 0
AnswersBy heeds table i track request old new text =
    (deed : Deed) × IsCallOf request deed × Does table i track old deed new × (text ≡ deed_line deed) × IsHeedful heeds table i old deed

answers-by : (heeds : Bool) (table : Timetable) (i : ℕ) (track : Track) (request : Request) (old new : State) (text : List ℕ) → IsHeedfulOf heeds table i old request
    → TakesRequest table i track request old new text → AnswersBy heeds table i track request old new text
answers-by heeds table i track start old new text heedful takes = (starts takes.0, tt, takes.1, takes.2, tt)
answers-by heeds table i track finish old new text heedful takes = (finishes takes.0, tt, takes.1, takes.2, tt)
answers-by heeds table i track say old new text heedful takes = (says takes.0, tt, takes.1, takes.2, tt)
answers-by heeds table i track tell old new text heedful takes = (tells takes.0, tt, takes.1, takes.2, tt)
answers-by heeds table i track held old new text heedful takes = (holds (held_by_tape track old) (finished_moves old), tt, takes.0, takes.1, tt)
answers-by heeds table i track (may most) old new text heedful takes = (looks (begun_moves old) most takes.0, refl, takes.1, takes.2, tt)
answers-by heeds table i track (hear bytes) old new text heedful takes = (hears bytes takes.0, refl, takes.1, takes.2, heedful)

-- the turns of a dialogue, as what the agent did
pub record DoesInTurn (heeds : Bool) (table : Timetable) (i : ℕ) (track : Track) (lines texts : List (List ℕ)) (old new : State) : Type 0 where
  pub deeds : List Deed
  pub does : DoesAll table i track old deeds new
  pub heedful : AreHeedful heeds table i track old deeds new
  pub answers : AreAnswersTo lines texts deeds

pub turns-deeds : (heeds : Bool) (table : Timetable) (i : ℕ) (track : Track) (lines texts : List (List ℕ)) (old new : State) → AreTurns heeds table i track lines texts old new
    → DoesInTurn heeds table i track lines texts old new
turns-deeds heeds table i track [] [] old new turns = record { deeds = []; does = turns; heedful = turns; answers = refl }
turns-deeds heeds table i track [] (text ∷ texts) old new turns = absurd turns
turns-deeds heeds table i track (line ∷ lines) [] old new turns = absurd turns
turns-deeds heeds table i track (line ∷ lines) (text ∷ texts) old new turns =
    let mid = turns.0 in
    let rest = turns-deeds heeds table i track lines texts mid new turns.3 in
    elim turns.1 [
      | inl asks ↦ (
          let done = answers-by heeds table i track asks.0 old mid text asks.2 asks.3 in
          record {
            deeds = done.0 ∷ rest.deeds;
            does = (mid, done.2, rest.does);
            heedful = (mid, done.2, done.4, rest.heedful);
            answers = (rest.deeds, inl (asks.0, done.0, asks.1, done.1, done.3, refl), turns.2, rest.answers);
          }
          )
      | inr nothing ↦ record {
        deeds = rest.deeds;
        does = subst (λ s. DoesAll table i track s rest.deeds new) nothing.1 rest.does;
        heedful = subst (λ s. AreHeedful heeds table i track s rest.deeds new) nothing.1 rest.heedful;
        answers = (rest.deeds, inr (nothing.0, nothing.2, refl), turns.2, rest.answers);
      }
    ]

-- where no store failed, the last answer doesn't say so
not_last : (texts before : List (List ℕ)) → AllByRecursion GoesOn texts → texts ≡ before ++ store_failed ∷ [] → ⊥
not_last [] [] well e = absurd (let none : length {A = List ℕ} [] ≡ 1 = ap length e in omega (arith, none))
not_last [] (b ∷ before) well e = absurd (let none = ap length e in omega (arith, none))
not_last (t ∷ texts) [] well e = well.0 (ap (λ l. get_or l 0 t) e)
not_last (t ∷ texts) (b ∷ before) well e = not_last texts before well.1 (ap (drop 1) e)

pub no_failed_store : (texts : List (List ℕ)) → AllByRecursion GoesOn texts → EndsInFailedStore texts → ⊥
no_failed_store texts well ends = not_last texts ends.0 well ends.1

-- ---- what was written

module _ {W : Type 0} (contents : W → Option (List ℕ)) (first : Sink W) (none : held_back first ≡ []) where
  -- all that was put
  pub wrote : (last : Sink W) (text : List ℕ) → held_back last ≡ [] → Puts contents first last text
      → Appends (contents (counted_inner (sink_writer first))) (contents (counted_inner (sink_writer last))) text
      × (failures_of (sink_writer last) ≡ failures_of (sink_writer first))
  wrote last text handed puts =
      let all : text ≡ puts.sent = ap (λ xs. xs ++ text) (sym none) ∙ puts.in_order ∙ ap (λ xs. puts.sent ++ xs) handed ∙ append-nil puts.sent in
      (subst (Appends (contents (sink_writer first).inner) (contents (sink_writer last).inner)) (sym all) puts.appended, puts.failures)

  -- all lines that were put, and a beginning of one more
  pub broke : (mid last : Sink W) (before : List (List ℕ)) (line : List ℕ) → held_back mid ≡ [] → Puts contents first mid (ended before)
      → Breaks contents mid last (line ++ line_feed ∷ [])
      → BreaksInLast (contents (counted_inner (sink_writer first))) (contents (counted_inner (sink_writer last))) (failures_of (sink_writer first))
      (failures_of (sink_writer last)) (before ++ line ∷ [])
  broke mid last before line handed puts breaks =
      let all = wrote mid (ended before) handed puts in
      record {
        before = before;
        last = line;
        are = refl;
        sent = breaks.sent;
        rest = breaks.rest;
        begins = ap (λ xs. xs ++ (line ++ line_feed ∷ [])) (sym handed) ∙ breaks.begins;
        appended = Appends-trans _ _ _ (ended before) breaks.sent all.0 breaks.appended;
        failures = subst (λ n. Rises n (failures_of (sink_writer last))) all.1 breaks.failures;
      }

-- ---- how far a dialogue has come

-- These lines were read and answered, and the answers sent.
pub record SoFar
    {R W T : Type 0} {ahead : ℕ} (remaining : R → Option (List ℕ)) (contents : W → Option (List ℕ)) (seen : T → TapeState) (heeds : Bool) (table : Timetable) (first_in : Counted R)
    (source : Source R ahead) (first_sink sink : Sink W) (old new : AgentOn T) : Type 0 where
  pub track : Track
  pub is_track : track_of table old.part.agent ≡ Some track
  pub part : new.part ≡ old.part
  pub lines : List (List ℕ)
  pub texts : List (List ℕ)
  pub turns : AreTurns heeds table old.part.agent track lines texts (state_of seen old) (state_of seen new)
  pub failures : (seen new.tape).failures ≡ (seen old.tape).failures
  pub well : AllByRecursion GoesOn texts
  pub taken : HasTaken remaining first_in source lines
  pub put : Puts contents first_sink sink (ended (dialogue_lines track (state_of seen old) texts))
  pub none_held : held_back sink ≡ []

-- These lines were read, and they are the first.
pub record HasRead
    {R : Type 0} {ahead : ℕ} (remaining : R → Option (List ℕ)) (first_in : Counted R) (source : Source R ahead) (lines : List (List ℕ)) : Type 0 where
  pub input : List ℕ
  pub consumed : Consumes (remaining (counted_inner first_in)) (remaining (counted_inner (source_reader source))) input
  pub are_first : AreFirst lines input (remaining (counted_inner (source_reader source)))
  pub failures : failures_of (source_reader source) ≡ failures_of first_in

-- And they are all.
pub record HasReadAll
    {R : Type 0} {ahead : ℕ} (remaining : R → Option (List ℕ)) (first_in : Counted R) (source : Source R ahead) (lines : List (List ℕ)) : Type 0 where
  pub input : List ℕ
  pub consumed : Consumes (remaining (counted_inner first_in)) (remaining (counted_inner (source_reader source))) input
  pub are_all : lines ≡ lines_of input
  pub spent : IsSpent (remaining (counted_inner (source_reader source)))
  pub failures : failures_of (source_reader source) ≡ failures_of first_in

module _ {R : Type 0} {ahead : ℕ} (remaining : R → Option (List ℕ)) (first_in : Counted R) (source : Source R ahead) where
  pub read_first : (lines : List (List ℕ)) → HasTaken remaining first_in source lines → HasRead remaining first_in source lines
  read_first lines taken = record {
    input = taken.delivered;
    consumed = taken.consumed;
    are_first = inl (at_hand source, taken.in_order, taken.are_lines);
    failures = taken.failures;
  }

  pub read_last : (before : List (List ℕ)) (line : List ℕ) → 0 < length line → IsInputOver remaining first_in source before line
      → HasReadAll remaining first_in source (before ++ line ∷ [])
  read_last before line some over =
      let rest = over.has_rest in
      record {
        input = rest.delivered;
        consumed = rest.consumed;
        are_all = sym (ap lines_of rest.in_order ∙ lines_of-open before line rest.are_lines rest.is_line some);
        spent = over.spent;
        failures = over.failures;
      }

  pub read_all : (lines : List (List ℕ)) → IsInputOver remaining first_in source lines [] → HasReadAll remaining first_in source lines
  read_all lines over =
      let rest = over.has_rest in
      record {
        input = rest.delivered;
        consumed = rest.consumed;
        are_all = sym (ap lines_of (rest.in_order ∙ append-nil (ended lines)) ∙ lines_of-all lines rest.are_lines);
        spent = over.spent;
        failures = over.failures;
      }

  pub all_are_first : (lines : List (List ℕ)) → HasReadAll remaining first_in source lines → HasRead remaining first_in source lines
  all_are_first lines all =
      record { input = all.input; consumed = all.consumed; are_first = inr (all.are_all, all.spent); failures = all.failures }

module _
    {R W T : Type 0} {ahead : ℕ} (remaining : R → Option (List ℕ)) (contents : W → Option (List ℕ)) (seen : T → TapeState) (heeds : Bool) (table : Timetable) (first_in : Counted R)
    (first_sink : Sink W) (none : held_back first_sink ≡ []) (old : AgentOn T)
  where
    abbrev Far : Source R ahead → Sink W → AgentOn T → Type 0
    Far source sink new = SoFar remaining contents seen heeds table first_in source first_sink sink old new

    abbrev Led : Source R ahead → Sink W → AgentOn T → Result Unit TalkFault → Type 0
    Led source sink new result = Leads remaining contents seen heeds table first_in (source_reader source) (sink_writer first_sink) (sink_writer sink) old new result

    -- the writer failed at the first line
    pub state_not_said : (source : Source R ahead) (sink : Sink W) (track : Track) → track_of table old.part.agent ≡ Some track
        → HasTaken remaining first_in source [] → Breaks contents first_sink sink (state_line track (state_of seen old) ++ line_feed ∷ [])
        → Led source sink old (Err WriteFailed)
    state_not_said source sink track is_track taken breaks =
        let read = read_first remaining first_in source [] taken in
        record {
          track = track;
          is_track = is_track;
          part = refl;
          lines = [];
          texts = [];
          deeds = [];
          does = refl;
          heedful = refl;
          answers = inl refl;
          input = read.input;
          consumed = read.consumed;
          reads = (read.are_first, read.failures);
          blames = inl refl;
          written = broke contents first_sink none first_sink sink [] (state_line track (state_of seen old)) none (Puts-same contents first_sink) breaks;
        }

    module _ (source : Source R ahead) (sink : Sink W) (mid : AgentOn T) (far : Far source sink mid) where
      abbrev said : List (List ℕ)
      said = dialogue_lines far.track (state_of seen old) far.texts

      -- what the agent did so far
      far_did : DoesInTurn heeds table old.part.agent far.track far.lines far.texts (state_of seen old) (state_of seen mid)
      far_did = turns-deeds heeds table old.part.agent far.track far.lines far.texts (state_of seen old) (state_of seen mid) far.turns

      -- the input ended
      pub led_to_end : (next : Source R ahead) → IsInputOver remaining first_in next far.lines [] → Led next sink mid (Ok tt)
      led_to_end next over =
          let read = read_all remaining first_in next far.lines over in
          record {
            track = far.track;
            is_track = far.is_track;
            part = far.part;
            lines = far.lines;
            texts = far.texts;
            deeds = far_did.deeds;
            does = far_did.does;
            heedful = far_did.heedful;
            answers = far_did.answers;
            input = read.input;
            consumed = read.consumed;
            reads = (read.are_all, read.spent, no_failed_store far.texts far.well, read.failures);
            blames = far.failures;
            written = wrote contents first_sink none sink (ended said) far.none_held far.put;
          }

      -- the reader failed
      pub led_to_failure : (next : Source R ahead) (rest : List ℕ) → HasRest remaining first_in next far.lines rest
          → Rises (failures_of first_in) (failures_of (source_reader next)) → Led next sink mid (Err ReadFailed)
      led_to_failure next rest has rises = record {
        track = far.track;
        is_track = far.is_track;
        part = far.part;
        lines = far.lines;
        texts = far.texts;
        deeds = far_did.deeds;
        does = far_did.does;
        heedful = far_did.heedful;
        answers = far_did.answers;
        input = has.delivered;
        consumed = has.consumed;
        reads = ((rest, has.in_order, has.are_lines, has.is_line), no_failed_store far.texts far.well, rises);
        blames = far.failures;
        written = wrote contents first_sink none sink (ended said) far.none_held far.put;
      }

      module _ (line : List ℕ) (next : Source R ahead) (sent : Sink W) (new : AgentOn T) (same : IsSameAgent mid new) where
        abbrev Replied : Result Unit TalkFault → Type 0
        Replied result = Replies contents heeds table old.part.agent far.track line (state_of seen mid) (state_of seen new) sink sent result

        -- what is said of the tape, as of that of the first
        abbrev Blames : Result Unit TalkFault → Type 0
        Blames result = BlamesTape result (seen mid.tape).failures (seen new.tape).failures

        blamed : (result : Result Unit TalkFault) → Blames result → BlamesTape result (seen old.tape).failures (seen new.tape).failures
        blamed result blames = subst (λ n. BlamesTape result n (seen new.tape).failures) far.failures blames

        -- the answer as one to the agent of the first
        pub replied : (now : Bool) → now ≡ heeds → (room : List ℕ) (kept : Option ℕ) (result : Result Unit TalkFault)
            → ((tab : Timetable) → IsPartOf tab mid.part → (track : Track) (text : List ℕ) → track_of tab mid.part.agent ≡ Some track → IsLineKept text room kept
            → Replies contents now tab mid.part.agent track text (state_of seen mid) (state_of seen new) sink sent result)
            → IsPartOf table old.part → IsLineKept line room kept → Replied result
        replied now heeded room kept result replies is is_kept =
            let own : mid.part.agent ≡ old.part.agent = ap (λ p. p.agent) far.part in
            let is_track : track_of table mid.part.agent ≡ Some far.track = ap (track_of table) own ∙ far.is_track in
            subst (λ i. Replies contents heeds table i far.track line (state_of seen mid) (state_of seen new) sink sent result) own
            (subst (λ b. Replies contents b table mid.part.agent far.track line (state_of seen mid) (state_of seen new) sink sent result) heeded
            (replies table (subst (IsPartOf table) (sym far.part) is) far.track line is_track is_kept))

        pub same_writer : (result : Result Unit TalkFault) → Replied result → sent.writer.ghost_name ≡ first_sink.writer.ghost_name
        same_writer (Ok done) r = r.2.puts.same_writer ∙ far.put.same_writer
        same_writer (Err WriteFailed) r = r.2.same_writer ∙ far.put.same_writer
        same_writer (Err StoreFailed) r = r.1.puts.same_writer ∙ far.put.same_writer
        same_writer (Err StaleTape) r = r.3.puts.same_writer ∙ far.put.same_writer
        same_writer (Err ReadFailed) r = absurd r
        same_writer (Err OutOfMemory) r = absurd r

        turns_on : (text : List ℕ) → IsTurn heeds table old.part.agent far.track line (state_of seen mid) (state_of seen new) text
            → AreTurns heeds table old.part.agent far.track (far.lines ++ line ∷ []) (far.texts ++ text ∷ []) (state_of seen old) (state_of seen new)
        turns_on text turn =
            AreTurns-push heeds table old.part.agent far.track far.lines far.texts line text (state_of seen old) (state_of seen mid) (state_of seen new) far.turns far.well turn

        -- and with this turn
        did_on : (text : List ℕ) → IsTurn heeds table old.part.agent far.track line (state_of seen mid) (state_of seen new) text
            → DoesInTurn heeds table old.part.agent far.track (far.lines ++ line ∷ []) (far.texts ++ text ∷ []) (state_of seen old) (state_of seen new)
        did_on text turn =
            turns-deeds heeds table old.part.agent far.track (far.lines ++ line ∷ []) (far.texts ++ text ∷ []) (state_of seen old) (state_of seen new) (turns_on text turn)

        put_on : (text : List ℕ) → Sends contents sink sent text
            → Puts contents first_sink sent (ended (dialogue_lines far.track (state_of seen old) (far.texts ++ text ∷ [])))
        put_on text sends = subst (Puts contents first_sink sent) (sym (ended_push said text)) (Puts-trans contents first_sink sink sent (ended said) _ far.put sends.puts)

        -- one turn more
        pub far_more : HasTaken remaining first_in next (far.lines ++ line ∷ []) → Blames (Ok tt) → Replied (Ok tt) → Far next sent new
        far_more taken blames r = record {
          track = far.track;
          is_track = far.is_track;
          part = same.part ∙ far.part;
          lines = far.lines ++ line ∷ [];
          texts = far.texts ++ r.0 ∷ [];
          turns = turns_on r.0 r.1;
          failures = blames ∙ far.failures;
          well = AllByRecursion_push GoesOn far.texts r.0 far.well r.3;
          taken = taken;
          put = put_on r.0 r.2;
          none_held = r.2.none_held;
        }

        -- this turn ends it so: the tape is an older one, and the agent is as it was
        ends_stale : (text : List ℕ) → IsStaleAnswer heeds table old.part.agent (state_of seen mid) line text → state_of seen new ≡ state_of seen mid
            → EndStale heeds table old.part.agent (state_of seen new) (far.lines ++ line ∷ []) (far.texts ++ text ∷ []) far_did.deeds
        ends_stale text stale left = record {
          before = far.lines;
          line = line;
          are_lines = refl;
          answered = far.texts;
          text = text;
          are_texts = refl;
          answers = far_did.answers;
          stale = subst (λ s. IsStaleAnswer heeds table old.part.agent s line text) (sym left) stale;
        }

        does_left : state_of seen new ≡ state_of seen mid → DoesAll table old.part.agent far.track (state_of seen old) far_did.deeds (state_of seen new)
        does_left left = subst (DoesAll table old.part.agent far.track (state_of seen old) far_did.deeds) (sym left) far_did.does

        heedful_left : state_of seen new ≡ state_of seen mid → AreHeedful heeds table old.part.agent far.track (state_of seen old) far_did.deeds (state_of seen new)
        heedful_left left = subst (AreHeedful heeds table old.part.agent far.track (state_of seen old) far_did.deeds) (sym left) far_did.heedful

        -- the answer could not be written
        pub led_to_broken : HasRead remaining first_in next (far.lines ++ line ∷ []) → Blames (Err WriteFailed) → Replied (Err WriteFailed) → Led next sent new (Err WriteFailed)
        led_to_broken read blames r = elim r.1 [
          | inl turn ↦ record {
            track = far.track;
            is_track = far.is_track;
            part = same.part ∙ far.part;
            lines = far.lines ++ line ∷ [];
            texts = far.texts ++ r.0 ∷ [];
            deeds = (did_on r.0 turn).deeds;
            does = (did_on r.0 turn).does;
            heedful = (did_on r.0 turn).heedful;
            answers = inl (did_on r.0 turn).answers;
            input = read.input;
            consumed = read.consumed;
            reads = (read.are_first, read.failures);
            blames = blamed (Err WriteFailed) blames;
            written = broke contents first_sink none sink sent said r.0 far.none_held far.put r.2;
          }
          | inr stale ↦ record {
            track = far.track;
            is_track = far.is_track;
            part = same.part ∙ far.part;
            lines = far.lines ++ line ∷ [];
            texts = far.texts ++ r.0 ∷ [];
            deeds = far_did.deeds;
            does = does_left stale.1;
            heedful = heedful_left stale.1;
            answers = inr (ends_stale r.0 stale.0 stale.1);
            input = read.input;
            consumed = read.consumed;
            reads = (read.are_first, read.failures);
            blames = blamed (Err WriteFailed) blames;
            written = broke contents first_sink none sink sent said r.0 far.none_held far.put r.2;
          }
        ]

        -- the answer is that the tape is an older one
        pub led_to_stale : HasRead remaining first_in next (far.lines ++ line ∷ []) → Blames (Err StaleTape) → Replied (Err StaleTape) → Led next sent new (Err StaleTape)
        led_to_stale read blames r = record {
          track = far.track;
          is_track = far.is_track;
          part = same.part ∙ far.part;
          lines = far.lines ++ line ∷ [];
          texts = far.texts ++ r.0 ∷ [];
          deeds = far_did.deeds;
          does = does_left r.2;
          heedful = heedful_left r.2;
          answers = ends_stale r.0 r.1 r.2;
          input = read.input;
          consumed = read.consumed;
          reads = (read.are_first, read.failures);
          blames = blamed (Err StaleTape) blames;
          written = wrote contents first_sink none sent _ r.3.none_held (put_on r.0 r.3);
        }

        -- the answer is that a store failed
        pub led_to_failed_store : HasRead remaining first_in next (far.lines ++ line ∷ []) → Blames (Err StoreFailed) → Replied (Err StoreFailed) → Led next sent new (Err StoreFailed)
        led_to_failed_store read blames r = record {
          track = far.track;
          is_track = far.is_track;
          part = same.part ∙ far.part;
          lines = far.lines ++ line ∷ [];
          texts = far.texts ++ store_failed ∷ [];
          deeds = (did_on store_failed r.0).deeds;
          does = (did_on store_failed r.0).does;
          heedful = (did_on store_failed r.0).heedful;
          answers = (did_on store_failed r.0).answers;
          input = read.input;
          consumed = read.consumed;
          reads = (read.are_first, (far.texts, refl), read.failures);
          blames = blamed (Err StoreFailed) blames;
          written = wrote contents first_sink none sent _ r.1.none_held (put_on store_failed r.1);
        }

        -- the line was the last
        led_to_last : HasReadAll remaining first_in next (far.lines ++ line ∷ []) → Blames (Ok tt) → Replied (Ok tt) → Led next sent new (Ok tt)
        led_to_last read blames r = record {
          track = far.track;
          is_track = far.is_track;
          part = same.part ∙ far.part;
          lines = far.lines ++ line ∷ [];
          texts = far.texts ++ r.0 ∷ [];
          deeds = (did_on r.0 r.1).deeds;
          does = (did_on r.0 r.1).does;
          heedful = (did_on r.0 r.1).heedful;
          answers = (did_on r.0 r.1).answers;
          input = read.input;
          consumed = read.consumed;
          reads = (
            read.are_all,
            read.spent,
            no_failed_store (far.texts ++ r.0 ∷ []) (AllByRecursion_push GoesOn far.texts r.0 far.well r.3),
            read.failures,
          );
          blames = blamed (Ok tt) blames;
          written = wrote contents first_sink none sent _ r.2.none_held (put_on r.0 r.2);
        }

        -- a line whose answer ended the dialogue
        pub led_to_fault : (fault : TalkFault) → HasRead remaining first_in next (far.lines ++ line ∷ []) → Blames (Err fault) → Replied (Err fault) → Led next sent new (Err fault)
        led_to_fault ReadFailed read blames r = absurd r
        led_to_fault WriteFailed read blames r = led_to_broken read blames r
        led_to_fault StoreFailed read blames r = led_to_failed_store read blames r
        led_to_fault StaleTape read blames r = led_to_stale read blames r
        led_to_fault OutOfMemory read blames r = absurd r

        -- the last line, whatever came of its answer
        pub led_by_last : (result : Result Unit TalkFault) → HasReadAll remaining first_in next (far.lines ++ line ∷ []) → Blames result → Replied result → Led next sent new result
        led_by_last (Ok done) read blames r = led_to_last read blames r
        led_by_last (Err fault) read blames r = led_to_fault fault (all_are_first remaining first_in next _ read) blames r

-- a dialogue that was led is one
pub talk_of
    : {R W T : Type 0} (remaining : R → Option (List ℕ)) (contents : W → Option (List ℕ)) (seen : T → TapeState) (heeds : Bool) (table : Timetable) (old_in new_in : Counted R)
    (old_out new_out : Counted W) (old new : AgentOn T) (result : Result Unit TalkFault)
    → Leads remaining contents seen heeds table old_in new_in old_out new_out old new result → Talks remaining contents seen heeds table old_in new_in old_out new_out old new result
talk_of remaining contents seen heeds table old_in new_in old_out new_out old new (Ok done) led = led
talk_of remaining contents seen heeds table old_in new_in old_out new_out old new (Err ReadFailed) led = led
talk_of remaining contents seen heeds table old_in new_in old_out new_out old new (Err WriteFailed) led = led
talk_of remaining contents seen heeds table old_in new_in old_out new_out old new (Err StoreFailed) led = led
talk_of remaining contents seen heeds table old_in new_in old_out new_out old new (Err StaleTape) led = led
talk_of remaining contents seen heeds table old_in new_in old_out new_out old new (Err OutOfMemory) led = absurd led.reads
