-- What the events of a text and the ending come to.
use Rattle.std.proofs.Common.{◌≡◌, ℕ, true, false, List, [], ◌++◌, Option, Some, Result, Ok, Err, inl, inr, subst, append-nil}
use Rattle.text_io.specs.declared.counted.Counted.{Counted}
use Rattle.text_io.specs.declared.sink.Sink.{Sink}
use Rattle.text_io.specs.Reading.{is_value}
use Rattle.text_io.specs.Sink.{Puts, Breaks}
use Rattle.text_io.specs.Laws.Putting.{Puts-trans, Breaks-after}
use Rattle.model.specs.History.{History}
use Rattle.model.specs.Timetable.{Timetable}
use Rattle.event_text.specs.ReplyText.{replies_text}
use Rattle.executor.specs.Standing.{RunnerState, StandsAt}
use Rattle.runner.specs.declared.completion.Completion.{Completion}
use Rattle.runner.specs.declared.run_fault.RunFault.{RunFault}
use Rattle.runner.specs.declared.run_fault.RunFault.TheVariants as run_fault
use Rattle.runner.specs.Completing.{SpellsEnding, ConcludesAll, CompletesEvents}
use Rattle.runner.specs.Replaying.{AnswersAll, AnswersEvents, was_written}
use Rattle.runner.specs.Code.Ending.{SaysEnding, PutsEnding}
use Rattle.runner.specs.Code.Standing.{AnswersAllBy}
use Rattle.runner.proofs.ReplyLemmas.{some_on, all_some, handed_on, not_handed_on}

-- the ending stays where more comes of the text
concluded_on : {E : Type 0} (events_left : E → Option (List ℕ)) (tt : Timetable) (old new : Counted E) (completion : Completion)
    (CameOf MoreOf : List ℕ → Type 0) → ConcludesAll events_left tt old new completion CameOf
    → ((text : List ℕ) → CameOf text → MoreOf text) → ConcludesAll events_left tt old new completion MoreOf
concluded_on events_left tt old new completion CameOf MoreOf a on = record {
  version = a.version;
  events = a.events;
  read = a.read;
  concluded = record {
    answers = a.concluded.answers;
    answered = a.concluded.answered;
    ending = a.concluded.ending;
    spells = a.concluded.spells;
    came = on _ a.concluded.came;
  };
}

module _ {E : Type 0} (events_left : E → Option (List ℕ)) (tt : Timetable) (old new : Counted E) (Whole Broken : List ℕ → Type 0) where
  abbrev Ends : Result Completion RunFault → Type 0
  Ends = CompletesEvents events_left tt old new Whole Broken

  -- all of the text is handed on
  pub all_handed_on : (MoreOf Other : List ℕ → Type 0) (answer : Result Completion RunFault) → was_written answer ≡ true → Ends answer
      → ((text : List ℕ) → Whole text → MoreOf text) → CompletesEvents events_left tt old new MoreOf Other answer
  all_handed_on MoreOf Other (Ok completion) well a on = concluded_on events_left tt old new completion Whole MoreOf a on
  all_handed_on MoreOf Other (Err (run_fault.Events fault)) well a on =
      handed_on events_left tt old new Whole Broken MoreOf Other (Err (run_fault.Events fault)) well a on
  all_handed_on MoreOf Other (Err run_fault.OutOfMemory) well a on = some_on events_left tt old new Whole MoreOf a on
  all_handed_on MoreOf Other (Err run_fault.WriteFailed) well a on = let bad : false ≡ true = well in cc
  all_handed_on MoreOf Other (Err (run_fault.Planned fault)) well a on = absurd a

  -- the last of it could not be handed on
  pub not_all_handed_on : (Other MoreOf : List ℕ → Type 0) (answer : Result Completion RunFault) → was_written answer ≡ true → Ends answer
      → ((text : List ℕ) → Whole text → MoreOf text) → CompletesEvents events_left tt old new Other MoreOf (Err run_fault.WriteFailed)
  not_all_handed_on Other MoreOf (Ok completion) well a on = inr (completion, concluded_on events_left tt old new completion Whole MoreOf a on)
  not_all_handed_on Other MoreOf (Err (run_fault.Events fault)) well a on =
      inl (not_handed_on events_left tt old new Whole Broken MoreOf (Err (run_fault.Events fault)) well a on)
  not_all_handed_on Other MoreOf (Err run_fault.OutOfMemory) well a on = inl (some_on events_left tt old new Whole MoreOf a on)
  not_all_handed_on Other MoreOf (Err run_fault.WriteFailed) well a on = let bad : false ≡ true = well in absurd (cc)
  not_all_handed_on Other MoreOf (Err (run_fault.Planned fault)) well a on = absurd a

  -- it was broken off before
  pub broken_off : (Other MoreOf : List ℕ → Type 0) (answer : Result Completion RunFault) → was_written answer ≡ false → Ends answer
      → ((text : List ℕ) → Broken text → MoreOf text) → CompletesEvents events_left tt old new Other MoreOf answer
  broken_off Other MoreOf (Ok completion) off a on = let bad : true ≡ false = off in absurd (cc)
  broken_off Other MoreOf (Err (run_fault.Events fault)) off a on = let bad : true ≡ false = off in absurd (cc)
  broken_off Other MoreOf (Err run_fault.OutOfMemory) off a on = let bad : true ≡ false = off in absurd (cc)
  broken_off Other MoreOf (Err run_fault.WriteFailed) off (inl a) on = inl (some_on events_left tt old new Broken MoreOf a on)
  broken_off Other MoreOf (Err run_fault.WriteFailed) off (inr (completion, a)) on =
      inr (completion, concluded_on events_left tt old new completion Broken MoreOf a on)
  broken_off Other MoreOf (Err (run_fault.Planned fault)) off a on = absurd a

  -- a fault among the events is one of the whole
  pub fault_among_events : (fault : RunFault) → AnswersEvents events_left tt old new Whole Broken (Err fault) → Ends (Err fault)
  fault_among_events run_fault.WriteFailed a = inl a
  fault_among_events run_fault.OutOfMemory a = a
  fault_among_events (run_fault.Events fault) a = a
  fault_among_events (run_fault.Planned fault) a = a

-- ---- the runner's ending

-- all events are answered, whoever answered them
pub without_runner : {E : Type 0} (events_left : E → Option (List ℕ)) (tt : Timetable) (old new : Counted E) (r : RunnerState) (CameOf : List ℕ → Type 0)
    → AnswersAllBy events_left tt old new r CameOf → AnswersAll events_left tt old new (λ events. is_value events) CameOf
without_runner events_left tt old new r CameOf a = record {
  version = Some r.version;
  events = a.events;
  read = a.read;
  replies = record { answers = a.replies.answers; answered = a.replies.answered; came = a.replies.came };
}

module _
    {E W : Type 0} (events_left : E → Option (List ℕ)) (contents : W → Option (List ℕ)) (tt : Timetable) (old new : Counted E) (first mid last : Sink W)
    (r : RunnerState) (all : AnswersAllBy events_left tt old new r (Puts contents first mid))
  where
    -- the ending is that of the run that was answered
    concluded : (completion : Completion) (Next CameOf : List ℕ → Type 0) → SaysEnding r.version r.timetable all.replies.answered.history Next completion
        → ((text : List ℕ) → Next text → CameOf (replies_text all.replies.answers ++ text)) → ConcludesAll events_left tt old new completion CameOf
    concluded completion Next CameOf (text, spells, next) on = record {
      version = r.version;
      events = all.events;
      read = all.read;
      concluded = record {
        answers = all.replies.answers;
        answered = all.replies.answered;
        ending = text;
        spells = subst (λ table. SpellsEnding r.version table all.replies.answered.history completion text) all.replies.same_graph spells;
        came = on text next;
      };
    }

    -- behind all replies the ending is put, or broken off
    pub put_behind : (answer : Result Completion RunFault)
        → ((h : History) → StandsAt r h → PutsEnding r.version r.timetable h (Puts contents mid last) (Breaks contents mid last) answer)
        → CompletesEvents events_left tt old new (Puts contents first last) (Breaks contents first last) answer
    put_behind (Ok completion) ends =
        concluded completion _ _ (ends all.replies.answered.history all.replies.stands)
        (λ text puts. Puts-trans contents first mid last (replies_text all.replies.answers) text all.replies.came puts)
    put_behind (Err run_fault.WriteFailed) ends =
        let says = ends all.replies.answered.history all.replies.stands in
        inr (
          says.0,
          concluded says.0 (Breaks contents mid last) (Breaks contents first last) says.1
              (λ text breaks. Breaks-after contents first mid last (replies_text all.replies.answers) text all.replies.came breaks),
        )
    put_behind (Err run_fault.OutOfMemory) ends =
        all_some events_left tt old new (λ events. is_value events) (Puts contents first mid) (Puts contents first last)
        (without_runner events_left tt old new r (Puts contents first mid) all)
        (λ text puts. subst (Puts contents first last) (append-nil text)
        (Puts-trans contents first mid last text [] puts (ends all.replies.answered.history all.replies.stands)))
    put_behind (Err (run_fault.Planned fault)) ends = absurd (ends all.replies.answered.history all.replies.stands)
    put_behind (Err (run_fault.Events fault)) ends = absurd (ends all.replies.answered.history all.replies.stands)
