-- Events that are answered one after another.
use Rattle.std.proofs.Common.{◌≡◌, ℕ, ◌≤◌, List, [], ◌∷◌, ◌++◌, length, map, drop, get_or, Option, None, Some, refl, sym, ap, subst, ◌∙◌, arith}
use Rattle.std.specs.Prelude.{reverse, slice_get}
use Rattle.std.proofs.lemmas.List.{append_assoc, length-append, map-append, reverse-append}
use Rattle.text_io.specs.Text.{line_feed, ended}
use Rattle.text_io.specs.declared.sink.Sink.{Sink}
use Rattle.text_io.specs.Sink.{Puts, Breaks}
use Rattle.text_io.specs.Laws.Lines.{ended_push}
use Rattle.text_io.specs.Laws.Putting.{Puts-trans, Breaks-after}
use Rattle.model.specs.declared.event.Event.{Event}
use Rattle.model.specs.declared.version.Version.{Version}
use Rattle.model.specs.Dependency.{IsRotation}
use Rattle.model.specs.History.{Answer, History, kept_starts}
use Rattle.model.specs.Rules.{IsRun}
use Rattle.model.specs.Safety.{IsSafe}
use Rattle.model.specs.Timetable.{Track, Timetable, moves_before, track_of, IsConflictFree}
use Rattle.event_text.specs.declared.header.Headers.{Headers}
use Rattle.event_text.specs.EventText.{event_header, AreEvents}
use Rattle.event_text.specs.FirstEvents.{BeginsWithEvents}
use Rattle.event_text.specs.ReplyText.{reply_line, replies_text}
use Rattle.executor.specs.SafeRuns.{IsSafeRun}
use Rattle.executor.specs.Standing.{RunnerState, StandsAt, GoesOnWith}
use Rattle.executor.specs.Laws.Safe.{safe-run}
use Rattle.runner.specs.Replaying.{Answered}
use Rattle.runner.specs.Code.Standing.{AnsweredBy}

-- one more is the newest
pub newest : {X : Type 0} (h xs : List X) (x : X) → h ≡ reverse xs → x ∷ h ≡ reverse (xs ++ x ∷ [])
newest h xs x same = ap (λ l. x ∷ l) same ∙ sym (reverse-append xs (x ∷ []))

-- its line is the last
pub one-more : (answers : List Answer) (a : Answer) → replies_text (answers ++ a ∷ []) ≡ replies_text answers ++ (reply_line a ++ line_feed ∷ [])
one-more answers a = ap ended (map-append reply_line answers (a ∷ [])) ∙ ended_push (map reply_line answers) (reply_line a)

-- lines of events, without the last
record Front (events : List Event) (lines : List (List ℕ)) : Type 0 where
  pub front : List (List ℕ)
  pub last : List ℕ
  pub parts : lines ≡ front ++ last ∷ []
  pub said : AreEvents events front

-- no line is left where no event is
none_left : (lines : List (List ℕ)) → AreEvents [] lines → lines ≡ []
none_left [] said = refl
none_left (line ∷ lines) said = absurd (let more = ap length said.2 in omega (arith, more))

not_none : {X : Type 0} (xs : List X) (x : X) → [] ≡ xs ++ x ∷ [] → ⊥
not_none xs x same = (let none = ap length same in let one = length-append xs (x ∷ []) in omega (arith, none, one))

front_of : (lines : List (List ℕ)) (all events : List Event) (e : Event) → AreEvents all lines → all ≡ events ++ e ∷ [] → Front events lines
front_of [] all events e none same = absurd (not_none events e (sym none ∙ same))
front_of (line ∷ lines) all [] e said same =
    let others = ap (drop 1) (sym said.2 ∙ same) in
    let left = none_left lines (subst (λ es. AreEvents es lines) others said.4) in
    record { front = []; last = line; parts = ap (λ l. line ∷ l) left; said = refl }
front_of (line ∷ lines) all (x ∷ events) e said same =
    let others = ap (drop 1) (sym said.2 ∙ same) in
    let first = ap (λ l. get_or l 0 x) (sym said.2 ∙ same) in
    let f = front_of lines said.1 events e said.4 others in
    record { front = line ∷ f.front; last = f.last; parts = ap (λ l. line ∷ l) f.parts; said = (said.0, events, ap (λ y. y ∷ events) (sym first), said.3, f.said) }

-- fewer events are read as well
pub fewer : (headers : Headers) (version : Option Version) (events : List Event) (e : Event) (text : List ℕ)
    → BeginsWithEvents headers version (events ++ e ∷ []) text → BeginsWithEvents headers version events text
fewer headers None events e text none = absurd (not_none events e (sym none))
fewer headers (Some version) events e text (takes, (lines, rest, is, are)) =
    let f = front_of lines _ events e are refl in
    let header = event_header version in (
      takes,
      (
        f.front,
        (f.last ++ line_feed ∷ []) ++ rest,
        is ∙ ap (λ l. ended (header ∷ l) ++ rest) f.parts ∙ ap (λ l. l ++ rest) (ended_push (header ∷ f.front) f.last)
            ∙ append_assoc (ended (header ∷ f.front)) (f.last ++ line_feed ∷ []) rest,
        f.said,
      ),
    )

-- ---- what the events so far came to

-- the runner stands at the run of the events, and the text of the replies came to this
pub record SoFar (tt : Timetable) (r : RunnerState) (events : List Event) (CameOf : List ℕ → Type 0) : Type 0 where
  pub same_graph : r.timetable ≡ tt
  pub history : History
  pub stands : StandsAt r history
  pub same_events : map (λ now. now.event) history ≡ reverse events
  pub answers : List Answer
  pub same_answers : map (λ now. now.answer) history ≡ reverse answers
  pub came : CameOf (replies_text answers)

module _
    (every : (version : Version) (tt : Timetable) (later earlier : History) → IsConflictFree tt → IsRun version tt (later ++ earlier) → IsSafe tt earlier)
    (never : (version : Version) (tt : Timetable) (step : ℕ) (agents : List ℕ) (h : History) (place i : ℕ) (track : Track)
    → IsConflictFree tt → IsRotation tt step agents → IsRun version tt h → slice_get agents place ≡ Some i → track_of tt i ≡ Some track
    → kept_starts h i ≤ moves_before track step)
  where
    pub answered-so-far : (tt : Timetable) (r : RunnerState) (events : List Event) (CameOf : List ℕ → Type 0)
        → SoFar tt r events CameOf → Answered r.version tt events CameOf
    answered-so-far tt r events CameOf so_far = record {
      answers = so_far.answers;
      answered = record {
        history = so_far.history;
        same_events = so_far.same_events;
        same_answers = so_far.same_answers;
        safe = subst (λ table. IsSafeRun r.version table so_far.history) so_far.same_graph (safe-run every never r so_far.history so_far.stands);
      };
      came = so_far.came;
    }

    -- and the runner stands at their run
    pub answered-by : (tt : Timetable) (r : RunnerState) (events : List Event) (CameOf : List ℕ → Type 0)
        → SoFar tt r events CameOf → AnsweredBy tt r events CameOf
    unfolding answered-so-far
    answered-by tt r events CameOf so_far =
        let all = answered-so-far tt r events CameOf so_far in record {
          same_graph = so_far.same_graph;
          answers = all.answers;
          answered = all.answered;
          stands = so_far.stands;
          came = all.came;
        }

-- no event is answered yet
pub none-answered : (version made : Version) (table : Timetable) (CameOf : List ℕ → Type 0) → IsSafeRun made table [] → CameOf []
    → Answered version table [] CameOf
none-answered version made table CameOf safe came = record {
  answers = [];
  answered = record {
    history = [];
    same_events = refl;
    same_answers = refl;
    -- a run of nothing is one of either version
    safe = record { run = tt; safe = safe.safe; rotations = safe.rotations };
  };
  came = came;
}

pub none-so-far : (tt : Timetable) (r : RunnerState) (CameOf : List ℕ → Type 0) → r.timetable ≡ tt → StandsAt r [] → CameOf [] → SoFar tt r [] CameOf
none-so-far tt r CameOf same stands came = record {
  same_graph = same;
  history = [];
  stands = stands;
  same_events = refl;
  answers = [];
  same_answers = refl;
  came = came;
}

-- one event more is answered
pub so-far-more : (tt : Timetable) (r s : RunnerState) (events : List Event) (e : Event) (a : Answer) (CameOf Came : List ℕ → Type 0)
    → SoFar tt r events CameOf → GoesOnWith r s e a → s.timetable ≡ r.timetable
    → ((text : List ℕ) → CameOf text → Came (text ++ (reply_line a ++ line_feed ∷ []))) → SoFar tt s (events ++ e ∷ []) Came
so-far-more tt r s events e a CameOf Came so_far goes same more =
    let on = goes so_far.history so_far.stands in record {
      same_graph = same ∙ so_far.same_graph;
      history = record { event = e; answer = a } ∷ so_far.history;
      stands = on.1;
      same_events = newest _ events e so_far.same_events;
      answers = so_far.answers ++ a ∷ [];
      same_answers = newest _ so_far.answers a so_far.same_answers;
      came = subst Came (sym (one-more so_far.answers a)) (more _ so_far.came);
    }

-- its reply is put, or could not be
module _
    {W : Type 0} (contents : W → Option (List ℕ)) (first mid last : Sink W) (tt : Timetable) (r s : RunnerState) (events : List Event) (e : Event) (a : Answer)
    (so_far : SoFar tt r events (Puts contents first mid)) (goes : GoesOnWith r s e a) (same : s.timetable ≡ r.timetable)
  where
    pub put-more : Puts contents mid last (reply_line a ++ line_feed ∷ []) → SoFar tt s (events ++ e ∷ []) (Puts contents first last)
    put-more put = so-far-more tt r s events e a _ _ so_far goes same (λ text before. Puts-trans contents first mid last text _ before put)

    pub break-more : Breaks contents mid last (reply_line a ++ line_feed ∷ []) → SoFar tt s (events ++ e ∷ []) (Breaks contents first last)
    break-more breaks = so-far-more tt r s events e a _ _ so_far goes same (λ text before. Breaks-after contents first mid last text _ before breaks)
