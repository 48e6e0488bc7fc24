-- Only an agent that there is says anything, and it says what it knows then.
use Rattle.std.proofs.Common.{◌≡◌, ℕ, zero, suc, ◌+◌, true, ◌≤◌, List, [], ◌∷◌, ◌++◌, length, Some, None, inl, inr, ◌<◌, arith, refl, sym, ap, subst, ◌∙◌}
use Rattle.std.specs.Prelude.{Option, ◌⊎◌, slice_get}
use Rattle.std.proofs.lemmas.Bool.{cond_both, cases_Bool, cond-true, cond-false, false≢true}
use Rattle.std.proofs.lemmas.Option.{same_Some, none-some, slice_get-get_or}
use Rattle.model.specs.declared.entry.Entry.{Entry}
use Rattle.model.specs.declared.event.Event.{Event}
use Rattle.model.specs.declared.event.Event.TheVariants.{Start, Finish, Say, Deliver, Restart, Tear}
use Rattle.model.specs.declared.version.Version.{Version}
use Rattle.model.specs.declared.version.Version.TheVariants.{One, Two}
use Rattle.model.specs.declared.why.Why.TheVariants.{Broken}
use Rattle.model.specs.Timetable.{Track, Timetable, track_of}
use Rattle.model.specs.Messages.{Message, number_told, message_said, bytes_said}
use Rattle.model.specs.History.{Answer, said, refused, History, Happening, is_broken, done, is_said, messages_of, messages, known}
use Rattle.model.specs.Rules.{say_answer, answer_by, answer, IsRun}
use Rattle.model.specs.Speech.{HasFinished, WasSaid}
use Rattle.model.specs.Laws.Entries.{entries-own}
use Rattle.model.specs.Laws.Histories.{number-within, known-done}
use Rattle.model.specs.Laws.Runs.{progress}
use Rattle.model.proofs.laws.messages_of_runs.Goals as goal

-- ---- the last message, or one before

before_or_in : {X : Type 0} (xs ys : List X) (m : ℕ) (x : X) → slice_get (xs ++ ys) m ≡ Some x
    → (slice_get xs m ≡ Some x) ⊎ ((k : ℕ) × (m ≡ length xs + k) × (slice_get ys k ≡ Some x))
before_or_in [] ys m x there = inr (m, omega arith, there)
before_or_in (y ∷ xs) ys zero x there = inl there
before_or_in (y ∷ xs) ys (suc m) x there = elim (before_or_in xs ys m x there) [
  | inl before ↦ inl before
  | inr new ↦ inr (new.0, (let place = new.1 in omega (arith, place)), new.2)
]

said_before : (v : Version) (tab : Timetable) (now : Happening) (h : History) (m : ℕ) (message : Message) → WasSaid v tab h m message → WasSaid v tab (now ∷ h) m message
said_before v tab now h m message was = record {
  agent = was.agent;
  bytes = was.bytes;
  later = now ∷ was.later;
  earlier = was.earlier;
  when = ap {A = History} {B = History} (λ l. now ∷ l) was.when;
  is_agent = was.is_agent;
  tells = was.tells;
  entries = was.entries;
}

-- ---- what is told was finished

has_finished : (v : Version) (tab : Timetable) (h : History) (e : Entry) → IsRun v tab h → (track : Track) → track_of tab e.agent ≡ Some track → e.done ≤ done h e.agent
    → HasFinished tab h e
has_finished v tab h e run track there most =
    let went = progress v tab h e.agent track there run in
    let low = went.low in
    let limit = went.limit in
    (track, there, most, omega (arith, low, limit))

within_tracks : (tab : Timetable) (i : ℕ) → i < length tab.tracks → (track : Track) × (track_of tab i ≡ Some track)
within_tracks tab i less = (_, slice_get-get_or tab.tracks i (record { start = record { x = 0; y = 0 }; later = [] }) less)

entries_finished : (v : Version) (tab : Timetable) (h : History) (i : ℕ) (track : Track) → IsRun v tab h → track_of tab i ≡ Some track
    → (n : ℕ) (e : Entry) → slice_get (message_said v (length tab.tracks) i (done h i) (known v tab h i)).entries n ≡ Some e → HasFinished tab h e
entries_finished One tab h i track run there zero e is =
    subst (HasFinished tab h) (same_Some (record { agent = i; done = done h i }) e is)
    (has_finished One tab h (record { agent = i; done = done h i }) run track there (omega arith))
entries_finished One tab h i track run there (suc n) e is = absurd (none-some e is)
entries_finished Two tab h i track run there n e is =
    let own = entries-own (number_told i (done h i) (known Two tab h i)) 0 (length tab.tracks) n e is in
    let its = within_tracks tab e.agent (omega (arith, own.1)) in
    let most = number-within i (done h i) (known Two tab h i) (done h) (omega arith) (known-done Two tab h i) e.agent in
    has_finished Two tab h e run its.0 its.1 (omega (arith, most, own.2))

-- ---- an event by which something is said

bytes_of : (v : Version) (tab : Timetable) (h : History) (i : ℕ) → List ℕ
bytes_of v tab h i = bytes_said v tab.number (length tab.tracks) i (done h i) (known v tab h i)

says : (v : Version) (tab : Timetable) (h : History) (i : ℕ) → is_said (say_answer v tab h i) ≡ true → say_answer v tab h i ≡ said (length (messages v tab h)) (bytes_of v tab h i)
unfolding bytes_of
says v tab h i is = elim (cases_Bool (is_broken h i)) [
  | inl broken ↦ absurd (false≢true (sym (ap is_said (cond-true (is_broken h i) (refused Broken) (said (length (messages v tab h)) (bytes_of v tab h i)) broken)) ∙ is))
  | inr whole ↦ cond-false (is_broken h i) (refused Broken) (said (length (messages v tab h)) (bytes_of v tab h i)) whole
]

said_now : (v : Version) (tab : Timetable) (h : History) (i : ℕ) (r : Answer) → IsRun v tab h → r ≡ answer v tab h (Say i) → is_said r ≡ true
    → WasSaid v tab (record { event = Say i; answer = r } ∷ h) (length (messages v tab h)) (message_said v (length tab.tracks) i (done h i) (known v tab h i))
said_now v tab h i r run by_rules is = by_track (track_of tab i) refl where
  by_track : (o : Option Track) → track_of tab i ≡ o
      → WasSaid v tab (record { event = Say i; answer = r } ∷ h) (length (messages v tab h)) (message_said v (length tab.tracks) i (done h i) (known v tab h i))
  by_track (Some track) there = (
      let rule : r ≡ say_answer v tab h i = by_rules ∙ ap (answer_by v tab h (Say i)) there in
      let says_so = says v tab h i (ap is_said (sym rule) ∙ is) in
      record {
        agent = i;
        bytes = bytes_of v tab h i;
        later = [];
        earlier = h;
        when = ap {A = Answer} {B = History} (λ x. record { event = Say i; answer = x } ∷ h) (rule ∙ says_so);
        is_agent = (track, there);
        tells = refl;
        entries = entries_finished v tab h i track run there;
      }
      )
  by_track None none = absurd (false≢true (ap is_said (sym (by_rules ∙ ap (answer_by v tab h (Say i)) none)) ∙ is))

-- the messages of an event are said at it
AreSaid : (v : Version) (tab : Timetable) (now : Happening) (h : History) → List Message → Type 0
AreSaid v tab now h ms = (k : ℕ) (message : Message) → slice_get ms k ≡ Some message → WasSaid v tab (now ∷ h) (length (messages v tab h) + k) message

none_said : (v : Version) (tab : Timetable) (now : Happening) (h : History) → AreSaid v tab now h []
unfolding AreSaid
none_said v tab now h k message there = absurd (none-some message there)

one_said : (v : Version) (tab : Timetable) (now : Happening) (h : History) (message : Message) → WasSaid v tab (now ∷ h) (length (messages v tab h)) message
    → AreSaid v tab now h (message ∷ [])
unfolding AreSaid
one_said v tab now h message was zero other there =
    let place : length (messages v tab h) ≡ length (messages v tab h) + 0 = omega arith in
    subst (WasSaid v tab (now ∷ h) (length (messages v tab h) + 0)) (same_Some message other there)
    (subst (λ n. WasSaid v tab (now ∷ h) n message) place was)
one_said v tab now h message was (suc k) other there = absurd (none-some other there)

said_at : (v : Version) (tab : Timetable) (h : History) → IsRun v tab h → (e : Event) (r : Answer) → r ≡ answer v tab h e
    → AreSaid v tab (record { event = e; answer = r }) h (messages_of v tab e r h (known v tab h))
said_at v tab h run (Say i) r by_rules =
    cond_both (is_said r) (message_said v (length tab.tracks) i (done h i) (known v tab h i) ∷ []) [] (AreSaid v tab (record { event = Say i; answer = r }) h)
    (λ is. one_said v tab (record { event = Say i; answer = r }) h _ (said_now v tab h i r run by_rules is))
    (λ is. none_said v tab (record { event = Say i; answer = r }) h)
said_at v tab h run (Start i) r by_rules = none_said v tab (record { event = Start i; answer = r }) h
said_at v tab h run (Finish i) r by_rules = none_said v tab (record { event = Finish i; answer = r }) h
said_at v tab h run (Deliver i n) r by_rules = none_said v tab (record { event = Deliver i n; answer = r }) h
said_at v tab h run (Restart i) r by_rules = none_said v tab (record { event = Restart i; answer = r }) h
said_at v tab h run (Tear i n) r by_rules = none_said v tab (record { event = Tear i n; answer = r }) h

all_said : (v : Version) (tab : Timetable) (h : History) (m : ℕ) (message : Message) → IsRun v tab h → slice_get (messages v tab h) m ≡ Some message → WasSaid v tab h m message
unfolding AreSaid
all_said v tab [] m message run there = absurd (none-some message there)
all_said v tab (now ∷ h) m message run there =
    elim (before_or_in (messages v tab h) (messages_of v tab now.event now.answer h (known v tab h)) m message there) [
      | inl before ↦ said_before v tab now h m message (all_said v tab h m message run.1 before)
      | inr new ↦ subst (λ n. WasSaid v tab (now ∷ h) n message) (sym new.1) (said_at v tab h run.1 now.event now.answer run.0 new.0 message new.2)
    ]

pub returns : goal.returns
returns c = all_said
