-- Where an agent stands after an event that stores nothing: a message, a tear, a restart, or an
-- event of another agent.
use Rattle.std.proofs.Common.{◌≡◌, ℕ, zero, suc, ◌+◌, eqb, cond, Bool, true, false}
use Rattle.std.proofs.Common.{List, [], ◌∷◌, max, Some, refl, sym, ap, ◌∙◌, arith}
use Rattle.std.specs.Prelude.{◌==◌, ◌&&◌, ◌||◌, if◌then◌else◌, unwrap_or, slice_get}
use Rattle.std.proofs.lemmas.Bool.{true≢false}
use Rattle.model.specs.declared.entry.Entry.{Entry}
use Rattle.model.specs.declared.event.Event.TheVariants.{Say, Deliver, Restart, Tear}
use Rattle.model.specs.declared.version.Version.{Version}
use Rattle.model.specs.History.{Answer, Happening, History, is_heard, is_opened}
use Rattle.model.specs.History.{told_of, armed_of, is_broken, messages, known}
use Rattle.model.specs.Messages.{Message, told_by, told, entries_from, number_told, whole_message}
use Rattle.model.specs.Rules.{agent_of}
use Rattle.model.specs.Timetable.{Timetable}
use Rattle.model.specs.Laws.Others.{starts-other, finishes-other, broken-other, known-other}
use Rattle.agent.specs.declared.counters.Counter.{Counter}
use Rattle.agent.specs.Counters.{heard_of, known_in, tells_of, raised, Raises}
use Rattle.agent.specs.States.{State}
use Rattle.fleet.specs.Members.{IsLeftBy}
use Rattle.fleet.specs.Laws.Storing.{own_test}

-- ---- events of others, and those that change nothing

-- an agent that the event doesn't name stays where it is
pub at-other : (v : Version) (table : Timetable) (h : History) (now : Happening) (i : ℕ) (s : State)
    → eqb (agent_of now.event) i ≡ false → IsLeftBy v table h i s → IsLeftBy v table (now ∷ h) i s
at-other v table h now i s other is = record {
  records = (let starts = starts-other now.event now.answer i (armed_of h i) other in
      let finishes = finishes-other now.event now.answer i (armed_of h i) other in
      let records = is.records in
      omega (arith, starts, finishes, records));
  heard =
      λ j. is.heard j ∙ sym
      (known-other now.event now.answer (messages v table h) i j (known v table h i j) other);
  broken = is.broken ∙ sym (broken-other now.event now.answer i (is_broken h i) other);
}

-- a message that is said leaves every agent where it is
pub say-at : (v : Version) (table : Timetable) (h : History) (i k : ℕ) (s : State) (r : Answer)
    → IsLeftBy v table h k s → IsLeftBy v table (record { event = Say i; answer = r } ∷ h) k s
say-at v table h i k s r is =
    record {
      records = (let before = is.records in omega (arith, before));
      heard = is.heard;
      broken = is.broken;
    }

-- so does a tear
pub tear-at : (v : Version) (table : Timetable) (h : History) (i n k : ℕ) (s : State) (r : Answer)
    → IsLeftBy v table h k s → IsLeftBy v table (record { event = Tear i n; answer = r } ∷ h) k s
tear-at v table h i n k s r is =
    record {
      records = (let before = is.records in omega (arith, before));
      heard = is.heard;
      broken = is.broken;
    }

-- ---- restarts

-- a test that names the agent itself, of a tape that was opened
pub own_opened : {A : Type 0} (i : ℕ) (r : Answer) (x y : A) → is_opened r ≡ true
    → (if (i == i) && is_opened r then x else y) ≡ x
own_opened i r x y opened = own_test i (is_opened r) x y ∙ ap (λ t. if t then x else y) opened

pub restart-at : (v : Version) (table : Timetable) (h : History) (i : ℕ) (s t : State) (r : Answer)
    → is_opened r ≡ true → IsLeftBy v table h i s
    → t.records ≡ s.records → t.heard ≡ [] → t.broken ≡ false
    → IsLeftBy v table (record { event = Restart i; answer = r } ∷ h) i t
restart-at v table h i s t r opened is records heard broken = record {
  records = (let before = is.records in omega (arith, records, before));
  heard = λ j. ap (λ l. known_in l j) heard ∙ sym (own_opened i r 0 (known v table h i j) opened);
  broken = broken ∙ sym (own_opened i r false (is_broken h i) opened);
}

-- ---- what entries raise

untold : (es : List Entry) (j : ℕ) → tells_of es j ≡ false → told_by es j ≡ 0
untold [] j none = refl
untold (e ∷ es) j none = by_test (untold es j) (e.agent == j) refl none where
  by_test : (tells_of es j ≡ false → told_by es j ≡ 0) → (b : Bool) → (e.agent == j) ≡ b
      → (b || tells_of es j) ≡ false → told_by (e ∷ es) j ≡ 0
  by_test rest true is h = absurd (true≢false h)
  by_test rest false is h =
      ap (λ b. if b then max e.done (told_by es j) else told_by es j) is ∙ rest h

-- what is known of an agent is then the greater of what was known and what the entries tell
pub raised-known : (old new : List Counter) (es : List Entry) → Raises old new es → (j : ℕ)
    → known_in new j ≡ max (known_in old j) (told_by es j)
raised-known old new es raises j =
    ap (λ o. unwrap_or o 0) (raises j) ∙ by_test (tells_of es j) refl where
      by_test : (b : Bool) → tells_of es j ≡ b → unwrap_or (raised old es j) 0
          ≡ max (known_in old j) (told_by es j)
      by_test true is =
          ap (λ b. unwrap_or
          (if b then Some (max (known_in old j) (told_by es j)) else heard_of old j) 0) is
      by_test false is =
          ap (λ b. unwrap_or
          (if b then Some (max (known_in old j) (told_by es j)) else heard_of old j) 0) is
          ∙ (let none = untold es j is in omega (arith, none))

-- ---- deliveries

-- a test that names an agent, of a message that was not heard
pub unheard_test : {A : Type 0} (i k : ℕ) (r : Answer) (x y : A) → is_heard r ≡ false
    → (if (i == k) && is_heard r then x else y) ≡ y
unheard_test i k r x y unheard =
    ap (λ t. if (i == k) && t then x else y) unheard ∙ never (i == k) where
      never : (t : Bool) → (if t && false then x else y) ≡ y
      never true = refl
      never false = refl

-- a message that is refused leaves every agent where it is
pub deliver-refused-at : (v : Version) (table : Timetable) (h : History) (i m k : ℕ) (s : State)
    (r : Answer) → is_heard r ≡ false → IsLeftBy v table h k s
    → IsLeftBy v table (record { event = Deliver i m; answer = r } ∷ h) k s
deliver-refused-at v table h i m k s r unheard is = record {
  records = (let before = is.records in omega (arith, before));
  heard =
      λ j. is.heard j ∙ sym
      (unheard_test i k r (max (known v table h k j) (told_of (slice_get (messages v table h) m) j))
      (known v table h k j) unheard);
  broken = is.broken;
}

-- a message that is heard
pub deliver-at : (v : Version) (table : Timetable) (h : History) (i m : ℕ) (message : Message)
    (s t : State) (r : Answer) → is_heard r ≡ true
    → slice_get (messages v table h) m ≡ Some message → IsLeftBy v table h i s
    → t.records ≡ s.records → t.broken ≡ s.broken → Raises s.heard t.heard message.entries
    → IsLeftBy v table (record { event = Deliver i m; answer = r } ∷ h) i t
deliver-at v table h i m message s t r hears there is records broken raises = record {
  records = (let before = is.records in omega (arith, records, before));
  heard =
      λ j. raised-known s.heard t.heard message.entries raises j ∙ ap (λ n. max n (told message j))
      (is.heard j) ∙ sym (rule j);
  broken = broken ∙ is.broken;
}
  where
    rule : (j : ℕ) → (if (i == i) && is_heard r then max (known v table h i j)
        (told_of (slice_get (messages v table h) m) j) else known v table h i j)
        ≡ max (known v table h i j) (told message j)
    rule j = own_test i (is_heard r) _ (known v table h i j)
        ∙ ap (λ b. if b then max (known v table h i j)
        (told_of (slice_get (messages v table h) m) j) else known v table h i j) hears
        ∙ ap (λ o. max (known v table h i j) (told_of o j)) there

-- ---- what is told hangs on the numbers alone

same_entries : (f g : ℕ → ℕ) (first count : ℕ) → ((j : ℕ) → f j ≡ g j)
    → entries_from f first count ≡ entries_from g first count
same_entries f g first zero same = refl
same_entries f g first (suc count) same =
    ap {A = ℕ} {B = List Entry}
    (λ n. cond (eqb n 0) (entries_from f (first + 1) count)
    (record { agent = first; done = n } ∷ entries_from f (first + 1) count)) (same first)
    ∙ ap {A = List Entry} {B = List Entry}
    (λ l. cond (eqb (g first) 0) l (record { agent = first; done = g first } ∷ l))
    (same_entries f g (first + 1) count same)

same_numbers : (i d : ℕ) (f g : ℕ → ℕ) → ((j : ℕ) → f j ≡ g j) → (j : ℕ)
    → number_told i d f j ≡ number_told i d g j
same_numbers i d f g same j = ap (λ n. if j == i then d else n) (same j)

pub same-message : (agents i d : ℕ) (f g : ℕ → ℕ) → ((j : ℕ) → f j ≡ g j)
    → whole_message agents i d f ≡ whole_message agents i d g
same-message agents i d f g same =
    ap {A = List Entry} {B = Message} (λ l. record { sender = i; entries = l })
    (same_entries (number_told i d f) (number_told i d g) 0 agents (same_numbers i d f g same))
