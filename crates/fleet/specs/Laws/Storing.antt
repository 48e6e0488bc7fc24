-- A start or a finish by an agent that stands at a run: the answer is that of the rules, and the
-- agent stands where they leave it.
use Rattle.std.proofs.Common.{◌≡◌, ℕ, ◌+◌, nat_lt, Bool, true, false, List, ◌∷◌, Some}
use Rattle.std.proofs.Common.{None, Result, Ok, Err, refl, sym, ap, subst, ◌∙◌, arith}
use Rattle.std.specs.Prelude.{◌==◌, ◌&&◌, Option, if◌then◌else◌}
use Rattle.std.proofs.lemmas.Bool.{eq-eqb}
use Rattle.std.proofs.lemmas.Option.{same_Some, none-some}
use Rattle.grid.specs.declared.cell.Cell.{Cell}
use Rattle.model.specs.declared.version.Version.{Version}
use Rattle.model.specs.declared.event.Event.{Event}
use Rattle.model.specs.declared.event.Event.TheVariants.{Start, Finish}
use Rattle.model.specs.History.{Answer, History, refused, moving, arrived}
use Rattle.model.specs.History.{armed_after, armed_of, broken_after, is_broken, is_begun}
use Rattle.model.specs.History.{is_ended, is_store_failed, stores_all, starts_of, finishes_of}
use Rattle.model.specs.History.{known_after, messages, known}
use Rattle.model.specs.Messages.{Message}
use Rattle.model.specs.Rules.{stored, start_answer, finish_answer, IsRun}
use Rattle.model.specs.Dependency.{Need, need}
use Rattle.model.specs.Timetable.{Track, Timetable, moves}
use Rattle.agent.specs.Counters.{known_in}
use Rattle.agent.specs.States as states
use Rattle.agent.specs.States.{State, waits_for, start_refusal, finish_refusal, next_cell}
use Rattle.agent.specs.declared.counters.Counter.{Counter}
use Rattle.agent.specs.declared.refusal.Refusal.{Refusal}
use Rattle.agent.specs.declared.refusal.Refusal.TheVariants.{Broken, AlreadyMoving, AtEnd}
use Rattle.agent.specs.declared.refusal.Refusal.TheVariants.{Waits, NotMoving, StoreFailed}
use Rattle.agent.specs.Replies.{why_of, unless, answered}
use Rattle.fleet.specs.Members.{IsLeftBy}
use Rattle.fleet.specs.Laws.Rules.{start-rule, finish-rule}

-- a test that names the agent itself is the other test
pub own_test : {A : Type 0} (i : ℕ) (b : Bool) (x y : A) → (if (i == i) && b then x else y)
    ≡ (if b then x else y)
own_test i b x y = ap (λ t. if t && b then x else y) (eq-eqb i i refl)

-- ---- refusals that say nothing of a store

abbrev pub IsQuiet : Refusal → Type 0
IsQuiet why =
    ((tear : Option ℕ) → (is_begun (refused (why_of why)) tear ≡ false)
    × (is_ended (refused (why_of why)) tear ≡ false))
    × (is_store_failed (refused (why_of why)) ≡ false)

quiet_if : (b : Bool) (w : Refusal) (o : Option Refusal) → IsQuiet w
    → ((why : Refusal) → o ≡ Some why → IsQuiet why) → (why : Refusal)
    → (if b then Some w else o) ≡ Some why → IsQuiet why
quiet_if true w o first rest why is = subst IsQuiet (same_Some w why is) first
quiet_if false w o first rest why is = rest why is

quiet-waits : (heard : List Counter) (o : Option Need) (why : Refusal)
    → waits_for heard o ≡ Some why → IsQuiet why
quiet-waits heard None why is = absurd (none-some why is)
quiet-waits heard (Some n) why is =
    quiet_if (nat_lt (known_in heard n.agent) n.count) (Waits n.agent n.count) None
    (λ tear. (refl, refl), refl) (λ other none. absurd (none-some other none)) why is

pub quiet-start : (table : Timetable) (i : ℕ) (track : Track) (s : State) (why : Refusal)
    → start_refusal table i track s ≡ Some why → IsQuiet why
quiet-start table i track s why is =
    quiet_if s.broken Broken _ (λ tear. (refl, refl), refl)
    (quiet_if (states.is_on_the_way s) AlreadyMoving _ (λ tear. (refl, refl), refl)
    (quiet_if (states.finished_moves s == moves track) AtEnd _ (λ tear. (refl, refl), refl)
    (quiet-waits s.heard (need table i track (states.finished_moves s)))))
    why is

pub quiet-finish : (s : State) (why : Refusal) → finish_refusal s ≡ Some why → IsQuiet why
quiet-finish s why is =
    quiet_if s.broken Broken _ (λ tear. (refl, refl), refl)
    (standing (states.is_on_the_way s)) why is
  where
    standing
        : (m : Bool) (why : Refusal) → (if m then None else Some NotMoving) ≡ Some why → IsQuiet why
    standing true why is = absurd (none-some why is)
    standing false why is = subst IsQuiet (same_Some NotMoving why is) (λ tear. (refl, refl), refl)

-- ---- events that store a record

-- An event of an agent after which it has one record more where its answer says so: a start or a
-- finish.
pub record IsStoring (event : Event) (of : Cell → Answer) (i : ℕ) : Type 0 where
  pub stored_cell : (c : Cell) (tear : Option ℕ)
      → starts_of event (of c) i tear + finishes_of event (of c) i tear ≡ 1
  pub stored_torn : (tear : Option ℕ)
      → starts_of event (refused (why_of StoreFailed)) i tear + finishes_of event
      (refused (why_of StoreFailed)) i tear ≡ (if stores_all tear then 1 else 0)
  pub stored_none : (why : Refusal) → IsQuiet why → (tear : Option ℕ)
      → starts_of event (refused (why_of why)) i tear + finishes_of event
      (refused (why_of why)) i tear ≡ 0
  pub armed : (r : Answer) (before : Option ℕ)
      → armed_after event r i before ≡ (if is_store_failed r then None else before)
  pub broken : (r : Answer) (before : Bool) → broken_after event r i before
      ≡ (if is_store_failed r then true else before)
  pub known
      : (r : Answer) (ms : List Message) (j before : ℕ) → known_after event r ms i j before ≡ before
  pub fine : (c : Cell) → is_store_failed (of c) ≡ false

pub start-stores : (i : ℕ) → IsStoring (Start i) moving i
start-stores i = record {
  stored_cell = λ c tear. ap (λ n. n + 0) (own_test i true 1 0);
  stored_torn = λ tear. ap (λ n. n + 0) (own_test i (stores_all tear) 1 0) ∙ omega arith;
  stored_none =
      λ why quiet tear. ap (λ n. n + 0) (own_test i (is_begun (refused (why_of why)) tear) 1 0
      ∙ ap (λ b. if b then 1 else 0) (quiet.0 tear).0);
  armed = λ r before. own_test i (is_store_failed r) None before;
  broken = λ r before. own_test i (is_store_failed r) true before;
  known = λ r ms j before. refl;
  fine = λ c. refl;
}

pub finish-stores : (i : ℕ) → IsStoring (Finish i) arrived i
finish-stores i = record {
  stored_cell = λ c tear. ap (λ n. 0 + n) (own_test i true 1 0);
  stored_torn = λ tear. ap (λ n. 0 + n) (own_test i (stores_all tear) 1 0) ∙ omega arith;
  stored_none =
      λ why quiet tear. ap (λ n. 0 + n) (own_test i (is_ended (refused (why_of why)) tear) 1 0
      ∙ ap (λ b. if b then 1 else 0) (quiet.0 tear).1);
  armed = λ r before. own_test i (is_store_failed r) None before;
  broken = λ r before. own_test i (is_store_failed r) true before;
  known = λ r ms j before. refl;
  fine = λ c. refl;
}

-- ---- how a write came out

-- The write of a tape that was told to tear after so many bytes, or was not: it leads the agent
-- from one state to another.
abbrev pub ComesOut : Option ℕ → State → State → Cell → Result Cell Refusal → Type 0
ComesOut None s t cell answer =
    (answer ≡ Ok cell) × (t.records ≡ s.records + 1) × (t.heard ≡ s.heard) × (t.broken ≡ s.broken)
ComesOut (Some n) s t cell answer =
    (answer ≡ Err StoreFailed) × (t.records ≡ s.records + (if n == 10 then 1 else 0))
    × (t.heard ≡ s.heard) × (t.broken ≡ true)

-- the same of a call that may refuse
abbrev pub GoesBy : Option Refusal → Option ℕ → State → State → Cell → Result Cell Refusal → Type 0
GoesBy None tear s t cell answer = ComesOut tear s t cell answer
GoesBy (Some why) tear s t cell answer = (answer ≡ Err why) × (t ≡ s)

module _ (v : Version) (table : Timetable) (h : History) (i : ℕ) (s t : State)
    (is : IsLeftBy v table h i s) (event : Event) (of : Cell → Answer)
    (storing : IsStoring event of i) where
  -- where the agent is, by what the answer has changed
  next : (r : Answer) (added : ℕ) → starts_of event r i (armed_of h i) + finishes_of event r i
      (armed_of h i) ≡ added
      → t.records ≡ s.records + added → t.heard ≡ s.heard
      → t.broken ≡ (if is_store_failed r then true else s.broken)
      → IsLeftBy v table (record { event = event; answer = r } ∷ h) i t
  next r added adds records heard broken = record {
    records = (let before = is.records in omega (arith, adds, records, before));
    heard =
        λ j. ap (λ l. known_in l j) heard ∙ is.heard j
        ∙ sym (storing.known r (messages v table h) j (known v table h i j));
    broken =
        broken ∙ ap (λ x. if is_store_failed r then true else x) is.broken
        ∙ sym (storing.broken r (is_broken h i));
  }

  abbrev pub After : Answer → Type 0
  After r = IsLeftBy v table (record { event = event; answer = r } ∷ h) i t

  refuses : (why : Refusal) (answer : Result Cell Refusal) → IsQuiet why → (answer ≡ Err why)
      × (t ≡ s) → (answered of answer ≡ refused (why_of why)) × After (answered of answer)
  refuses why answer quiet gives =
      let same = ap (answered of) gives.0 in (
        same,
        subst After (sym same)
            (next (refused (why_of why)) 0 (storing.stored_none why quiet (armed_of h i))
            (ap (λ x. x.records) gives.1 ∙ omega arith) (ap (λ x. x.heard) gives.1)
            (ap (λ x. x.broken) gives.1 ∙ sym (ap (λ b. if b then true else s.broken) quiet.1))),
      )

  stores : (cell : Cell) (answer : Result Cell Refusal) (tear : Option ℕ) → armed_of h i ≡ tear
      → ComesOut tear s t cell answer → (answered of answer ≡ stored tear (of cell))
      × After (answered of answer)
  stores cell answer None armed out =
      let same = ap (answered of) out.0 in (
        same,
        subst After (sym same)
            (next (of cell) 1 (storing.stored_cell cell (armed_of h i)) out.1 out.2
            (out.3 ∙ sym (ap (λ b. if b then true else s.broken) (storing.fine cell)))),
      )
  stores cell answer (Some n) armed out =
      let same = ap (answered of) out.0 in (
        same,
        subst After (sym same)
            (next (refused (why_of StoreFailed)) (if n == 10 then 1 else 0)
            (storing.stored_torn (armed_of h i) ∙ ap (λ o. if stores_all o then 1 else 0) armed)
            out.1 out.2 out.3),
      )

  pub goes-by : (rule : Answer) (o : Option Refusal) (cell : Cell) (answer : Result Cell Refusal)
      → ((why : Refusal) → o ≡ Some why → IsQuiet why)
      → rule ≡ unless o (stored (armed_of h i) (of cell)) → GoesBy o (armed_of h i) s t cell answer
      → (answered of answer ≡ rule) × After (answered of answer)
  goes-by rule None cell answer quiet by out =
      (let found = stores cell answer (armed_of h i) refl out in (found.0 ∙ sym by, found.1))
  goes-by rule (Some why) cell answer quiet by gives =
      (let found = refuses why answer (quiet why refl) gives in (found.0 ∙ sym by, found.1))

module _ (v : Version) (table : Timetable) (h : History) (run : IsRun v table h) (i : ℕ)
    (track : Track) (s t : State) (is : IsLeftBy v table h i s) (answer : Result Cell Refusal) where
  pub start-goes : GoesBy (start_refusal table i track s) (armed_of h i) s t
      (next_cell track s) answer
      → (answered moving answer ≡ start_answer v table h i track)
      × IsLeftBy v table (record { event = Start i; answer = answered moving answer } ∷ h) i t
  start-goes out =
      goes-by v table h i s t is (Start i) moving (start-stores i) _ _ _ answer
      (quiet-start table i track s) (start-rule v table h run i track s is) out

  pub finish-goes : GoesBy (finish_refusal s) (armed_of h i) s t (next_cell track s) answer
      → (answered arrived answer ≡ finish_answer h i track)
      × IsLeftBy v table (record { event = Finish i; answer = answered arrived answer } ∷ h) i t
  finish-goes out =
      goes-by v table h i s t is (Finish i) arrived (finish-stores i) _ _ _ answer (quiet-finish s)
      (finish-rule v table h run i track s is) out
