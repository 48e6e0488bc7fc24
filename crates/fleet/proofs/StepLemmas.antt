-- Where one deed of an agent leads the run of its fleet.
use Rattle.std.proofs.Common.{◌≡◌, ℕ, ◌+◌, ◌≤◌, eqb, nat_lt, Bool, true, false, List, [], ◌∷◌, ◌++◌, length, max, Some, None, Result, Ok, Err, inl, inr, refl, sym, ap, subst, ◌∙◌, arith}
use Rattle.std.specs.Prelude.{◌==◌, ◌&&◌, Option, option_map, if◌then◌else◌, MatchBool, MatchOption, slice_get}
use Rattle.std.proofs.lemmas.Bool.{cases_eq, cond-true, cond-false, eq-eqb, ne_eqb, le-ltb}
use Rattle.std.proofs.lemmas.List.{append-nil}
use Rattle.grid.specs.declared.cell.Cell.{Cell}
use Rattle.model.specs.declared.event.Event.{Event}
use Rattle.model.specs.declared.event.Event.TheVariants.{Start, Finish, Say, Deliver, Restart, Tear}
use Rattle.model.specs.declared.held.Held.{Held}
use Rattle.model.specs.declared.held.Held.TheVariants.{At, Between}
use Rattle.model.specs.declared.msg_fault.MsgFault.{MsgFault}
use Rattle.model.specs.declared.version.Version.{Version}
use Rattle.model.specs.declared.version.Version.TheVariants.{One, Two}
use Rattle.model.specs.declared.why.Why.TheVariants as why
use Rattle.model.specs.History as history
use Rattle.model.specs.History.{Answer, History, moving, arrived, said, heard, armed, refused, is_store_failed, is_opened, armed_after, armed_of, messages_of, messages, known}
use Rattle.model.specs.Messages.{Message, whole_message, message_said, told, message_bytes, bytes_said, IsTold}
use Rattle.model.specs.Rules.{agent_of, stored, deliver_answer, agent_answer, IsRun}
use Rattle.model.specs.Safety.{walk_after, walk}
use Rattle.model.specs.Speech.{WasSaid}
use Rattle.model.specs.Timetable.{Track, Timetable, track_of}
use Rattle.model.specs.Laws.Others.{armed-other, walk-other}
use Rattle.model.specs.Laws.Runs.{answer-is}
use Rattle.agent.specs.Counters.{known_in}
use Rattle.agent.specs.Decoding.{any_fault}
use Rattle.agent.specs.States.{State, held_by_tape, finished_moves, start_refusal, finish_refusal, next_cell, Answers, IsSaid, IsToldBy, Keeps, Refuses, IsTaken, IsHeard}
use Rattle.agent.specs.Tellings.{Telling, BytesTell}
use Rattle.agent.specs.declared.refusal.HearFault.{HearFault}
use Rattle.agent.specs.declared.refusal.HearFault.TheVariants as fault
use Rattle.agent.specs.declared.refusal.Refusal.{Refusal}
use Rattle.agent.specs.declared.refusal.Refusal.TheVariants.{StoreFailed}
use Rattle.agent.specs.declared.refusal.TellFault.{TellFault}
use Rattle.agent.specs.declared.refusal.TellFault.TheVariants as teller
use Rattle.agent.specs.Replies.{why_of, unless, answered, delivered, stood}
use Rattle.fleet.specs.Deeds.{Deed, opens, starts, finishes, says, tells, hears, holds, looks, ends, stops, ends_starting, ends_finishing, Does}
use Rattle.fleet.specs.Fleets.{IsTellable, bytes_of}
use Rattle.fleet.specs.FleetSafety.{walked_on}
use Rattle.fleet.specs.Members.{IsLeftBy}
use Rattle.fleet.specs.Retelling.{AddsEvent, AddsWrite, AddsDelivery, IsRetoldBy}
use Rattle.fleet.specs.Laws.Rules.{done-is, start-rule, finish-rule, restart-rule}
use Rattle.fleet.specs.Laws.Speaking.{at-other, say-at, tear-at, restart-at, raised-known, deliver-refused-at, deliver-at, same-message}
use Rattle.fleet.specs.Laws.Storing.{own_test, IsQuiet, quiet-start, quiet-finish, IsStoring, start-stores, finish-stores, ComesOut, goes-by}
use Rattle.fleet.specs.Laws.Telling.{none-refused-by}
use Rattle.fleet.proofs.SpelledLemmas.{telling_in, Spells, AreSpelled, spelled-more, spelled-count, spelled-at, spelled-tells}

-- what a run of the version has an event for: its messages, and the hearing of what was said
abbrev pub IsEvent : Version → List (List ℕ) → Deed → Type 0
IsEvent v before (says answer) = v ≡ One
IsEvent v before (tells answer) = v ≡ Two
IsEvent v before (hears bytes answer) = (m : ℕ) × (slice_get before m ≡ Some bytes)
IsEvent v before _ = Unit {0}

-- The run goes on: the agent stands where it leads, its drive has walked over these cells, and these messages were said; nothing changed of the other agents.
pub record Goes (v : Version) (table : Timetable) (i : ℕ) (track : Track) (all : List (List ℕ)) (t : State) (cells : List Cell) (h new : History) : Type 0 where
  pub run : IsRun v table new
  pub stands : IsLeftBy v table new i t
  pub others : (k : ℕ) (u : State) → (k ≡ i → ⊥) → IsLeftBy v table h k u → IsLeftBy v table new k u
  pub unarmed : (k : ℕ) → armed_of new k ≡ None
  pub spelled : AreSpelled table all (messages v table new)
  pub walk_is : walk track new i ≡ cells
  pub other_walks : (k : ℕ) (other : Track) → (k ≡ i → ⊥) → walk other new k ≡ walk other h k

same_either : {A : Type 0} (b : Bool) (x : A) → (if b then x else x) ≡ x
same_either true x = refl
same_either false x = refl

adds-plain : (h new : History) (i : ℕ) (e : Event) (r : Answer) → is_store_failed r ≡ false → AddsEvent h e r new → AddsWrite h i e r new
adds-plain h new i e r fine adds = subst (λ b. MatchBool b ((n : ℕ) × AddsEvent (record { event = Tear i n; answer = armed } ∷ h) e r new) (AddsEvent h e r new)) (sym fine) adds

adds-torn : (h new : History) (i n : ℕ) (e : Event) (r : Answer) → is_store_failed r ≡ true → AddsEvent (record { event = Tear i n; answer = armed } ∷ h) e r new → AddsWrite h i e r new
adds-torn h new i n e r failed adds = subst (λ b. MatchBool b ((n : ℕ) × AddsEvent (record { event = Tear i n; answer = armed } ∷ h) e r new) (AddsEvent h e r new)) (sym failed) (n, adds)

opened-stood : (what : Held) (k : ℕ) → is_opened (stood what k) ≡ true
opened-stood (At u) k = refl
opened-stood (Between u v) k = refl

module _ (v : Version) (table : Timetable) (i : ℕ) (track : Track) (there : track_of table i ≡ Some track)
    (spoken : List (List ℕ)) (s : State) (h : History) (run : IsRun v table h) (is : IsLeftBy v table h i s) (unarmed : (k : ℕ) → armed_of h k ≡ None)
    (spelled : AreSpelled table spoken (messages v table h)) where
  apart-test : (k : ℕ) → (k ≡ i → ⊥) → eqb i k ≡ false
  apart-test k apart = ne_eqb i k (λ same. apart (sym same))

  -- no event
  no-event : (t : State) → t ≡ s → Goes v table i track (spoken ++ []) t (walk track h i) h h
  no-event t same = record {
    run = run;
    stands = subst (IsLeftBy v table h i) (sym same) is;
    others = λ k u apart was. was;
    unarmed = unarmed;
    spelled = subst (λ l. AreSpelled table l (messages v table h)) (sym (append-nil spoken)) spelled;
    walk_is = refl;
    other_walks = λ k other apart. refl;
  }

  -- one event of the agent
  one-event : (e : Event) (r : Answer) (t : State) (more : List (List ℕ)) (cells : List Cell) → agent_of e ≡ i → r ≡ agent_answer v table h e track
      → IsLeftBy v table (record { event = e; answer = r } ∷ h) i t → ((k : ℕ) → armed_after e r k None ≡ None) → AreSpelled table more (messages_of v table e r h (known v table h))
      → walk_after e r i (walk track h i) ≡ cells → Goes v table i track (spoken ++ more) t cells h (record { event = e; answer = r } ∷ h)
  one-event e r t more cells own rule stands disarms more_spelled walks = record {
    run = (rule ∙ sym (answer-is v table h e track (ap (track_of table) own ∙ there)), run);
    stands = stands;
    others = λ k u apart was. at-other v table h (record { event = e; answer = r }) k u (ap (λ n. eqb n k) own ∙ apart-test k apart) was;
    unarmed = λ k. ap (armed_after e r k) (unarmed k) ∙ disarms k;
    spelled = spelled-more table spoken more (messages v table h) (messages_of v table e r h (known v table h)) spelled more_spelled;
    walk_is = walks;
    other_walks = λ k other apart. walk-other e r k (walk other h k) (ap (λ n. eqb n k) own ∙ apart-test k apart);
  }

  -- ---- starts and finishes

  abbrev Writes : Event → Answer → State → List Cell → Type 0
  Writes e r t cells = (new : History) × AddsWrite h i e r new × Goes v table i track (spoken ++ []) t cells h new

  module _ (e : Event) (of : Cell → Answer) (storing : IsStoring e of i) (own : agent_of e ≡ i)
      (silent : (g : History) (r : Answer) → messages_of v table e r g (known v table g) ≡ []) (disarms : (r : Answer) (k : ℕ) → armed_after e r k None ≡ None)
      (cell : Cell) (t : State) (answer : Result Cell Refusal) (on : List Cell → List Cell) (steps : (cells : List Cell) → walk_after e (answered of answer) i cells ≡ on cells) where
    abbrev r : Answer
    r = answered of answer

    plain : is_store_failed r ≡ false → (r ≡ agent_answer v table h e track) × IsLeftBy v table (record { event = e; answer = r } ∷ h) i t → Writes e r t (on (walk track h i))
    plain fine found = (
      record { event = e; answer = r } ∷ h,
      adds-plain h (record { event = e; answer = r } ∷ h) i e r fine refl,
      one-event e r t [] (on (walk track h i)) own found.0 found.1 (disarms r) (subst (AreSpelled table []) (sym (silent h r)) tt) (steps (walk track h i)),
    )

    module _ (n : ℕ) (most : n ≤ 10) where
      abbrev torn_h : History
      torn_h = record { event = Tear i n; answer = armed } ∷ h

      torn-run : IsRun v table torn_h
      torn-run = (sym (answer-is v table h (Tear i n) track there ∙ cond-false (nat_lt 10 n) (refused why.BadTear) armed (le-ltb 10 n most)), run)

      torn-armed : armed_of torn_h i ≡ Some n
      torn-armed = own_test i true (Some n) (armed_of h i)

      torn-spelled : AreSpelled table spoken (messages v table torn_h)
      torn-spelled = subst (AreSpelled table spoken) (sym (append-nil (messages v table h))) spelled

      torn : is_store_failed r ≡ true → (r ≡ agent_answer v table torn_h e track) × IsLeftBy v table (record { event = e; answer = r } ∷ torn_h) i t → Writes e r t (on (walk track h i))
      torn failed found = (
        record { event = e; answer = r } ∷ torn_h,
        adds-torn h (record { event = e; answer = r } ∷ torn_h) i n e r failed refl,
        record {
          run = (found.0 ∙ sym (answer-is v table torn_h e track (ap (track_of table) own ∙ there)), torn-run);
          stands = found.1;
          others = λ k u apart was.
              at-other v table torn_h (record { event = e; answer = r }) k u (ap (λ m. eqb m k) own ∙ apart-test k apart)
              (at-other v table h (record { event = Tear i n; answer = armed }) k u (apart-test k apart) was);
          unarmed = λ k. elim (cases_eq k i) [
            | inl same ↦ subst (λ j. armed_after e r j (armed_of torn_h j) ≡ None) (sym same) (storing.armed r (armed_of torn_h i) ∙ ap (λ b. if b then None else armed_of torn_h i) failed)
            | inr apart ↦ armed-other e r k (armed_of torn_h k) (ap (λ m. eqb m k) own ∙ apart-test k apart) ∙ armed-other (Tear i n) armed k (armed_of h k) (apart-test k apart) ∙ unarmed k
          ];
          spelled = spelled-more table spoken [] (messages v table torn_h) (messages_of v table e r torn_h (known v table torn_h)) torn-spelled
              (subst (AreSpelled table []) (sym (silent torn_h r)) tt);
          walk_is = steps (walk track h i);
          other_walks = λ k other apart. walk-other e r k (walk other h k) (ap (λ m. eqb m k) own ∙ apart-test k apart);
        },
      )

    abbrev Rule : Option Refusal → Type 0
    Rule o = (g : History) → IsRun v table g → IsLeftBy v table g i s → agent_answer v table g e track ≡ unless o (stored (armed_of g i) (of cell))

    -- the write failed, and stored so many bytes of its record
    fails : (n : ℕ) → n ≤ 10 → ((why : Refusal) → None ≡ Some why → IsQuiet why) → Rule None → answer ≡ Err StoreFailed → t.records ≡ s.records + (if n == 10 then 1 else 0) → t.heard ≡ s.heard →
        t.broken ≡ true
        → Writes e r t (on (walk track h i))
    fails n most quiet rule failed records same broken =
        let g = torn_h n most in
        let at_g = tear-at v table h i n i s armed is in
        torn n most (ap is_store_failed (ap (answered of) failed))
        (goes-by v table g i s t at_g e of storing (agent_answer v table g e track) None cell answer quiet (rule g (torn-run n most) at_g)
        (subst (λ o. ComesOut o s t cell answer) (sym (torn-armed n most)) (failed, records, same, broken)))

    write-goes : (o : Option Refusal) → ((why : Refusal) → o ≡ Some why → IsQuiet why) → Rule o → Answers o s t cell answer → Writes e r t (on (walk track h i))
    write-goes (Some why) quiet rule gives =
        plain (ap is_store_failed (ap (answered of) gives.0) ∙ (quiet why refl).1)
        (goes-by v table h i s t is e of storing (agent_answer v table h e track) (Some why) cell answer quiet (rule h run is) gives)
    write-goes None quiet rule stores = elim stores.outcome [
      | inl good ↦
          plain (ap is_store_failed (ap (answered of) good.0) ∙ storing.fine cell)
          (goes-by v table h i s t is e of storing (agent_answer v table h e track) None cell answer quiet (rule h run is)
          (subst (λ o. ComesOut o s t cell answer) (sym (unarmed i)) (good.0, good.1, stores.heard, good.2)))
      | inr bad ↦ elim bad.1 [
        | inl none ↦ fails 0 (omega arith) quiet rule bad.0 (none ∙ omega arith) stores.heard bad.2
        | inr whole ↦ fails 10 (omega arith) quiet rule bad.0 whole stores.heard bad.2
      ]
    ]

  start_steps : (answer : Result Cell Refusal) (cells : List Cell) → walk_after (Start i) (answered moving answer) i cells ≡ walked_on (starts answer) cells
  start_steps (Ok c) cells = ap (λ b. if b then cells ++ c ∷ [] else cells) (eq-eqb i i refl)
  start_steps (Err refusal) cells = refl

  finish_steps : (answer : Result Cell Refusal) (cells : List Cell) → walk_after (Finish i) (answered arrived answer) i cells ≡ cells
  finish_steps (Ok c) cells = refl
  finish_steps (Err refusal) cells = refl

  start-on : (t : State) (answer : Result Cell Refusal) → Answers (start_refusal table i track s) s t (next_cell track s) answer
      → Writes (Start i) (answered moving answer) t (walked_on (starts answer) (walk track h i))
  start-on t answer gives =
      write-goes (Start i) moving (start-stores i) refl (λ g r. refl) (λ r k. same_either (eqb i k && is_store_failed r) None) (next_cell track s) t answer (walked_on (starts answer))
      (start_steps answer)
      (start_refusal table i track s) (quiet-start table i track s) (λ g run_g is_g. start-rule v table g run_g i track s is_g) gives

  finish-on : (t : State) (answer : Result Cell Refusal) → Answers (finish_refusal s) s t (next_cell track s) answer → Writes (Finish i) (answered arrived answer) t (walk track h i)
  finish-on t answer gives =
      write-goes (Finish i) arrived (finish-stores i) refl (λ g r. refl) (λ r k. same_either (eqb i k && is_store_failed r) None) (next_cell track s) t answer (λ cells. cells) (finish_steps answer)
      (finish_refusal s) (quiet-finish s) (λ g run_g is_g. finish-rule v table g run_g i track s is_g) gives

  -- ---- what is said

  abbrev agents : ℕ
  agents = length table.tracks

  finished : finished_moves s ≡ history.done h i
  finished = done-is v table h run i track s is

  -- a broken agent says nothing
  say-refused : (t : State) → t ≡ s → s.broken ≡ true → Goes v table i track (spoken ++ []) t (walk track h i) h (record { event = Say i; answer = refused why.Broken } ∷ h)
  say-refused t same broken =
      one-event (Say i) (refused why.Broken) t [] (walk track h i) refl
      (sym (cond-true (history.is_broken h i) (refused why.Broken) _ (sym is.broken ∙ broken)))
      (subst (IsLeftBy v table (record { event = Say i; answer = refused why.Broken } ∷ h) i) (sym same) (say-at v table h i i s (refused why.Broken) is)) (λ k. refl) tt refl

  -- another says what it knows
  say-on : (t : State) (bytes : List ℕ) → t ≡ s → s.broken ≡ false → bytes ≡ bytes_said v table.number agents i (history.done h i) (known v table h i)
      → Spells table bytes (message_said v agents i (history.done h i) (known v table h i))
      → Goes v table i track (spoken ++ bytes ∷ []) t (walk track h i) h (record { event = Say i; answer = said (length spoken) bytes } ∷ h)
  say-on t bytes same whole spelling spells =
      one-event (Say i) (said (length spoken) bytes) t (bytes ∷ []) (walk track h i) refl
      (ap (λ n. said n bytes) (spelled-count table spoken (messages v table h) spelled) ∙ ap (said (length (messages v table h))) spelling
      ∙ sym (cond-false (history.is_broken h i) (refused why.Broken) _ (sym is.broken ∙ whole)))
      (subst (IsLeftBy v table (record { event = Say i; answer = said (length spoken) bytes } ∷ h) i) (sym same) (say-at v table h i i s _ is)) (λ k. refl) (spells, tt) refl

  abbrev Tells : Deed → State → List Cell → Type 0
  Tells deed t cells = (new : History) × IsRetoldBy spoken h i deed new × Goes v table i track (spoken ++ bytes_of deed) t cells h new

  says-on : (t : State) (answer : Result (List ℕ) Refusal) → v ≡ One → IsSaid table i s answer → t ≡ s → Tells (says answer) t (walk track h i)
  says-on t (Ok bytes) one is_said same =
      let spelling : bytes ≡ message_bytes table.number i (history.done h i) = is_said.1.spelled ∙ ap (message_bytes table.number i) finished in (
        record { event = Say i; answer = said (length spoken) bytes } ∷ h,
        refl,
        say-on t bytes same is_said.0
            (spelling ∙ ap (λ w. bytes_said w table.number agents i (history.done h i) (known v table h i)) (sym one))
            (subst (λ w. Spells table bytes (message_said w agents i (history.done h i) (known v table h i))) (sym one)
            (inl (history.done h i, refl, record { spelled = spelling }))),
      )
  says-on t (Err refusal) one is_said same = (
    record { event = Say i; answer = refused (why_of refusal) } ∷ h,
    refl,
    subst (λ w. Goes v table i track (spoken ++ []) t (walk track h i) h (record { event = Say i; answer = refused (why_of w) } ∷ h)) (sym is_said.1) (say-refused t same is_said.0),
  )

  -- the message of version 2, by the run
  whole-is : whole_message agents i (finished_moves s) (known_in s.heard) ≡ whole_message agents i (history.done h i) (known v table h i)
  whole-is =
      ap (λ d. whole_message agents i d (known_in s.heard)) finished
      ∙ same-message agents i (history.done h i) (known_in s.heard) (known v table h i) is.heard

  tells-on : (t : State) (answer : Result (List ℕ) TellFault) → v ≡ Two → IsToldBy table i s answer → t ≡ s → Tells (tells answer) t (walk track h i)
  tells-on t (Ok bytes) two is_told same =
      let telling = subst (λ m. IsTold table.number m bytes) whole-is is_told.1 in (
        record { event = Say i; answer = said (length spoken) bytes } ∷ h,
        refl,
        say-on t bytes same is_told.0
            (telling.spelled ∙ ap (λ w. bytes_said w table.number agents i (history.done h i) (known v table h i)) (sym two))
            (subst (λ w. Spells table bytes (message_said w agents i (history.done h i) (known v table h i))) (sym two) (inr telling)),
      )
  tells-on t (Err teller.Broken) two is_told same = (record { event = Say i; answer = refused why.Broken } ∷ h, refl, say-refused t same is_told)
  tells-on t (Err teller.OutOfMemory) two is_told same = (h, refl, no-event t same)

  -- ---- what is heard

  module _ (tellable : IsTellable table) (was_said : (m : ℕ) (message : Message) → slice_get (messages v table h) m ≡ Some message → WasSaid v table h m message)
      (fine : (bytes : List ℕ) (t : Telling) → BytesTell bytes t → any_fault bytes ≡ None) (one : (bytes : List ℕ) (t u : Telling) → BytesTell bytes t → BytesTell bytes u → t ≡ u)
      (t : State) (bytes : List ℕ) (m : ℕ) (said_before : slice_get spoken m ≡ Some bytes) (answer : Result (ℕ × ℕ) HearFault) where
    abbrev found : (message : Message) × (slice_get (messages v table h) m ≡ Some message) × Spells table bytes message
    found = spelled-at table spoken (messages v table h) m bytes spelled said_before

    abbrev message : Message
    message = found.0

    telling : BytesTell bytes (telling_in table message)
    telling = spelled-tells v table h m bytes message tellable (was_said m message found.1) found.2

    -- what the rules answer
    hear-rule : agent_answer v table h (Deliver i m) track
        ≡ (if history.is_broken h i then refused why.Broken else heard message.sender (max (known v table h i message.sender) (told message message.sender)))
    hear-rule = ap (deliver_answer v table h i) found.1

    abbrev Hears : Result (ℕ × ℕ) HearFault → Type 0
    Hears r = (new : History) × AddsDelivery spoken h i bytes (delivered r) new × Goes v table i track (spoken ++ []) t (walk track h i) h new

    hear-refused : s.broken ≡ true → Refuses s t answer fault.Broken → Hears answer
    hear-refused broken refuses = subst Hears (sym refuses.0) (
      record { event = Deliver i m; answer = refused why.Broken } ∷ h,
      (m, said_before, refl),
      one-event (Deliver i m) (refused why.Broken) t [] (walk track h i) refl
          (sym (hear-rule ∙ cond-true (history.is_broken h i) (refused why.Broken) _ (sym is.broken ∙ broken)))
          (subst (IsLeftBy v table (record { event = Deliver i m; answer = refused why.Broken } ∷ h) i) (sym refuses.1) (deliver-refused-at v table h i m i s (refused why.Broken) refl is))
          (λ k. refl) tt refl,
    )

    -- what is then known of the sender
    abbrev news : Answer
    news = heard message.sender (known_in t.heard message.sender)

    kept : s.broken ≡ false → (r : Result (ℕ × ℕ) HearFault) → Keeps s t message r → Hears r
    kept whole (Ok pair) keeps = subst (λ p. Hears (Ok p)) (sym keeps.0) (
      record { event = Deliver i m; answer = news } ∷ h,
      (m, said_before, refl),
      one-event (Deliver i m) news t [] (walk track h i) refl
          (ap (heard message.sender) (raised-known s.heard t.heard message.entries keeps.1 message.sender ∙ ap (λ n. max n (told message message.sender)) (is.heard message.sender))
          ∙ sym (hear-rule ∙ cond-false (history.is_broken h i) (refused why.Broken) _ (sym is.broken ∙ whole)))
          (deliver-at v table h i m message s t news refl found.1 is keeps.2 keeps.3 keeps.1) (λ k. refl) tt refl,
    )
    kept whole (Err refusal) keeps = subst (λ w. Hears (Err w)) (sym keeps.0) (h, refl, no-event t keeps.2)

    abbrev Hearing : Option HearFault → Type 0
    Hearing o = MatchOption o ((u : Telling) × BytesTell bytes u × IsTaken table s t u answer) (Refuses s t answer)

    abbrev refusal_by : Bool → Option MsgFault → Option HearFault
    refusal_by broken o = if broken then Some fault.Broken else option_map (λ x. fault.Message x) o

    abbrev Taking : Option HearFault → Type 0
    Taking o = MatchOption o (Keeps s t message answer) (Refuses s t answer)

    hear-on : IsHeard table s t bytes answer → Hears answer
    hear-on hears_it = by_broken s.broken refl where
      by_broken : (broken : Bool) → s.broken ≡ broken → Hears answer
      by_broken true broken = hear-refused broken (subst Hearing (ap (λ b. refusal_by b (any_fault bytes)) broken) hears_it)
      by_broken false whole =
          let takes = subst Hearing (ap (λ b. refusal_by b (any_fault bytes)) whole ∙ ap (refusal_by false) (fine bytes (telling_in table message) telling)) hears_it in
          let same = one bytes takes.0 (telling_in table message) takes.1 telling in
          let taken = subst (λ u. IsTaken table s t u answer) same takes.2 in
          kept whole answer (subst Taking (none-refused-by v table h m table.number message refl (was_said m message found.1)) taken)

  -- ---- every deed

  open-on : (t : State) (what : Held) (count : ℕ) → what ≡ held_by_tape track s → count ≡ finished_moves s → t ≡ record { records = s.records; heard = []; broken = false }
      → Goes v table i track (spoken ++ []) t (walked_on (opens what count) (walk track h i)) h (record { event = Restart i; answer = stood what count } ∷ h)
  open-on t what count stands counts same =
      one-event (Restart i) (stood what count) t [] (walked_on (opens what count) (walk track h i)) refl
      (ap (λ w. stood w count) stands ∙ ap (stood (held_by_tape track s)) counts ∙ sym (restart-rule v table h run i track s is))
      (restart-at v table h i s t (stood what count) (opened-stood what count) is (ap (λ x. x.records) same) (ap (λ x. x.heard) same) (ap (λ x. x.broken) same))
      (λ k. same_either (eqb i k && is_opened (stood what count)) None) tt (steps what)
    where
      steps : (w : Held) → walk_after (Restart i) (stood w count) i (walk track h i) ≡ walked_on (opens w count) (walk track h i)
      steps (At u) = refl
      steps (Between u c) = own_test i (length (walk track h i) == count + 1) (walk track h i ++ c ∷ []) (walk track h i)

  pub deed-on : IsTellable table → ((m : ℕ) (message : Message) → slice_get (messages v table h) m ≡ Some message → WasSaid v table h m message)
      → ((bytes : List ℕ) (t : Telling) → BytesTell bytes t → any_fault bytes ≡ None) → ((bytes : List ℕ) (t u : Telling) → BytesTell bytes t → BytesTell bytes u → t ≡ u)
      → (deed : Deed) (t : State) → IsEvent v spoken deed → Does table i track s deed t → Tells deed t (walked_on deed (walk track h i))
  deed-on tellable was_said fine one (opens what count) t honest does = (record { event = Restart i; answer = stood what count } ∷ h, refl, open-on t what count does.0 does.1 does.2)
  deed-on tellable was_said fine one (starts answer) t honest does = start-on t answer does
  deed-on tellable was_said fine one (finishes answer) t honest does = finish-on t answer does
  deed-on tellable was_said fine one (says answer) t honest does = says-on t answer honest does.0 does.1
  deed-on tellable was_said fine one (tells answer) t honest does = tells-on t answer honest does.0 does.1
  deed-on tellable was_said fine one (hears bytes answer) t honest does = hear-on tellable was_said fine one t bytes honest.0 honest.1 answer does
  deed-on tellable was_said fine one (holds what count) t honest does = (h, refl, no-event t does.2)
  deed-on tellable was_said fine one (looks begun most count) t honest does = (h, refl, no-event t does.2)
  deed-on tellable was_said fine one ends t honest does = (h, refl, no-event t does)
  deed-on tellable was_said fine one stops t honest does = (h, refl, no-event t does)
  deed-on tellable was_said fine one ends_starting t honest does = start-on t (Err StoreFailed) does
  deed-on tellable was_said fine one ends_finishing t honest does = finish-on t (Err StoreFailed) does
