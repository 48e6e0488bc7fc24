-- How a runner goes on after a message is delivered.
use Rattle.std.proofs.Common.{◌≡◌, ℕ, zero, suc, ◌<◌, ◌≤◌, Bool, true, false, List, [], ◌∷◌, length, set, max, Some, None, Result, Ok, Err, inl, inr, refl, sym, ap, subst, ◌∙◌, arith}
use Rattle.std.specs.Prelude.{◌⊎◌, Option, option_map, if◌then◌else◌, slice_get, MatchBool, MatchOption, MatchResult, IfOk, OnErr}
use Rattle.std.proofs.lemmas.List.{append-nil}
use Rattle.std.proofs.lemmas.Option.{slice_get-get_or, slice_get_past, same_Some, none-some}
use Rattle.model.specs.declared.entry.Entry.{Entry}
use Rattle.model.specs.declared.event.Event.TheVariants.{Deliver}
use Rattle.model.specs.declared.msg_fault.MsgFault.TheVariants.{BadEntry}
use Rattle.model.specs.declared.version.Version.{Version}
use Rattle.model.specs.declared.version.Version.TheVariants.{Two}
use Rattle.model.specs.declared.why.Why.{Why}
use Rattle.model.specs.declared.why.Why.TheVariants as why
use Rattle.model.specs.History.{Answer, History, heard, refused, done, messages, known}
use Rattle.model.specs.Messages.{Message, AreRising, told, own_message, entries_from, message_said}
use Rattle.model.specs.Rules.{deliver_answer, answer_by, answer, IsRun}
use Rattle.model.specs.Speech.{WasSaid}
use Rattle.model.specs.Timetable.{Track, Timetable, track_of}
use Rattle.agent.specs.Agents.{AgentOn, state_of, HearsOf, HearsFrom}
use Rattle.agent.specs.Tellings.{Telling}
use Rattle.agent.specs.Counters.{known_in, Raises, TellsOfNew}
use Rattle.agent.specs.Decoding.{wrong_entry}
use Rattle.agent.specs.States.{State, Keeps, Refuses, telling_refusal, IsTaken}
use Rattle.agent.specs.declared.finished.Finished.{Finished}
use Rattle.agent.specs.declared.refusal.HearFault.{HearFault}
use Rattle.agent.specs.declared.refusal.HearFault.TheVariants as fault
use Rattle.agent.specs.declared.counted_tape.CountedTape.{CountedTape}
use Rattle.agent.specs.Replies.{delivered}
use Rattle.agent.specs.CountedTape.{counted_state}
use Rattle.fleet.specs.Laws.Speaking.{raised-known}
use Rattle.fleet.specs.Laws.Telling.{none-refused-by}
use Rattle.executor.specs.Standing.{RunnerState, IsMember, StandsAt, TakesMemory}
use Rattle.executor.proofs.GoesLemmas.{no_track, one-agent}
use Rattle.executor.proofs.MessageLemmas.{deliver-goes, deliver-refused}
use Rattle.depgraph.specs.AgentParts.{IsPartOf}

-- ---- what an agent answers to a message of a run

-- an agent that refuses is as it was
same-agent : (a b : AgentOn CountedTape) → b ≡ record a { heard = b.heard } → state_of counted_state b ≡ state_of counted_state a → b ≡ a
same-agent a b same state = same ∙ ap (λ l. record a { heard = l }) (ap (λ s. s.heard) state)

-- what a hearing gives: a broken agent refuses, another has no memory where it has to hear of somebody new, or all entries raise their counters
abbrev pub Gives : AgentOn CountedTape → AgentOn CountedTape → Message → Result (ℕ × ℕ) HearFault → Type 0
Gives a b message answer =
    ((a.broken ≡ true) × (answer ≡ Err fault.Broken) × (b ≡ a))
    ⊎ ((a.broken ≡ false) × (answer ≡ Err fault.OutOfMemory) × TellsOfNew a.heard message.entries × (b ≡ a))
    ⊎ ((a.broken ≡ false) × (answer ≡ Ok (message.sender, known_in b.heard message.sender)) × Raises a.heard b.heard message.entries × (b ≡ record a { heard = b.heard }))

module _ (table : Timetable) (a b : AgentOn CountedTape) (message : Message) (answer : Result (ℕ × ℕ) HearFault) (same : b ≡ record a { heard = b.heard }) where
  kept : a.broken ≡ false → (r : Result (ℕ × ℕ) HearFault) → Keeps (state_of counted_state a) (state_of counted_state b) message r → Gives a b message r
  kept whole (Ok pair) keeps = inr (inr (whole, ap (λ p. Ok p) keeps.0, keeps.1, same))
  kept whole (Err why) keeps = inr (inl (whole, ap (λ w. Err w) keeps.0, keeps.1, same-agent a b same keeps.2))

  taken : a.broken ≡ false → (plan : ℕ) → telling_refusal table (record { plan = plan; message = message }) ≡ None
      → IsTaken table (state_of counted_state a) (state_of counted_state b) (record { plan = plan; message = message }) answer → Gives a b message answer
  taken whole plan none takes =
      kept whole answer (subst (λ o. MatchOption o (Keeps (state_of counted_state a) (state_of counted_state b) message answer) (Refuses (state_of counted_state a) (state_of counted_state b) answer))
      none takes)

  refuses-broken : a.broken ≡ true → Refuses (state_of counted_state a) (state_of counted_state b) answer fault.Broken → Gives a b message answer
  refuses-broken broken refuses = inl (broken, refuses.0, same-agent a b same refuses.1)

-- of version 1
pub from-gives : (table : Timetable) (a b : AgentOn CountedTape) (f : Finished) (answer : Result (ℕ × ℕ) HearFault) → telling_refusal table
    (record { plan = f.plan; message = own_message f.from f.done }) ≡ None
    → HearsFrom counted_state table a b f answer → Gives a b (own_message f.from f.done) answer
from-gives table a b f answer none hears = by_broken a.broken refl where
  by_broken : (broken : Bool) → a.broken ≡ broken → Gives a b (own_message f.from f.done) answer
  by_broken true broken =
      refuses-broken table a b (own_message f.from f.done) answer hears.same broken
      (subst (λ x. MatchBool x (Refuses (state_of counted_state a) (state_of counted_state b) answer fault.Broken)
      (IsTaken table (state_of counted_state a) (state_of counted_state b) (record { plan = f.plan; message = own_message f.from f.done }) answer)) broken hears.state)
  by_broken false whole =
      taken table a b (own_message f.from f.done) answer hears.same whole f.plan none
      (subst (λ x. MatchBool x (Refuses (state_of counted_state a) (state_of counted_state b) answer fault.Broken)
      (IsTaken table (state_of counted_state a) (state_of counted_state b) (record { plan = f.plan; message = own_message f.from f.done }) answer)) whole hears.state)

-- of version 2
abbrev Hearing : Timetable → AgentOn CountedTape → AgentOn CountedTape → Message → Result (ℕ × ℕ) HearFault → Option HearFault → Type 0
Hearing table a b message answer o =
    MatchOption o (IsTaken table (state_of counted_state a) (state_of counted_state b) (record { plan = table.number; message = message }) answer)
    (Refuses (state_of counted_state a) (state_of counted_state b) answer)

abbrev refusal_by : Message → Bool → Option HearFault
refusal_by message t = if t then Some fault.Broken else option_map (λ number. fault.Message (BadEntry number)) (wrong_entry 0 0 message.entries)

pub of-gives : (table : Timetable) (a b : AgentOn CountedTape) (message : Message) (answer : Result (ℕ × ℕ) HearFault) → wrong_entry 0 0 message.entries ≡ None
    → telling_refusal table (record { plan = table.number; message = message }) ≡ None → HearsOf counted_state table a b message answer → Gives a b message answer
of-gives table a b message answer right none hears = by_broken a.broken refl where
  by_broken : (broken : Bool) → a.broken ≡ broken → Gives a b message answer
  by_broken true broken = refuses-broken table a b message answer hears.same broken (subst (Hearing table a b message answer) (ap (refusal_by message) broken) hears.state)
  by_broken false whole =
      taken table a b message answer hears.same whole table.number none
      (subst (Hearing table a b message answer) (ap (refusal_by message) whole ∙ ap (option_map (λ number. fault.Message (BadEntry number))) right) hears.state)

-- ---- where memory is wanting

still : (answer : Result (ℕ × ℕ) HearFault) → delivered answer ≡ None → (old new : State) (message : Message) → Keeps old new message answer → new ≡ old
still (Ok pair) none old new message keeps = absurd (none-some _ (sym none))
still (Err why) none old new message keeps = keeps.2

still-taken : (table : Timetable) (old new : State) (t : Telling) (answer : Result (ℕ × ℕ) HearFault) → delivered answer ≡ None → IsTaken table old new t answer → new ≡ old
still-taken table old new t answer none takes = by (telling_refusal table t) takes where
  by : (o : Option HearFault) → MatchOption o (Keeps old new t.message answer) (Refuses old new answer) → new ≡ old
  by None keeps = still answer none old new t.message keeps
  by (Some why) refuses = refuses.1

-- an agent that lacks memory for a message is as it was
pub still-from : (table : Timetable) (a b : AgentOn CountedTape) (f : Finished) (answer : Result (ℕ × ℕ) HearFault) → delivered answer ≡ None → HearsFrom counted_state table a b f answer → b ≡ a
still-from table a b f answer none hears = same-agent a b hears.same (by a.broken hears.state) where
  by : (broken : Bool) → MatchBool broken (Refuses (state_of counted_state a) (state_of counted_state b) answer fault.Broken)
      (IsTaken table (state_of counted_state a) (state_of counted_state b) (record { plan = f.plan; message = own_message f.from f.done }) answer) → state_of counted_state b ≡ state_of counted_state a
  by true refuses = refuses.1
  by false takes = still-taken table (state_of counted_state a) (state_of counted_state b) (record { plan = f.plan; message = own_message f.from f.done }) answer none takes

pub still-of : (table : Timetable) (a b : AgentOn CountedTape) (message : Message) (answer : Result (ℕ × ℕ) HearFault) → delivered answer ≡ None → HearsOf counted_state table a b message answer → b ≡
    a
still-of table a b message answer none hears = same-agent a b hears.same (by (refusal_by message a.broken) hears.state) where
  by : (o : Option HearFault) → Hearing table a b message answer o → state_of counted_state b ≡ state_of counted_state a
  by None takes = still-taken table (state_of counted_state a) (state_of counted_state b) (record { plan = table.number; message = message }) answer none takes
  by (Some why) refuses = refuses.1

-- what was there is written again
pub set-same : {X : Type 0} (l : List X) (i : ℕ) (x : X) → slice_get l i ≡ Some x → set l i x ≡ l
set-same [] i x there = refl
set-same (y ∷ l) zero x there = ap (λ z. z ∷ l) (same_Some x y (sym there))
set-same (y ∷ l) (suc i) x there = ap (λ k. y ∷ k) (set-same l i x there)

-- ---- what the runner's answer is

module _ (r : RunnerState) (h : History) (stands : StandsAt r h) (i : ℕ) (within : i < length r.agents) (m : ℕ) where
  known_track : (track : Track) × (track_of r.timetable i ≡ Some track)
  known_track = (let count = stands.count in (_, slice_get-get_or r.timetable.tracks i no_track (omega (arith, count, within))))

  rule-deliver : answer r.version r.timetable h (Deliver i m) ≡ deliver_answer r.version r.timetable h i (slice_get (messages r.version r.timetable h) m)
  rule-deliver = ap (answer_by r.version r.timetable h (Deliver i m)) known_track.1

  said : slice_get (messages r.version r.timetable h) m ≡ slice_get r.messages m
  said = ap (λ l. slice_get l m) (sym stands.messages)

  -- a delivery that is refused leaves every agent where it is
  stays : (w : Why) → refused w ≡ answer r.version r.timetable h (Deliver i m) → StandsAt r (record { event = Deliver i m; answer = refused w } ∷ h)
  stays w rule = record {
    conflict_free = stands.conflict_free;
    run = (rule, stands.run);
    count = stands.count;
    members = λ k b at. deliver-refused r.version r.timetable h i m k b (refused w) refl (stands.members k b at);
    messages = stands.messages ∙ sym (append-nil (messages r.version r.timetable h));
  }

  pub no-message-on : length r.messages ≤ m
      → (refused why.NoSuchMessage ≡ answer r.version r.timetable h (Deliver i m)) × StandsAt r (record { event = Deliver i m; answer = refused why.NoSuchMessage } ∷ h)
  no-message-on past =
      let none = said ∙ slice_get_past r.messages m past in
      let rule = sym (rule-deliver ∙ ap (deliver_answer r.version r.timetable h i) none) in
      (rule, stays why.NoSuchMessage rule)

  module _ (a : AgentOn CountedTape) (there : slice_get r.agents i ≡ Some a) (message : Message) (kept_there : slice_get r.messages m ≡ Some message) where
    is : IsMember r.version r.timetable h i a
    is = stands.members i a there

    pub said-there : slice_get (messages r.version r.timetable h) m ≡ Some message
    said-there = said ∙ kept_there

    abbrev hearing : Bool → Answer
    hearing b = if b then refused why.Broken else heard message.sender (max (known r.version r.timetable h i message.sender) (told message message.sender))

    rule-message : answer r.version r.timetable h (Deliver i m) ≡ deliver_answer r.version r.timetable h i (Some message)
    rule-message = rule-deliver ∙ ap (deliver_answer r.version r.timetable h i) said-there

    -- a broken agent hears nothing
    broken_on : a.broken ≡ true → (refused why.Broken ≡ answer r.version r.timetable h (Deliver i m)) × StandsAt r (record { event = Deliver i m; answer = refused why.Broken } ∷ h)
    broken_on broken =
        let rule = sym (rule-message ∙ ap hearing (sym is.stands.broken ∙ broken)) in
        (rule, stays why.Broken rule)

    -- another knows the greater numbers then
    heard_on : (b : AgentOn CountedTape) → a.broken ≡ false → b ≡ record a { heard = b.heard } → Raises a.heard b.heard message.entries
        → (heard message.sender (known_in b.heard message.sender) ≡ answer r.version r.timetable h (Deliver i m))
        × StandsAt (record r { agents = set r.agents i b }) (record { event = Deliver i m; answer = heard message.sender (known_in b.heard message.sender) } ∷ h)
    heard_on b whole same raises =
        let rule = ap (heard message.sender) (raised-known a.heard b.heard message.entries raises message.sender)
        ∙ ap (λ k. heard message.sender (max k (told message message.sender))) (is.stands.heard message.sender)
        ∙ sym (rule-message ∙ ap hearing (sym is.stands.broken ∙ whole)) in (
          rule,
          one-agent r h (Deliver i m) i b _ stands refl within rule (deliver-goes r.version r.timetable h i m message a b _ refl said-there is same raises) refl,
        )

    -- ---- what the agent gives for a message of the run

    module _ (of_runs : (v : Version) (table : Timetable) (g : History) (n : ℕ) (x : Message) → IsRun v table g → slice_get (messages v table g) n ≡ Some x → WasSaid v table g n x)
        (b : AgentOn CountedTape) (result : Result (ℕ × ℕ) HearFault) where
      was : WasSaid r.version r.timetable h m message
      was = of_runs r.version r.timetable h m message stands.run said-there

      -- at version 1
      pub own-gives : (f : Finished) → message ≡ own_message f.from f.done → f.plan ≡ r.timetable.number → ((tt : Timetable) → IsPartOf tt a.part → HearsFrom counted_state tt a b f result) → Gives a b
          message result
      own-gives f same plan hears =
          subst (λ x. Gives a b x result) (sym same)
          (from-gives r.timetable a b f result (none-refused-by r.version r.timetable h m f.plan (own_message f.from f.done) plan (subst (WasSaid r.version r.timetable h m) same was))
          (hears r.timetable is.part))

      -- at version 2
      pub told-gives : r.version ≡ Two → ((f : ℕ → ℕ) (first count : ℕ) → AreRising first (entries_from f first count)) → ((es : List Entry) → AreRising 0 es → wrong_entry 0 0 es ≡ None)
          → ((tt : Timetable) → IsPartOf tt a.part → HearsOf counted_state tt a b message result) → Gives a b message result
      told-gives version of_agents right hears =
          of-gives r.timetable a b message result
          (right message.entries (subst (λ x. AreRising 0 x.entries)
          (sym (was.tells ∙ ap (λ v. message_said v (length r.timetable.tracks) was.agent (done was.earlier was.agent) (known r.version r.timetable was.earlier was.agent)) version))
          (of_agents _ 0 (length r.timetable.tracks))))
          (none-refused-by r.version r.timetable h m r.timetable.number message refl was) (hears r.timetable is.part)

    -- ---- the delivery of a message that there is

    pub delivered-on : (b : AgentOn CountedTape) (result : Result (ℕ × ℕ) HearFault) (x : Answer) → Gives a b message result → delivered result ≡ Some x
        → (x ≡ answer r.version r.timetable h (Deliver i m)) × StandsAt (record r { agents = set r.agents i b }) (record { event = Deliver i m; answer = x } ∷ h)
    delivered-on b result x given answered =
        elim given [
          | inl broken ↦
              let found = broken_on broken.0 in
              let same : refused why.Broken ≡ x = same_Some (refused why.Broken) x (sym (ap delivered broken.1) ∙ answered) in
              subst (λ y. (y ≡ answer r.version r.timetable h (Deliver i m)) × StandsAt (record r { agents = set r.agents i b }) (record { event = Deliver i m; answer = y } ∷ h)) same
              (subst (λ l. (refused why.Broken ≡ answer r.version r.timetable h (Deliver i m)) × StandsAt (record r { agents = l }) (record { event = Deliver i m; answer = refused why.Broken } ∷ h))
              (sym (ap (set r.agents i) broken.2 ∙ set-same r.agents i a there)) found)
          | inr other ↦ elim other [
            | inl wanting ↦ absurd (none-some x (sym (ap delivered wanting.1) ∙ answered))
            | inr hears ↦
                let found = heard_on b hears.0 hears.3 hears.2 in
                let same = same_Some (heard message.sender (known_in b.heard message.sender)) x (sym (ap delivered hears.1) ∙ answered) in
                subst (λ y. (y ≡ answer r.version r.timetable h (Deliver i m)) × StandsAt (record r { agents = set r.agents i b }) (record { event = Deliver i m; answer = y } ∷ h)) same found
          ]
        ]

    -- what lacks memory for it tells of somebody new
    pub wants-on : (b : AgentOn CountedTape) (result : Result (ℕ × ℕ) HearFault) → Gives a b message result → delivered result ≡ None
        → TakesMemory r.version r.timetable h (Deliver i m)
    wants-on b result given none =
        elim given [
          | inl broken ↦ absurd (none-some (refused why.Broken) (sym none ∙ ap delivered broken.1))
          | inr other ↦ elim other [
            | inl wanting ↦ (
                let tells = wanting.2 in
                let count = stands.count in (
                  omega (arith, count, within),
                  sym is.stands.broken ∙ wanting.0,
                  message,
                  said-there,
                  (tells.0, tells.1, tells.2, tells.3, sym (is.heard_of tells.1.agent) ∙ tells.4),
                )
                )
            | inr hears ↦ absurd (none-some (heard message.sender (known_in b.heard message.sender)) (sym none ∙ ap delivered hears.1))
          ]
        ]

-- what holds of each answer of a call holds of the one that it gave
pub each-ok : {X Y : Type 0} (result : Result X Y) (P G : X → Type 0) (Q : Y → Type 0) → ((x : X) → P x → G x) → MatchResult result P Q → IfOk result G
each-ok (Ok x) P G Q all given = all x given
each-ok (Err y) P G Q all given = tt

-- and of each refusal
pub each-err : {X Y : Type 0} (result : Result X Y) (P : X → Type 0) (Q : Y → Type 0) (G : Type 0) → ((y : Y) → Q y → G) → MatchResult result P Q → OnErr result G
each-err (Ok x) P Q G all given = tt
each-err (Err y) P Q G all given = all y given
