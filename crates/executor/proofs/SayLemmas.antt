-- How a runner goes on after a message is said.
use Rattle.std.proofs.Common.{◌≡◌, ℕ, ◌++◌, true, false, List, [], ◌∷◌, length, Some, Result, Ok, Err, sym, ap, ◌∙◌, arith}
use Rattle.std.specs.Prelude.{if◌then◌else◌, slice_get, OnErr}
use Rattle.std.proofs.lemmas.List.{append-nil}
use Rattle.std.proofs.lemmas.Option.{slice_get-get_or, slice_get_within}
use Rattle.model.specs.declared.event.Event.TheVariants.{Say}
use Rattle.model.specs.declared.version.Version.TheVariants.{One, Two}
use Rattle.model.specs.declared.why.Why.TheVariants as why
use Rattle.model.specs.History as history
use Rattle.model.specs.History.{History, refused, said, messages, known}
use Rattle.model.specs.Messages.{Message, own_message, whole_message, message_said, message_bytes, told_bytes, bytes_said}
use Rattle.model.specs.Rules.{say_answer, answer_by, answer}
use Rattle.model.specs.Timetable.{Track, track_of}
use Rattle.agent.specs.Agents.{AgentOn, state_of}
use Rattle.agent.specs.Counters.{known_in}
use Rattle.agent.specs.States as states
use Rattle.agent.specs.declared.counted_tape.CountedTape.{CountedTape}
use Rattle.agent.specs.CountedTape.{counted_state}
use Rattle.fleet.specs.Laws.Rules.{done-is}
use Rattle.fleet.specs.Laws.Speaking.{same-message}
use Rattle.executor.specs.Standing.{RunnerState, IsMember, StandsAt, TakesMemory}
use Rattle.executor.specs.Code.Telling.{message_told}
use Rattle.executor.proofs.GoesLemmas.{no_track}
use Rattle.executor.proofs.MessageLemmas.{say-goes}
use Rattle.depgraph.specs.Laws.AgentParts.{count-agents}

module _ (r : RunnerState) (h : History) (stands : StandsAt r h) (i : ℕ) (a : AgentOn CountedTape) (there : slice_get r.agents i ≡ Some a) where
  is : IsMember r.version r.timetable h i a
  is = stands.members i a there

  is_there : (track : Track) × (track_of r.timetable i ≡ Some track)
  is_there = (let count = stands.count in let within = slice_get_within r.agents i a there in (_, slice_get-get_or r.timetable.tracks i no_track (omega (arith, count, within))))

  rule-say : answer r.version r.timetable h (Say i) ≡ say_answer r.version r.timetable h i
  rule-say = ap (answer_by r.version r.timetable h (Say i)) is_there.1

  -- what is said by the rules
  abbrev due_message : Message
  due_message = message_said r.version (length r.timetable.tracks) i (history.done h i) (known r.version r.timetable h i)

  abbrev due_bytes : List ℕ
  due_bytes = bytes_said r.version r.timetable.number (length r.timetable.tracks) i (history.done h i) (known r.version r.timetable h i)

  -- a broken agent says nothing
  pub say-refused-on : a.broken ≡ true → (refused why.Broken ≡ answer r.version r.timetable h (Say i)) × StandsAt r (record { event = Say i; answer = refused why.Broken } ∷ h)
  say-refused-on broken =
      let rule = sym (rule-say ∙ ap (λ b. if b then refused why.Broken else said (length (messages r.version r.timetable h)) due_bytes) (sym is.stands.broken ∙ broken)) in (
        rule,
        record {
          conflict_free = stands.conflict_free;
          run = (rule, stands.run);
          count = stands.count;
          members = λ k b at. say-goes r.version r.timetable h i k b (refused why.Broken) (stands.members k b at);
          messages = stands.messages ∙ sym (append-nil (messages r.version r.timetable h));
        },
      )

  -- another takes memory for it
  pub say-takes : a.broken ≡ false → TakesMemory r.version r.timetable h (Say i)
  say-takes whole = (let count = stands.count in let within = slice_get_within r.agents i a there in omega (arith, count, within), sym is.stands.broken ∙ whole)

  -- and says what it knows
  said_on : (message : Message) (bytes : List ℕ) → a.broken ≡ false → message ≡ due_message → bytes ≡ due_bytes
      → (said (length r.messages) bytes ≡ answer r.version r.timetable h (Say i))
      × StandsAt (record r { messages = r.messages ++ message ∷ [] }) (record { event = Say i; answer = said (length r.messages) bytes } ∷ h)
  said_on message bytes whole same spelled =
      let rule = ap (λ l. said (length l) bytes) stands.messages ∙ ap (said (length (messages r.version r.timetable h))) spelled
      ∙ sym (rule-say ∙ ap (λ b. if b then refused why.Broken else said (length (messages r.version r.timetable h)) due_bytes) (sym is.stands.broken ∙ whole)) in (
        rule,
        record {
          conflict_free = stands.conflict_free;
          run = (rule, stands.run);
          count = stands.count;
          members = λ k b at. say-goes r.version r.timetable h i k b _ (stands.members k b at);
          messages = ap (λ l. l ++ message ∷ []) stands.messages ∙ ap (λ x. messages r.version r.timetable h ++ x ∷ []) same;
        },
      )

  done_is : states.finished_moves (state_of counted_state a) ≡ history.done h i
  done_is = done-is r.version r.timetable h stands.run i is_there.0 (state_of counted_state a) is.stands

  -- at version 1 how many moves it has finished
  pub own-on : (sender done : ℕ) → r.version ≡ One → a.broken ≡ false → sender ≡ i → done ≡ states.finished_moves (state_of counted_state a)
      → (said (length r.messages) (message_bytes r.timetable.number a.part.agent done) ≡ answer r.version r.timetable h (Say i))
      × StandsAt (record r { messages = r.messages ++ own_message sender done ∷ [] }) (record { event = Say i; answer = said (length r.messages) (message_bytes r.timetable.number a.part.agent done) }
      ∷ h)
  own-on sender done version whole own is_done =
      let finished = is_done ∙ done_is in
      said_on (own_message sender done) (message_bytes r.timetable.number a.part.agent done) whole
      (ap (λ k. own_message k done) own ∙ ap (own_message i) finished
      ∙ ap (λ v. message_said v (length r.timetable.tracks) i (history.done h i) (known r.version r.timetable h i)) (sym version))
      (ap (λ k. message_bytes r.timetable.number k done) is.id ∙ ap (message_bytes r.timetable.number i) finished
      ∙ ap (λ v. bytes_said v r.timetable.number (length r.timetable.tracks) i (history.done h i) (known r.version r.timetable h i)) (sym version))

  -- the message of version 2, by the agents of the timetable
  abbrev pub message_by : Message
  message_by = whole_message (length r.timetable.tracks) a.part.agent (states.finished_moves (state_of counted_state a)) (known_in a.heard)

  told_is : message_told a ≡ message_by
  told_is = ap (λ n. whole_message n a.part.agent (states.finished_moves (state_of counted_state a)) (known_in a.heard)) (count-agents r.timetable a.part is.part)

  whole_is : message_by ≡ whole_message (length r.timetable.tracks) i (history.done h i) (known r.version r.timetable h i)
  whole_is =
      ap (λ k. whole_message (length r.timetable.tracks) k (states.finished_moves (state_of counted_state a)) (known_in a.heard)) is.id
      ∙ ap (λ d. whole_message (length r.timetable.tracks) i d (known_in a.heard)) done_is
      ∙ same-message (length r.timetable.tracks) i (history.done h i) (known_in a.heard) (known r.version r.timetable h i) is.stands.heard

  -- at version 2 all that it knows
  pub told-on : r.version ≡ Two → a.broken ≡ false
      → (said (length r.messages) (told_bytes r.timetable.number message_by) ≡ answer r.version r.timetable h (Say i))
      × StandsAt (record r { messages = r.messages ++ message_told a ∷ [] }) (record { event = Say i; answer = said (length r.messages) (told_bytes r.timetable.number message_by) } ∷ h)
  told-on version whole =
      said_on (message_told a) (told_bytes r.timetable.number message_by) whole
      (told_is ∙ whole_is ∙ ap (λ v. message_said v (length r.timetable.tracks) i (history.done h i) (known r.version r.timetable h i)) (sym version))
      (ap (told_bytes r.timetable.number) whole_is ∙ ap (λ v. bytes_said v r.timetable.number (length r.timetable.tracks) i (history.done h i) (known r.version r.timetable h i)) (sym version))

-- what holds in any case holds where a call gives a refusal
pub err-so : {X Y : Type 0} (result : Result X Y) (P : Type 0) → P → OnErr result P
err-so (Ok x) P holds = tt
err-so (Err y) P holds = holds
