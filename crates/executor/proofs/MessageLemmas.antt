-- Where an agent is after a message was said or delivered.
use Rattle.std.proofs.Common.{◌≡◌, ℕ, Bool, true, false, List, ◌∷◌, max, Some, refl, sym, ap, subst, ◌∙◌}
use Rattle.std.specs.Prelude.{◌==◌, ◌&&◌, ◌||◌, if◌then◌else◌, is_some, slice_get}
use Rattle.model.specs.declared.entry.Entry.{Entry}
use Rattle.model.specs.declared.event.Event.TheVariants.{Say, Deliver}
use Rattle.model.specs.declared.version.Version.{Version}
use Rattle.model.specs.History.{Answer, History, is_heard, messages}
use Rattle.model.specs.Messages.{Message, told_by}
use Rattle.model.specs.Timetable.{Timetable}
use Rattle.agent.specs.declared.counters.Counter.{Counter}
use Rattle.agent.specs.Agents.{AgentOn, state_of}
use Rattle.agent.specs.Tape.{whole_records}
use Rattle.agent.specs.Counters.{heard_of, known_in, is_heard_of, tells_of, Raises}
use Rattle.agent.specs.declared.counted_tape.CountedTape.{CountedTape}
use Rattle.agent.specs.CountedTape.{counted_state, counted_armed}
use Rattle.depgraph.specs.AgentParts.{IsPartOf}
use Rattle.fleet.specs.Laws.Speaking.{say-at, unheard_test, deliver-refused-at, deliver-at}
use Rattle.fleet.specs.Laws.Storing.{own_test}
use Rattle.executor.specs.Hearing.{message_tells_of, has_heard_of}
use Rattle.executor.specs.Standing.{IsMember}
use Rattle.executor.proofs.StoreLemmas.{counts_on, same_tape}

-- a message that is said leaves every agent where it is
pub say-goes : (v : Version) (table : Timetable) (h : History) (i k : ℕ) (a : AgentOn CountedTape) (r : Answer) → IsMember v table h k a → IsMember v table (record { event = Say i; answer = r } ∷ h) k
    a
say-goes v table h i k a r is = record {
  part = is.part;
  id = is.id;
  stands = say-at v table h i k (state_of counted_state a) r is.stands;
  counts = is.counts;
  armed = is.armed;
  heard_of = is.heard_of;
}

-- whoever entries tell of was heard of then
pub raised-heard : (old new : List Counter) (es : List Entry) → Raises old new es → (j : ℕ) → is_heard_of new j ≡ (tells_of es j || is_heard_of old j)
raised-heard old new es raises j = ap is_some (raises j) ∙ by_test (tells_of es j) where
  by_test : (b : Bool) → is_some (if b then Some (max (known_in old j) (told_by es j)) else heard_of old j) ≡ (b || is_heard_of old j)
  by_test true = refl
  by_test false = refl

-- ---- deliveries

-- a message that is refused leaves the agent where it is
pub deliver-refused : (v : Version) (table : Timetable) (h : History) (i m k : ℕ) (a : AgentOn CountedTape) (r : Answer) → is_heard r ≡ false → IsMember v table h k a
    → IsMember v table (record { event = Deliver i m; answer = r } ∷ h) k a
deliver-refused v table h i m k a r unheard is = record {
  part = is.part;
  id = is.id;
  stands = deliver-refused-at v table h i m k (state_of counted_state a) r unheard is.stands;
  counts = is.counts;
  armed = is.armed;
  heard_of = λ j. is.heard_of j
      ∙ sym (unheard_test i k r (message_tells_of (slice_get (messages v table h) m) j || has_heard_of v table h k j) (has_heard_of v table h k j) unheard);
}

-- a message that is heard
pub deliver-goes : (v : Version) (table : Timetable) (h : History) (i m : ℕ) (message : Message) (a b : AgentOn CountedTape) (r : Answer) → is_heard r ≡ true
    → slice_get (messages v table h) m ≡ Some message → IsMember v table h i a → b ≡ record a { heard = b.heard }
    → Raises a.heard b.heard message.entries → IsMember v table (record { event = Deliver i m; answer = r } ∷ h) i b
deliver-goes v table h i m message a b r hears there is same raises = record {
  part = subst (IsPartOf table) (sym (ap (λ x. x.part) same)) is.part;
  id = ap (λ x. x.part.agent) same ∙ is.id;
  stands = deliver-at v table h i m message (state_of counted_state a) (state_of counted_state b) r hears there is.stands
      (ap (λ x. whole_records (counted_state x.tape)) same) (ap (λ x. x.broken) same) raises;
  counts = counts_on a b is.counts (ap (λ x. x.part) same) (same_tape a.tape b.tape (ap (λ x. x.tape) same));
  armed = ap (λ x. counted_armed x.tape) same ∙ is.armed;
  heard_of = λ j. raised-heard a.heard b.heard message.entries raises j ∙ ap (λ t. tells_of message.entries j || t) (is.heard_of j) ∙ sym (rule j);
}
  where
    rule : (j : ℕ) → (if (i == i) && is_heard r then message_tells_of (slice_get (messages v table h) m) j || has_heard_of v table h i j else has_heard_of v table h i j)
        ≡ (tells_of message.entries j || has_heard_of v table h i j)
    rule j = own_test i (is_heard r) _ (has_heard_of v table h i j)
        ∙ ap (λ t. if t then message_tells_of (slice_get (messages v table h) m) j || has_heard_of v table h i j else has_heard_of v table h i j) hears
        ∙ ap (λ o. message_tells_of o j || has_heard_of v table h i j) there
