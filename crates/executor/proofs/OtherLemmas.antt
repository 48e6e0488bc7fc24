-- What happens to one agent leaves the others as they are.
use Rattle.std.proofs.Common.{◌≡◌, ◌≢◌, ℕ, eqb, Bool, false, List, ◌∷◌, cond, refl, sym, ap, ◌∙◌}
use Rattle.std.specs.Prelude.{◌&&◌, ◌||◌, slice_get}
use Rattle.std.proofs.lemmas.Bool.{ne_eqb}
use Rattle.model.specs.declared.version.Version.{Version}
use Rattle.model.specs.declared.event.Event.{Event}
use Rattle.model.specs.declared.event.Event.TheVariants.{Deliver, Restart}
use Rattle.model.specs.History.{Answer, History, Happening, is_heard, is_opened, armed_of, messages}
use Rattle.model.specs.Messages.{Message}
use Rattle.model.specs.Rules.{agent_of}
use Rattle.model.specs.Timetable.{Timetable}
use Rattle.model.specs.Laws.Others.{armed-other}
use Rattle.agent.specs.Agents.{AgentOn, state_of}
use Rattle.agent.specs.declared.counted_tape.CountedTape.{CountedTape}
use Rattle.agent.specs.CountedTape.{counted_state}
use Rattle.fleet.specs.Laws.Speaking.{at-other}
use Rattle.executor.specs.Hearing.{message_tells_of, heard_of_after, has_heard_of}
use Rattle.executor.specs.Standing.{IsMember}

heard_of-other : (e : Event) (r : Answer) (ms : List Message) (i k : ℕ) (before : Bool) → eqb (agent_of e) i ≡ false → heard_of_after e r ms i k before ≡ before
heard_of-other (Deliver j m) r ms i k before other = ap (λ b. cond (b && is_heard r) (message_tells_of (slice_get ms m) k || before) before) other
heard_of-other (Restart j) r ms i k before other = ap (λ b. cond (b && is_opened r) false before) other
heard_of-other e r ms i k before other = refl

-- an agent that the event doesn't name stays where it is
pub member-other : (v : Version) (table : Timetable) (h : History) (now : Happening) (i : ℕ) (a : AgentOn CountedTape) → agent_of now.event ≢ i → IsMember v table h i a → IsMember v table (now ∷ h) i
    a
member-other v table h now i a apart is =
    let other = ne_eqb (agent_of now.event) i apart in
    record {
      part = is.part;
      id = is.id;
      stands = at-other v table h now i (state_of counted_state a) other is.stands;
      counts = is.counts;
      armed = is.armed ∙ sym (armed-other now.event now.answer i (armed_of h i) other);
      heard_of = λ j. is.heard_of j ∙ sym (heard_of-other now.event now.answer (messages v table h) i j (has_heard_of v table h i j) other);
    }
