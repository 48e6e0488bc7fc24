-- A tear and a restart of an agent that is where the history leaves it.
use Rattle.std.proofs.Common.{◌≡◌, ℕ, true, false, [], ◌∷◌, Some, None, sym, ap, subst, ◌∙◌}
use Rattle.model.specs.declared.version.Version.{Version}
use Rattle.model.specs.declared.event.Event.TheVariants.{Restart, Tear}
use Rattle.model.specs.declared.why.Why.TheVariants.{BadTear}
use Rattle.model.specs.History as history
use Rattle.model.specs.History.{Answer, History, refused, armed_of}
use Rattle.model.specs.Timetable.{Timetable}
use Rattle.agent.specs.Agents.{AgentOn, state_of}
use Rattle.agent.specs.Counters.{is_heard_of}
use Rattle.agent.specs.Tape.{whole_records}
use Rattle.agent.specs.declared.counted_tape.CountedTape.{CountedTape}
use Rattle.agent.specs.CountedTape.{counted_state, counted_armed, CountsFor}
use Rattle.depgraph.specs.AgentParts.{IsPartOf}
use Rattle.fleet.specs.Members.{IsLeftBy}
use Rattle.fleet.specs.Laws.Speaking.{tear-at, own_opened, restart-at}
use Rattle.fleet.specs.Laws.Storing.{own_test}
use Rattle.executor.specs.Hearing.{has_heard_of}
use Rattle.executor.specs.Standing.{IsMember}
use Rattle.executor.proofs.StoreLemmas.{counts_on}

-- ---- tears

-- the state of an agent of which only the tape has changed, and not what that has
pub same-state : (a b : AgentOn CountedTape) → b ≡ record a { tape = b.tape } → counted_state b.tape ≡ counted_state a.tape → state_of counted_state b ≡ state_of counted_state a
same-state a b same state = ap (state_of counted_state) same ∙ ap (λ t. record { records = whole_records t; heard = a.heard; broken = a.broken }) state

-- an armed agent
pub tear-goes : (v : Version) (table : Timetable) (h : History) (i n : ℕ) (a b : AgentOn CountedTape) → IsMember v table h i a → b ≡ record a { tape = b.tape }
    → counted_state b.tape ≡ counted_state a.tape → counted_armed b.tape ≡ Some n → CountsFor a.tape.plan a.tape.agent b.tape → IsMember v table
    (record { event = Tear i n; answer = history.armed } ∷ h) i b
tear-goes v table h i n a b is same state armed whose = record {
  part = subst (IsPartOf table) (sym (ap (λ x. x.part) same)) is.part;
  id = ap (λ x. x.part.agent) same ∙ is.id;
  stands = subst (IsLeftBy v table (record { event = Tear i n; answer = history.armed } ∷ h) i) (sym (same-state a b same state))
      (tear-at v table h i n i (state_of counted_state a) history.armed is.stands);
  counts = counts_on a b is.counts (ap (λ x. x.part) same) whose;
  armed = armed ∙ sym (own_test i true (Some n) (armed_of h i));
  heard_of = λ j. ap (λ x. is_heard_of x.heard j) same ∙ is.heard_of j;
}

-- one that was not armed
pub tear-refused : (v : Version) (table : Timetable) (h : History) (i n : ℕ) (a : AgentOn CountedTape) → IsMember v table h i a → IsMember v table
    (record { event = Tear i n; answer = refused BadTear } ∷ h) i a
tear-refused v table h i n a is = record {
  part = is.part;
  id = is.id;
  stands = tear-at v table h i n i (state_of counted_state a) (refused BadTear) is.stands;
  counts = is.counts;
  armed = is.armed ∙ sym (own_test i false (Some n) (armed_of h i));
  heard_of = is.heard_of;
}

-- ---- restarts

-- an agent that was opened anew, and of which nothing is armed
pub restart-goes : (v : Version) (table : Timetable) (h : History) (i : ℕ) (a b : AgentOn CountedTape) (r : Answer) → history.is_opened r ≡ true → IsMember v table h i a
    → b.part ≡ a.part → (counted_state b.tape).contents ≡ (counted_state a.tape).contents → b.heard ≡ [] → b.broken ≡ false → counted_armed b.tape ≡ None
    → CountsFor a.tape.plan a.tape.agent b.tape → IsMember v table (record { event = Restart i; answer = r } ∷ h) i b
restart-goes v table h i a b r opened is part contents heard broken armed whose = record {
  part = subst (IsPartOf table) (sym part) is.part;
  id = ap (λ p. p.agent) part ∙ is.id;
  stands = restart-at v table h i (state_of counted_state a) (state_of counted_state b) r opened is.stands
      (ap (λ c. whole_records (record { contents = c; room = 0; failures = 0 })) contents) heard broken;
  counts = counts_on a b is.counts part whose;
  armed = armed ∙ sym (own_opened i r None (armed_of h i) opened);
  heard_of = λ j. ap (λ l. is_heard_of l j) heard ∙ sym (own_opened i r false (has_heard_of v table h i j) opened);
}
