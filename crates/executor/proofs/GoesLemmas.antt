-- How a runner goes on after an event that says nothing.
use Rattle.std.proofs.Common.{◌≡◌, ◌≢◌, ℕ, zero, suc, ◌+◌, ◌/◌, ◌%◌, true, ◌<◌, ◌≤◌, ◌++◌, List, [], ◌∷◌, length, set, get_or, nat_lt, Some, Result, inl, inr, refl, sym, ap, subst, ◌∙◌, arith}
use Rattle.std.specs.Prelude.{◌==◌, Option, option_map, if◌then◌else◌, slice_get}
use Rattle.std.proofs.lemmas.Bool.{cases_eq, cond-true, cond-false, lt-ltb, le-ltb}
use Rattle.std.proofs.lemmas.Option.{same_Some, slice_get-get_or, slice_get_past, slice_get_within}
use Rattle.std.proofs.lemmas.List.{append-nil, length-set}
use Rattle.grid.specs.declared.cell.Cell.{Cell}
use Rattle.model.specs.declared.held.Held.{Held}
use Rattle.model.specs.declared.held.Held.TheVariants.{At, Between}
use Rattle.model.specs.declared.event.Event.{Event}
use Rattle.model.specs.declared.event.Event.TheVariants.{Start, Finish, Say, Deliver, Restart, Tear}
use Rattle.model.specs.declared.why.Why.{Why}
use Rattle.model.specs.declared.why.Why.TheVariants.{NoSuchAgent, BadTear}
use Rattle.model.specs.declared.version.Version.{Version}
use Rattle.model.specs.History.{Answer, History, refused, moving, arrived, armed, is_opened, messages_of, messages, known}
use Rattle.model.specs.Messages.{Message}
use Rattle.model.specs.Rules.{agent_of, path_cell, answer_by, answer}
use Rattle.model.specs.Safety.{held}
use Rattle.model.specs.Timetable.{Track, Timetable, track_of}
use Rattle.agent.specs.Agents.{AgentOn, Moves, Starts, Finishes, IsHolding, state_of}
use Rattle.agent.specs.States as states
use Rattle.agent.specs.States.{State, start_refusal}
use Rattle.agent.specs.Tape.{whole_records}
use Rattle.agent.specs.declared.refusal.Refusal.{Refusal}
use Rattle.agent.specs.declared.counted_tape.CountedTape.{CountedTape}
use Rattle.agent.specs.Replies.{answered, stood}
use Rattle.executor.specs.Code.Reopening.{Reopens}
use Rattle.agent.specs.CountedTape.{counted_state, counted_armed, counted_writes, CountsFor}
use Rattle.executor.specs.Standing.{RunnerState, IsMember, StandsAt}
use Rattle.executor.proofs.OtherLemmas.{member-other}
use Rattle.fleet.specs.Laws.Rules.{held-is, restart-rule}
use Rattle.executor.proofs.RestartLemmas.{tear-goes, tear-refused, restart-goes}
use Rattle.executor.proofs.StoreLemmas.{start-member, finish-member}
use Rattle.depgraph.specs.AgentParts.{IsPartOf}

-- an element that was written is there, and the others stay
pub set-at : {X : Type 0} (l : List X) (i : ℕ) (b : X) → i < length l → slice_get (set l i b) i ≡ Some b
set-at [] i b less = absurd (omega (arith, less))
set-at (x ∷ l) zero b less = refl
set-at (x ∷ l) (suc i) b less = set-at l i b (omega (arith, less))

pub set-other : {X : Type 0} (l : List X) (i k : ℕ) (b : X) → k ≢ i → slice_get (set l i b) k ≡ slice_get l k
set-other [] i k b other = refl
set-other (x ∷ l) zero zero b other = absurd (other refl)
set-other (x ∷ l) zero (suc k) b other = refl
set-other (x ∷ l) (suc i) zero b other = refl
set-other (x ∷ l) (suc i) (suc k) b other = set-other l i k b (λ e. other (ap suc e))

-- no message is said by a refusal
quiet-refusal : (v : Version) (table : Timetable) (e : Event) (w : Why) (h : History) (knows : ℕ → ℕ → ℕ) → messages_of v table e (refused w) h knows ≡ []
quiet-refusal v table (Start i) w h knows = refl
quiet-refusal v table (Finish i) w h knows = refl
quiet-refusal v table (Say i) w h knows = refl
quiet-refusal v table (Deliver i m) w h knows = refl
quiet-refusal v table (Restart i) w h knows = refl
quiet-refusal v table (Tear i n) w h knows = refl

append-none : (xs ys : List Message) → ys ≡ [] → xs ++ ys ≡ xs
append-none xs ys none = ap (λ l. xs ++ l) none ∙ append-nil xs

-- an event of no agent
pub no-agent : (r : RunnerState) (h : History) (e : Event) → StandsAt r h → length r.agents ≤ agent_of e
    → (refused NoSuchAgent ≡ answer r.version r.timetable h e) × StandsAt r (record { event = e; answer = refused NoSuchAgent } ∷ h)
no-agent r h e stands past =
    let count = stands.count in
    let none = slice_get_past r.timetable.tracks (agent_of e) (omega (arith, count, past)) in
    let same = sym (ap (answer_by r.version r.timetable h e) none) in (
      same,
      record {
        conflict_free = stands.conflict_free;
        run = (same, stands.run);
        count = stands.count;
        members = λ i a there. member-other r.version r.timetable h (record { event = e; answer = refused NoSuchAgent }) i a
            (λ own. (let within = slice_get_within r.agents i a there in omega (arith, within, own, past))) (stands.members i a there);
        messages = stands.messages ∙ sym (append-none (messages r.version r.timetable h) _ (quiet-refusal r.version r.timetable e NoSuchAgent h (known r.version r.timetable h)));
      },
    )

-- an event of one agent, by which no message is said
pub one-agent : (r : RunnerState) (h : History) (e : Event) (i : ℕ) (b : AgentOn CountedTape) (answered : Answer) → StandsAt r h → agent_of e ≡ i → i < length r.agents
    → answered ≡ answer r.version r.timetable h e → IsMember r.version r.timetable (record { event = e; answer = answered } ∷ h) i b → messages_of r.version r.timetable e answered h
    (known r.version r.timetable h) ≡ []
    → StandsAt (record r { agents = set r.agents i b }) (record { event = e; answer = answered } ∷ h)
one-agent r h e i b answered stands own within rule is quiet = record {
  conflict_free = stands.conflict_free;
  run = (rule, stands.run);
  count = length-set r.agents i b ∙ stands.count;
  members = λ k a there. elim (cases_eq k i) [
    | inl same ↦ (
        let found = same_Some b a (sym (set-at r.agents i b within) ∙ ap (slice_get (set r.agents i b)) (sym same) ∙ there) in
        subst (λ x. IsMember r.version r.timetable (record { event = e; answer = answered } ∷ h) k x) found
        (subst (λ j. IsMember r.version r.timetable (record { event = e; answer = answered } ∷ h) j b) (sym same) is)
        )
    | inr other ↦ member-other r.version r.timetable h (record { event = e; answer = answered }) k a (λ named. other (sym named ∙ own))
        (stands.members k a (sym (set-other r.agents i k b other) ∙ there))
  ];
  messages = stands.messages ∙ sym (append-none (messages r.version r.timetable h) _ quiet);
}

pub no_track : Track
no_track = record { start = record { x = 0; y = 0 }; later = [] }

-- ---- starts and finishes

module _ (r : RunnerState) (h : History) (stands : StandsAt r h) (i : ℕ) (a b : AgentOn CountedTape) (there : slice_get r.agents i ≡ Some a) (result : Result Cell Refusal) where
  member : IsMember r.version r.timetable h i a
  member = stands.members i a there

  same_refusal : (refusal : ℕ → Option Refusal) (track : Track) → Moves counted_state counted_writes r.timetable track (refusal a.part.agent) a b result
      → Moves counted_state counted_writes r.timetable track (refusal i) a b result
  same_refusal refusal track moves = subst (λ o. Moves counted_state counted_writes r.timetable track o a b result) (ap refusal member.id) moves

  own_track : (track : Track) → track_of r.timetable a.part.agent ≡ Some track → track_of r.timetable i ≡ Some track
  own_track track is = sym (ap (track_of r.timetable) member.id) ∙ is

  pub start-on : ((tt : Timetable) → IsPartOf tt a.part → Starts counted_state counted_writes tt a b result)
      → (answered moving result ≡ answer r.version r.timetable h (Start i)) × StandsAt (record r { agents = set r.agents i b }) (record { event = Start i; answer = answered moving result } ∷ h)
  start-on starts-by =
      let starts = starts-by r.timetable member.part in
      let track = starts.0 in
      let moves = same_refusal (λ k. start_refusal r.timetable k track (state_of counted_state a)) track starts.1 in
      let goes = start-member r.version r.timetable h i track a b member result stands.run moves in
      let rule = goes.0 ∙ sym (ap (answer_by r.version r.timetable h (Start i)) (own_track track starts.1.is_track)) in
      (rule, one-agent r h (Start i) i b (answered moving result) stands refl (slice_get_within r.agents i a there) rule goes.1 refl)

  pub finish-on : ((tt : Timetable) → IsPartOf tt a.part → Finishes counted_state counted_writes tt a b result)
      → (answered arrived result ≡ answer r.version r.timetable h (Finish i)) × StandsAt (record r { agents = set r.agents i b }) (record { event = Finish i; answer = answered arrived result } ∷ h)
  finish-on finishes-by =
      let finishes = finishes-by r.timetable member.part in
      let track = finishes.0 in
      let goes = finish-member r.version r.timetable h i track a b member result stands.run finishes.1 in
      let rule = goes.0 ∙ sym (ap (answer_by r.version r.timetable h (Finish i)) (own_track track finishes.1.is_track)) in
      (rule, one-agent r h (Finish i) i b (answered arrived result) stands refl (slice_get_within r.agents i a there) rule goes.1 refl)

-- ---- tears

-- a tear of more bytes than a record has
pub tear-refused-on : (r : RunnerState) (h : History) (stands : StandsAt r h) (i n : ℕ) → i < length r.agents → 10 < n
    → (refused BadTear ≡ answer r.version r.timetable h (Tear i n)) × StandsAt r (record { event = Tear i n; answer = refused BadTear } ∷ h)
tear-refused-on r h stands i n within more =
    let count = stands.count in
    let track = get_or r.timetable.tracks i no_track in
    let known = slice_get-get_or r.timetable.tracks i no_track (omega (arith, count, within)) in
    let rule = sym (ap (answer_by r.version r.timetable h (Tear i n)) known ∙ cond-true (nat_lt 10 n) (refused BadTear) armed (lt-ltb 10 n more)) in (
      rule,
      record {
        conflict_free = stands.conflict_free;
        run = (rule, stands.run);
        count = stands.count;
        members = λ k a there. elim (cases_eq i k) [
          | inl same ↦ subst (λ j. IsMember r.version r.timetable (record { event = Tear j n; answer = refused BadTear } ∷ h) k a) (sym same)
              (tear-refused r.version r.timetable h k n a (stands.members k a there))
          | inr other ↦ member-other r.version r.timetable h (record { event = Tear i n; answer = refused BadTear }) k a other (stands.members k a there)
        ];
        messages = stands.messages ∙ sym (append-none (messages r.version r.timetable h) _ refl);
      },
    )

pub tear-on : (r : RunnerState) (h : History) (stands : StandsAt r h) (i n : ℕ) (a b : AgentOn CountedTape) → slice_get r.agents i ≡ Some a → n ≤ 10
    → b ≡ record a { tape = b.tape } → counted_state b.tape ≡ counted_state a.tape → counted_armed b.tape ≡ Some n
    → CountsFor a.tape.plan a.tape.agent b.tape → (armed ≡ answer r.version r.timetable h (Tear i n)) × StandsAt (record r { agents = set r.agents i b })
    (record { event = Tear i n; answer = armed } ∷ h)
tear-on r h stands i n a b there most same state arms whose =
    let count = stands.count in
    let within = slice_get_within r.agents i a there in
    let known = slice_get-get_or r.timetable.tracks i no_track (omega (arith, count, within)) in
    let rule = sym (ap (answer_by r.version r.timetable h (Tear i n)) known ∙ cond-false (nat_lt 10 n) (refused BadTear) armed (le-ltb 10 n most)) in
    (rule, one-agent r h (Tear i n) i b armed stands refl within rule (tear-goes r.version r.timetable h i n a b (stands.members i a there) same state arms whose) refl)

-- ---- restarts

held-same : (track : Track) (s t : State) → s.records ≡ t.records → states.held_by_tape track s ≡ states.held_by_tape track t
held-same track s t same =
    ap (λ n. if n % 2 == 1 then Between (path_cell track (n / 2)) (path_cell track (n / 2 + 1)) else At (path_cell track (n / 2))) same

opened-stood : (what : Held) (k : ℕ) → is_opened (stood what k) ≡ true
opened-stood (At u) k = refl
opened-stood (Between u v) k = refl

pub restart-on : (r : RunnerState) (h : History) (stands : StandsAt r h) (i : ℕ) (a b : AgentOn CountedTape) (what : Held) (k : ℕ) → slice_get r.agents i ≡ Some a → Reopens a b
    → ((tt : Timetable) → IsPartOf tt b.part → IsHolding counted_state tt b what) → k ≡ states.finished_moves (state_of counted_state b)
    → (stood what k ≡ answer r.version r.timetable h (Restart i)) × StandsAt (record r { agents = set r.agents i b }) (record { event = Restart i; answer = stood what k } ∷ h)
restart-on r h stands i a b what k there reopens holds-by done =
    let is = stands.members i a there in
    let holds = holds-by r.timetable (subst (IsPartOf r.timetable) (sym reopens.part) is.part) in
    let within = slice_get_within r.agents i a there in
    let track = holds.0 in
    let same : (state_of counted_state b).records ≡ (state_of counted_state a).records = ap (λ c. whole_records (record { contents = c; room = 0; failures = 0 })) reopens.contents in
    let known : track_of r.timetable i ≡ Some track = sym (ap (track_of r.timetable) (ap (λ p. p.agent) reopens.part ∙ is.id)) ∙ holds.1 in
    let stays = held-same track (state_of counted_state b) (state_of counted_state a) same in
    let rule = ap (λ w. stood w k) (holds.2 ∙ stays) ∙ ap (stood (states.held_by_tape track (state_of counted_state a))) (done ∙ ap (λ n. n / 2) same)
    ∙ sym (restart-rule r.version r.timetable h stands.run i track (state_of counted_state a) is.stands) ∙ sym (ap (answer_by r.version r.timetable h (Restart i)) known) in (
      rule,
      one-agent r h (Restart i) i b (stood what k) stands refl within rule
          (restart-goes r.version r.timetable h i a b (stood what k) (opened-stood what k) is reopens.part reopens.contents reopens.heard reopens.broken reopens.armed reopens.whose) refl,
    )

-- ---- what is held

pub held-on : (r : RunnerState) (h : History) (stands : StandsAt r h) (i : ℕ) (a : AgentOn CountedTape) (what : Held) → slice_get r.agents i ≡ Some a →
    ((tt : Timetable) → IsPartOf tt a.part → IsHolding counted_state tt a what)
    → Some what ≡ option_map (λ track. held track h i) (track_of r.timetable i)
held-on r h stands i a what there holds-by =
    let is = stands.members i a there in
    let holds = holds-by r.timetable is.part in
    let track = holds.0 in
    let known : track_of r.timetable i ≡ Some track = sym (ap (track_of r.timetable) is.id) ∙ holds.1 in
    ap (λ w. Some w) (holds.2 ∙ held-is r.version r.timetable h stands.run i track (state_of counted_state a) is.stands) ∙ sym (ap (option_map (λ t. held t h i)) known)
